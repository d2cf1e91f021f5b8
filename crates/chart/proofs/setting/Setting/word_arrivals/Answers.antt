use Rattle.std.proofs.Common.{ap, ◌∙◌, rules, arith}
use Rattle.chart_model.specs.Plain.{arrive_all, word_brings}
use Rattle.chart.specs.Bringing.{heard_word}
use Rattle.chart.specs.Charts.{held}
use Rattle.chart.specs.Settings.{task}
use Rattle.chart.specs.View.{room}
use Rattle.chart.proofs.Rounds.{brought_gathered}
use Rattle.chart.proofs.setting.Setting.word_arrivals.Goals as goal

pub returns : goal.returns
returns g c =
    let t = task c.args.self.now in
    c.bring_each.ensures (heard_word t) (λ u n r within later post. search rules)
    ∙ ap (arrive_all room t.weights.lighter (held c.args.table.now)) (brought_gathered (word_brings t.weights) t.words c.len.result (omega arith))
