use Rattle.std.proofs.Common.{ap, ◌∙◌, rules, arith}
use Rattle.chart_model.specs.Plain.{arrive_all, empty_brings}
use Rattle.chart.specs.Bringing.{empty_rule}
use Rattle.chart.specs.Charts.{held}
use Rattle.chart.specs.Settings.{task}
use Rattle.chart.specs.View.{room}
use Rattle.chart.proofs.Rounds.{brought_gathered}
use Rattle.chart.proofs.setting.Setting.empty_arrivals.Goals as goal

pub returns : goal.returns
returns g c =
    let t = task c.args.self.now in
    let node = c.args.node in
    c.bring_each.ensures (empty_rule t node) (λ u n r within later post. search rules)
    ∙ ap (arrive_all room t.weights.lighter (held c.args.table.now)) (brought_gathered (empty_brings t.weights node) t.rules c.len.result (omega arith))
