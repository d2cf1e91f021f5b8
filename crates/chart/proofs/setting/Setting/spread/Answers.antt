use Rattle.std.proofs.Common.{◌≡◌, ◌≤◌, length, ap, ◌∙◌, sym, subst, rules, arith}
use Rattle.chart_model.specs.Plain.{arrive_all}
use Rattle.chart.specs.Bringing.{BringsFinished, begun_rule, met_at, brought}
use Rattle.chart.specs.Charts.{held}
use Rattle.chart.specs.Settings.{task}
use Rattle.chart.specs.View.{room}
use Rattle.chart.proofs.Naming.{is_finished_later, begun_finished}
use Rattle.chart.proofs.Staying.{since_then, meets_still, spreads}
use Rattle.chart.proofs.setting.Setting.spread.Goals as goal

pub bring_each-requires-clause-finished : goal.bring_each-requires-clause-finished
bring_each-requires-clause-finished g c u n r within later post =
    let t = task c.args.self.now in
    let s = c.args.finished in
    let brings : r ≡ begun_rule t s n = search rules in
    subst (BringsFinished (held u.now)) (sym brings) (begun_finished t s n (held u.now) (is_finished_later t.weights (held c.args.table.now) (held u.now) s.at later c.requires))

pub bring_each-requires-2-clause-finished : goal.bring_each-requires-2-clause-finished
bring_each-requires-2-clause-finished g c u n r within later post =
    let t = task c.args.self.now in
    let s = c.args.finished in
    let before = held c.args.table.now in
    let between = held c.bring_each.new.table in
    let all : length t.rules ≤ c.len.result = omega arith in
    let by_rules = c.bring_each.ensures (begun_rule t s) (λ u n r within later post. search rules) in
    let since = since_then t s before between c.len.result all by_rules (held u.now) later in
    let finished = is_finished_later t.weights before (held u.now) s.at since c.requires in
    search rules

pub returns : goal.returns
returns g c =
    let t = task c.args.self.now in
    let s = c.args.finished in
    let before = held c.args.table.now in
    let between = held c.bring_each.new.table in
    let all : length t.rules ≤ c.len.result = omega arith in
    let by_rules = c.bring_each.ensures (begun_rule t s) (λ u n r within later post. search rules) in
    let by_places =
    c.bring_each-2.ensures (met_at t s before.places)
    (λ u n r within later post.
    let here : r ≡ met_at t s (held u.now).places n = search rules in
    here ∙ meets_still t s before between c.len.result all by_rules (held u.now) later n) in
    spreads t s before between c.len.result all by_rules (held c.bring_each-2.new.table)
    (by_places ∙ ap (λ m. arrive_all room t.weights.lighter between (brought (met_at t s before.places) m)) c.len-places.ensures)
