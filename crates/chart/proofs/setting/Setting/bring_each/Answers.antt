use Rattle.std.proofs.Common.{[], ◌∷◌, Some, None, ap, ◌∙◌}
use Rattle.chart.specs.Charts.{held}
use Rattle.chart.proofs.Rounds.{rest_none, rest_some, later_then}
use Rattle.chart.proofs.setting.Setting.bring_each.Goals as goal
use Rattle.chart.proofs.setting.Setting.bring_each.Goals.{in-Some, in_default}

pub loop-n-preserved : goal.loop-n-preserved
loop-n-preserved g c =
    let ws = g.W.Weighing.weights c.args.self.now.weighing in
    let now = held c.loop-n.table in
    let after = held c.match-brings.table in
    let so_far = c.loop-n.invariant in
    let within = c.loop-n-test.true in
    elim c.match-brings.branch [
      | in-Some w ↦
          let a = w.in-Some.arrival in
          let arrived = ap held w.table-is ∙ w.arrive.ensures in
          record {
            later = later_then ws (held c.args.table.now) now after so_far.later (a ∷ [], arrived);
            rest = λ f computes.
                rest_some f ws c.args.count c.loop-n.n now _ within (so_far.rest f computes) a after
                (computes _ c.loop-n.n (Some a) within so_far.later w.in-Some.ensures) arrived;
          }
      | in_default w ↦
          rw w.table-is (record {
            later = so_far.later;
            rest = λ f computes.
                rest_none f ws c.args.count c.loop-n.n now _ within (so_far.rest f computes)
                (computes _ c.loop-n.n None within so_far.later w.in_default.ensures);
          })
    ]
