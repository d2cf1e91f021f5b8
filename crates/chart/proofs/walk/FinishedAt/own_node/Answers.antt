use Rattle.chart.proofs.Walking.{next_children}
use Rattle.chart.proofs.walk.FinishedAt.own_node.Goals as goal

pub invariant_of-rule : goal.invariant_of-rule
invariant_of-rule c =
    let k = next_children c.args.self.now c.place-place.result c.place-place.ensures c.in-Next.active c.in-Next.child c.in-Next.is in
    record { finished = k.0.closed }
