use Rattle.std.proofs.Common.{sym, subst}
use Rattle.chart.specs.Charts.{held}
use Rattle.chart.proofs.Keeping.{Kept, kept_arrive, kept}
use Rattle.chart.proofs.table.Table.arrive.Goals as goal

pub invariant_of-self : goal.invariant_of-self
invariant_of-self g c =
    let t = c.args.self.now in
    let lighter = (g.W.Weighing.weights c.args.weighing.now).lighter in
    let still = subst Kept (sym c.arrive.ensures.view) (kept_arrive lighter (held t) c.args.arrival (kept t) c.requires) in
    record { taken = still.fits.taken; room = c.arrive.ensures.taken; counted = still.counted; orderly = still.orderly }
