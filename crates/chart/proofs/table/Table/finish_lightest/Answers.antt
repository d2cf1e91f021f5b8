use Rattle.std.proofs.Common.{sym, subst, arith}
use Rattle.chart_model.specs.Plain.{Chart}
use Rattle.chart.specs.Charts.{held}
use Rattle.chart.specs.View.{IsFinished}
use Rattle.chart.proofs.Keeping.{Kept, kept, view_within, found}
use Rattle.chart.proofs.table.Table.finish_lightest.Goals as goal

pub finish-requires : goal.finish-requires
finish-requires g c =
    let t = c.args.self.now in
    let lighter = (g.W.Weighing.weights c.args.weighing.now).lighter in
    let f = found lighter (held t) (kept t) _ (sym c.in_ok-lightest.ensures) in
    let long = view_within t.places in
    let room = t.room in
    rw c.from.ensures (record { within = omega arith; room = t.room; numbers = f.left })

pub invariant_of-self : goal.invariant_of-self
invariant_of-self g c =
    let t = c.args.self.now in
    let lighter = (g.W.Weighing.weights c.args.weighing.now).lighter in
    let f = found lighter (held t) (kept t) _ (sym c.in_ok-lightest.ensures) in
    let room = t.room in
    let taken = c.finish.ensures.taken in
    let still = subst Kept (sym (rw c.from.ensures at c.finish.ensures.view)) f.kept in
    record { taken = still.fits.taken; room = omega arith; counted = still.counted; orderly = still.orderly }

pub returns-clause-finished : goal.returns-clause-finished
returns-clause-finished g c =
    let t = c.args.self.now in
    let lighter = (g.W.Weighing.weights c.args.weighing.now).lighter in
    let f = found lighter (held t) (kept t) _ (sym c.in_ok-lightest.ensures) in
    subst (λ (d : Chart). IsFinished d c.in_ok-lightest.lightest.at) (sym (rw c.from.ensures at c.finish.ensures.view)) f.is_finished
