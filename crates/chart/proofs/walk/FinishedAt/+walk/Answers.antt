use Rattle.std.proofs.lemmas.Result.{err_from_is_err_and}
use Rattle.chart.specs.Walk.{filled_then}
use Rattle.chart.proofs.Walking.{first_child, next_children, walks_none, walks_first, walks_active_none, walks_next}
use Rattle.chart.proofs.walk.FinishedAt.+walk.Goals as goal

pub returns-in_err-write_own-clause-lists : goal.returns-in_err-write_own-clause-lists
returns-in_err-write_own-clause-lists t c =
    let before = c.args.listing.now in
    let own = c.write_own.new.listing in
    let p = err_from_is_err_and c.from_residual.result c.from_residual.ensures.1 in
    rw p.1 (walks_none c.args.self.now c.place-place.result c.place-place.ensures before.nodes.now own.nodes.now before.filled c.in_err-write_own.ensures.lists)

pub invariant_of-walk : goal.invariant_of-walk
invariant_of-walk t c =
    let k = first_child c.args.self.now c.place-place.result c.place-place.ensures _ c.in-First.child c.in-First.is in
    record { finished = k.closed }

pub walk-requires : goal.walk-requires
walk-requires t c =
    let k = first_child c.args.self.now c.place-place.result c.place-place.ensures _ c.in-First.child c.in-First.is in
    (rw c.decreases at k.sooner, tt)

pub returns-in-First-clause-lists : goal.returns-in-First-clause-lists
returns-in-First-clause-lists t c =
    let before = c.args.listing.now in
    let own = c.write_own.new.listing in
    let after = c.walk.new.listing in
    walks_first c.args.self.now c.place-place.result c.place-place.ensures before.nodes.now own.nodes.now before.filled own.filled c.in_ok-write_own.ensures.lists
    after.nodes.now _ c.in-First.child (filled_then after.filled c.walk.result) c.in-First.is c.walk.ensures.lists

pub invariant_of-walk-in-Next : goal.invariant_of-walk-in-Next
invariant_of-walk-in-Next t c =
    let k = next_children c.args.self.now c.place-place.result c.place-place.ensures c.in-Next.active c.in-Next.child c.in-Next.is in
    record { finished = k.0.closed }

pub walk-requires-in-Next : goal.walk-requires-in-Next
walk-requires-in-Next t c =
    let k = (next_children c.args.self.now c.place-place.result c.place-place.ensures c.in-Next.active c.in-Next.child c.in-Next.is).0 in
    (rw c.decreases at k.sooner, tt)

pub returns-in_err-walk-in-Next-clause-lists : goal.returns-in_err-walk-in-Next-clause-lists
returns-in_err-walk-in-Next-clause-lists t c =
    let before = c.args.listing.now in
    let own = c.write_own.new.listing in
    let p = err_from_is_err_and c.from_residual-in_err-walk-in-Next.result c.from_residual-in_err-walk-in-Next.ensures.1 in
    rw p.1 (walks_active_none c.args.self.now c.place-place.result c.place-place.ensures before.nodes.now own.nodes.now before.filled own.filled c.in_ok-write_own.ensures.lists
    c.walk-in-Next.new.listing.nodes.now c.in-Next.active c.in-Next.child c.in-Next.is c.in_err-walk-in-Next.ensures.lists)

pub invariant_of-walk-in-Next-2 : goal.invariant_of-walk-in-Next-2
invariant_of-walk-in-Next-2 t c =
    let k = next_children c.args.self.now c.place-place.result c.place-place.ensures c.in-Next.active c.in-Next.child c.in-Next.is in
    record { finished = k.1.closed }

pub walk-requires-in-Next-2 : goal.walk-requires-in-Next-2
walk-requires-in-Next-2 t c =
    let k = (next_children c.args.self.now c.place-place.result c.place-place.ensures c.in-Next.active c.in-Next.child c.in-Next.is).1 in
    (rw c.decreases at k.sooner, tt)

pub returns-in_ok-walk-in-Next-clause-lists : goal.returns-in_ok-walk-in-Next-clause-lists
returns-in_ok-walk-in-Next-clause-lists t c =
    let before = c.args.listing.now in
    let own = c.write_own.new.listing in
    let middle = c.walk-in-Next.new.listing in
    let after = c.walk-in-Next-2.new.listing in
    walks_next c.args.self.now c.place-place.result c.place-place.ensures before.nodes.now own.nodes.now before.filled own.filled c.in_ok-write_own.ensures.lists
    after.nodes.now c.in-Next.active c.in-Next.child c.in-Next.is middle.nodes.now middle.filled (filled_then after.filled c.walk-in-Next-2.result)
    c.in_ok-walk-in-Next.ensures.lists c.walk-in-Next-2.ensures.lists
