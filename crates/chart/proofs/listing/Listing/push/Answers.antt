use Rattle.std.proofs.Common.{[], ◌∷◌, refl, arith}
use Rattle.chart.proofs.Overwriting.{wrote_one, wrote_past}
use Rattle.chart.proofs.listing.Listing.push.Goals as goal

pub returns-then-self-clause-lists : goal.returns-then-self-clause-lists
returns-then-self-clause-lists c =
    let listing = c.args.self.now in
    let full = c.if-self.true in
    wrote_past listing.nodes.now listing.filled (c.args.node ∷ []) c.args.node refl (omega arith)

pub returns-clause-lists : goal.returns-clause-lists
returns-clause-lists c =
    let listing = c.args.self.now in
    let within = listing.within in
    let room = c.if-self.false in
    wrote_one listing.nodes.now listing.filled (c.args.node ∷ []) c.args.node refl (omega arith)
