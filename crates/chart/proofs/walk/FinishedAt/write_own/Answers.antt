use Rattle.chart.specs.Charts.{held}
use Rattle.chart.specs.Walk.{own_at}
use Rattle.chart.proofs.Overwriting.{wrote_nothing}
use Rattle.chart.proofs.walk.FinishedAt.write_own.Goals as goal

pub returns-in-None-clause-lists : goal.returns-in-None-clause-lists
returns-in-None-clause-lists c =
    let listing = c.args.listing.now in
    wrote_nothing listing.nodes.now listing.filled (own_at (held c.args.self.now.table.now).places c.args.self.now.at) c.in-None.ensures listing.within
