use Rattle.chart.specs.Charts.{held}
use Rattle.chart.specs.Working.{task}
use Rattle.chart.proofs.Keeping.{fits}
use Rattle.chart.proofs.Reachability.{settling_reachable}
use Rattle.chart.proofs.working.WorkingChart.exhaust.Goals as goal

pub invariant_of-self : goal.invariant_of-self
invariant_of-self g c =
    let a = c.args.self.now in
    record {
      reachable = settling_reachable (task a) (held a.table) (held c.advance_all.new.table) c.advance_all.ensures.settled a.reachable;
      fits = fits c.advance_all.new.table;
    }
