use Rattle.chart.specs.Charts.{held}
use Rattle.chart.specs.Working.{task}
use Rattle.chart.proofs.Keeping.{fits}
use Rattle.chart.proofs.Reachability.{sound_of, step_reachable, stands_of}
use Rattle.chart.proofs.working.WorkingChart.step.Goals as goal

pub invariant_of-self : goal.invariant_of-self
invariant_of-self g c =
    let a = c.args.self.now in
    record {
      reachable = step_reachable (task a) (held a.table) (held c.advance.new.table) c.advance.ensures.view a.reachable;
      fits = fits c.advance.new.table;
    }

pub returns-clause-stands : goal.returns-clause-stands
returns-clause-stands g c =
    let a = c.args.self.now in
    let sound = sound_of g.met.W.Weighing.lawful a.setting in
    let after = held c.advance.new.table in
    stands_of sound after (step_reachable (task a) (held a.table) after c.advance.ensures.view a.reachable)
