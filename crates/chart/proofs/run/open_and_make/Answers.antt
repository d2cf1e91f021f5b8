use Rattle.chart.specs.Working.{chart}
use Rattle.chart.proofs.Reachability.{sound_of, stands_of}
use Rattle.chart.proofs.run.open_and_make.Goals as goal

pub returns-clause-stands : goal.returns-clause-stands
returns-clause-stands g c =
    let after = c.make_all.new.chart in
    let sound = sound_of g.met.W.Weighing.lawful after.setting in
    stands_of sound (chart after) after.reachable
