use Rattle.std.proofs.Common.{rules}
use Rattle.chart.specs.Working.{chart}
use Rattle.chart.proofs.Reachability.{sound_of, working_says}
use Rattle.chart.proofs.working.WorkingChart.question.Goals as goal

pub returns-in_err-edge-clause-says : goal.returns-in_err-edge-clause-says
returns-in_err-edge-clause-says g c =
    let a = c.args.self.now in
    let sound = sound_of g.met.W.Weighing.lawful a.setting in
    working_says sound (chart a) a.reachable c.args.phrase _ (search rules)

pub returns-clause-says : goal.returns-clause-says
returns-clause-says g c =
    let a = c.args.self.now in
    let sound = sound_of g.met.W.Weighing.lawful a.setting in
    working_says sound (chart a) a.reachable c.args.phrase _ (search rules)
