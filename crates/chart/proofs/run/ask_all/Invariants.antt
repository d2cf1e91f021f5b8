use Rattle.std.proofs.Common.{take}
use Rattle.chart.specs.Calls.{Asked, AllTrue}
use Rattle.chart.specs.Settled.{task, chart}
use Rattle.chart.proofs.Turns.{Midway}
use Rattle.chart.proofs.run.ask_all.Given as goal

abbrev pub invariant-loop-question : goal.invariant-loop-question
invariant-loop-question g l =
    record {
      asked : Midway (λ d _. d) (Asked (task l.chart)) (chart l.chart) l.initial.questions l.question-index (chart l.chart) l.questions;
      truth : AllTrue (task l.chart) (chart l.chart) (take l.question-index l.questions);
    }
