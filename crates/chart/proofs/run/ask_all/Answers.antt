use Rattle.std.proofs.Common.{refl, arith}
use Rattle.chart.specs.Calls.{Asked}
use Rattle.chart.specs.Settled.{task, chart}
use Rattle.chart.proofs.Turns.{turned, all_turned, in_turn_zip}
use Rattle.chart.proofs.Runs.{truth_next}
use Rattle.chart.proofs.run.ask_all.Goals as goal

pub loop-question-preserved : goal.loop-question-preserved
loop-question-preserved g c =
    let asker = c.args.chart.now in
    let l = c.loop-question in
    record {
      asked = turned (chart asker) _ _ (omega arith) l.invariant.asked (c.question.result, refl, c.question.ensures.answer) refl;
      truth = truth_next (task asker) (chart asker) l.questions l.question-index _ c.question.result (omega arith) l.invariant.truth c.question.ensures.says;
    }

pub returns-clause-asked : goal.returns-clause-asked
returns-clause-asked g c =
    let asker = c.args.chart.now in
    in_turn_zip (Asked (task asker)) (chart asker) c.args.questions.now c.loop-question.questions (all_turned (omega arith) c.loop-question.invariant.asked)
