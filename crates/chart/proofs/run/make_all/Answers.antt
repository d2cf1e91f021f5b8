use Rattle.std.proofs.Common.{◌∙◌, subst, arith}
use Rattle.std.proofs.lemmas.Grind.{common_steps}
use Rattle.chart.specs.Calls.{AnswersLightest}
use Rattle.chart.specs.Settings as given
use Rattle.chart.specs.Working.{task}
use Rattle.chart.proofs.Turns.{all_turned}
use Rattle.chart.proofs.Runs.{all_next}
use Rattle.chart.proofs.run.make_all.Goals as goal

pub loop-call-preserved : goal.loop-call-preserved
loop-call-preserved g c =
    let l = c.loop-call in
    record {
      made = grind (arith, common_steps);
      lightest =
          all_next (AnswersLightest (task c.args.chart.now)) l.calls l.call-index c.make.new.call (omega arith) l.invariant.lightest
          (subst (λ x. AnswersLightest (given.task x) c.make.new.call) l.invariant.setting c.make.ensures.lightest);
      setting = c.make.ensures.setting ∙ l.invariant.setting;
    }

pub returns-clause-made : goal.returns-clause-made
returns-clause-made g c = all_turned (omega arith) c.loop-call.invariant.made
