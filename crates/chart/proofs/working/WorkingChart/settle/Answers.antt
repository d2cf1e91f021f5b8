use Rattle.std.proofs.Common.{◌≡◌, Err, subst}
use Rattle.chart_model.specs.Plain.{step_answer, stop_number}
use Rattle.chart_model.specs.Stands.{Stands, Complete}
use Rattle.chart.specs.Settings as given
use Rattle.chart.specs.View.{room}
use Rattle.chart.specs.Working.{task, chart}
use Rattle.chart.proofs.Reachability.{sound_of, halted_refusing, stands_of, complete_of}
use Rattle.chart.proofs.working.WorkingChart.settle.Goals as goal

pub returns : goal.returns
returns g c =
    let after = c.exhaust.new.self in
    let sound = sound_of g.met.W.Weighing.lawful after.setting in
    let same = c.exhaust.ensures.setting in
    let halted = c.exhaust.ensures.stopped in
    record {
      settled = c.exhaust.ensures.settled;
      refuses = subst (λ s. step_answer (given.task s) room (chart after) ≡ Err (stop_number (chart after))) same (halted_refusing (task after) (chart after) halted);
      stands = subst (λ s. Stands (given.task s) (chart after)) same (stands_of sound (chart after) after.reachable);
      complete = subst (λ s. Complete (given.task s) room (chart after)) same (complete_of sound (chart after) after.reachable after.fits halted);
      setting = same;
    }
