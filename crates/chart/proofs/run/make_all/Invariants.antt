use Rattle.std.proofs.Common.{◌≡◌, take}
use Rattle.chart.specs.Calls.{after_call, Made, AllLightest}
use Rattle.chart.specs.Working.{setting_of, task, chart}
use Rattle.chart.proofs.Turns.{Midway}
use Rattle.chart.proofs.run.make_all.Given as goal

abbrev pub invariant-loop-call : goal.invariant-loop-call
invariant-loop-call g l =
    let t = task l.initial.chart in
    record {
      made : Midway (after_call t) (Made t) (chart l.initial.chart) l.initial.calls l.call-index (chart l.chart) l.calls;
      lightest : AllLightest t (take l.call-index l.calls);
      setting : setting_of l.chart ≡ setting_of l.initial.chart;
    }
