use Rattle.std.proofs.Common.{Ok, Err}
use Rattle.std.proofs.lemmas.Result.{err_from_is_err_and}
use Rattle.chart.specs.Refusals.{settled_number}
use Rattle.chart.specs.Settled.{task, chart}
use Rattle.chart.proofs.Reachability.{sound_of, settled_says}
use Rattle.chart.proofs.Finding.{found_ok, found_err}
use Rattle.chart.proofs.settled.SettledChart.question.Goals as goal

pub returns-in_err-finished : goal.returns-in_err-finished
returns-in_err-finished g c =
    let a = c.args.self.now in
    let sound = sound_of g.met.W.Weighing.lawful a.working.setting in
    let p = c.args.phrase in
    let e = err_from_is_err_and c.from_residual.result c.from_residual.ensures.1 in
    let number = settled_number c.in_err-finished.field-0.0 in
    let is = found_err (task a) (chart a) p number c.in_err-finished.ensures.found in
    rw (e.1, e.2) (record { answer = is; says = settled_says sound (chart a) a.working.reachable a.working.fits a.stopped p (Err number) is })

pub returns : goal.returns
returns g c =
    let a = c.args.self.now in
    let sound = sound_of g.met.W.Weighing.lawful a.working.setting in
    let p = c.args.phrase in
    let s = c.in_ok-finished.field-0 in
    let is = found_ok (task a) (chart a) p s c.in_ok-finished.ensures.found in
    record { answer = is; says = settled_says sound (chart a) a.working.reachable a.working.fits a.stopped p (Ok s.weight) is }
