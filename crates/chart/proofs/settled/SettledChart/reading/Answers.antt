use Rattle.std.proofs.Common.{◌≡◌, rules, List, Ok, Err, ◌∙◌}
use Rattle.std.proofs.lemmas.Result.{err_from_is_err_and}
use Rattle.chart_model.specs.declared.node.Node.{Node}
use Rattle.chart.specs.Refusals.{settled_number}
use Rattle.chart.specs.Settled.{task, chart}
use Rattle.chart.proofs.Reachability.{sound_of, reading_says}
use Rattle.chart.proofs.Finding.{refused, all_read, first_read}
use Rattle.chart.proofs.settled.SettledChart.reading.Goals as goal

pub returns-in_err-at : goal.returns-in_err-at
returns-in_err-at g c =
    let a = c.args.self.now in
    let sound = sound_of g.met.W.Weighing.lawful a.working.setting in
    let p = c.args.phrase in
    let before = c.args.nodes.now in
    let e = err_from_is_err_and c.from_residual.result c.from_residual.ensures.1 in
    let number = settled_number c.in_err-at.field-0.0 in
    let r = refused (task a) (chart a) p before number c.in_err-at.ensures.found in
    rw (e.1, e.2) (record { answer = r.answer; list = r.list; says = reading_says sound (chart a) a.working.reachable a.working.fits a.stopped p before before (Err number) r.list r.answer })

pub returns-in_err-walk : goal.returns-in_err-walk
returns-in_err-walk g c =
    let a = c.args.self.now in
    let sound = sound_of g.met.W.Weighing.lawful a.working.setting in
    let p = c.args.phrase in
    let before = c.args.nodes.now in
    let e = err_from_is_err_and c.from_residual-in_err-walk.result c.from_residual-in_err-walk.ensures.1 in
    let r = first_read (task a) (chart a) p before c.in_ok-at.field-0 c.in_ok-at.ensures.found c.walk.new.listing.nodes.now c.in_err-walk.ensures.lists in
    let list = λ (after : List Node) (same : after ≡ c.walk.new.listing.nodes.now). same ∙ r.list in
    rw (e.1, e.2) (record {
      answer = r.answer;
      list = list _ (search rules);
      says = reading_says sound (chart a) a.working.reachable a.working.fits a.stopped p before _ (Err 12) (list _ (search rules)) r.answer;
    })

pub returns : goal.returns
returns g c =
    let a = c.args.self.now in
    let sound = sound_of g.met.W.Weighing.lawful a.working.setting in
    let p = c.args.phrase in
    let before = c.args.nodes.now in
    let filled = c.walk.new.listing.filled in
    let r = all_read (task a) (chart a) p before c.in_ok-at.field-0 c.in_ok-at.ensures.found c.walk.new.listing.nodes.now filled c.in_ok-walk.ensures.lists in
    let list = λ (after : List Node) (same : after ≡ c.walk.new.listing.nodes.now). same ∙ r.list in
    record {
      answer = r.answer;
      list = list _ (search rules);
      says = reading_says sound (chart a) a.working.reachable a.working.fits a.stopped p before _ (Ok filled) (list _ (search rules)) r.answer;
    }
