use Rattle.std.proofs.Common.{◌≡◌, Err, sym, ap, ◌∙◌, rules}
use Rattle.chart_model.specs.Plain.{Chart, arrive_all, arrivals, count_unless_full, completed}
use Rattle.chart.specs.View.{room, finishing_next}
use Rattle.chart.specs.Refusals.{step_number, by_number}
use Rattle.chart.specs.Charts.{held}
use Rattle.chart.specs.Settings.{task}
use Rattle.chart.proofs.Advancing.{count_unless_full_ok, count_unless_full_err, full_steps, none_steps, some_steps}
use Rattle.chart.proofs.setting.Setting.advance.Goals as goal

pub returns-in_err-count_unless_full : goal.returns-in_err-count_unless_full
returns-in_err-count_unless_full g c =
    let t = task c.args.self.now in
    let before = held c.args.table.now in
    let refused = c.in_err-count_unless_full.ensures in
    let said : by_number step_number c.from_residual.result ≡ Err (step_number c.in_err-count_unless_full.field-0.0) = search rules in
    let steps = full_steps t before (count_unless_full_err before _ refused) in
    record { view = sym steps.leaves; answer = said ∙ refused ∙ sym steps.answers }

pub returns-in_err-finished : goal.returns-in_err-finished
returns-in_err-finished g c =
    let t = task c.args.self.now in
    let before = held c.args.table.now in
    let unfilled = count_unless_full_ok before _ c.in_ok-count_unless_full.ensures in
    let found = c.finish_lightest.ensures in
    let is = c.in_err-finished.ensures.ok_part in
    let said : by_number step_number c.from_residual-in_err-finished.result ≡ Err 11 = search rules in
    let steps = none_steps t before unfilled (sym is ∙ found.lightest) in
    record { view = found.view ∙ ap (finishing_next before) is ∙ sym steps.leaves; answer = said ∙ sym steps.answers }

pub returns : goal.returns
returns g c =
    let t = task c.args.self.now in
    let before = held c.args.table.now in
    let s = c.in_ok-finished.finished in
    let unfilled = count_unless_full_ok before _ c.in_ok-count_unless_full.ensures in
    let found = c.finish_lightest.ensures in
    let is = c.in_ok-finished.ensures.ok_part in
    let steps = some_steps t before unfilled s (sym is ∙ found.lightest) in
    let after : held c.spread.new.table ≡ completed t room before s =
    c.spread.ensures
    ∙ ap (λ (d : Chart). arrive_all room t.weights.lighter d (arrivals t s d.places)) (found.view ∙ ap (finishing_next before) is) in
    record { view = after ∙ sym steps.leaves; answer = c.count_unless_full-2.ensures ∙ ap count_unless_full after ∙ sym steps.answers }
