use Rattle.std.proofs.Common.{refl, sym, ◌∙◌, arith}
use Rattle.chart.specs.Charts.{held}
use Rattle.chart.specs.Settings.{task}
use Rattle.chart.specs.View.{room}
use Rattle.chart.proofs.Keeping.{finished_within}
use Rattle.chart.proofs.Settling.{by_number_ok, by_number_err, goes_on, settles_on, settles_at}
use Rattle.chart.proofs.setting.Setting.advance_all.Goals as goal

pub loop-init : goal.loop-init
loop-init g c = record { left = room; sum = refl; gives = refl }

pub loop-smaller : goal.loop-smaller
loop-smaller g c =
    let t = task c.args.self.now in
    let most = finished_within c.advance.new.table in
    let (n, answer) = by_number_ok c.advance.result _ (sym c.is_ok.ensures.value ∙ c.loop-test.true) c.advance.ensures.answer in
    let more = goes_on t (held c.loop.table) (held c.advance.new.table) n c.advance.ensures.view answer in
    omega arith

pub loop-preserved : goal.loop-preserved
loop-preserved g c =
    let t = task c.args.self.now in
    let after = c.advance.new.table in
    let (n, answer) = by_number_ok c.advance.result _ (sym c.is_ok.ensures.value ∙ c.loop-test.true) c.advance.ensures.answer in
    settles_on t (held c.args.table.now) (held c.loop.table) (held after) c.loop.invariant c.advance.ensures.view (finished_within after) n answer

pub returns : goal.returns
returns g c =
    let t = task c.args.self.now in
    let after = c.advance.new.table in
    let (n, answer) = by_number_err c.advance.result _ (sym c.is_ok.ensures.value ∙ c.loop-test.false) c.advance.ensures.answer in
    let (settled, halted) = settles_at t (held c.args.table.now) (held c.loop.table) (held after) c.loop.invariant c.advance.ensures.view (finished_within after) n answer in
    record { settled = settled; stopped = halted }
