use Rattle.std.proofs.Common.{sym, ap, subst}
use Rattle.chart_model.specs.Plain.{is_open}
use Rattle.chart_model.specs.declared.place.Entry.{Entry}
use Rattle.chart_model.proofs.Numbering.{closed_before}
use Rattle.chart.specs.Charts.{held}
use Rattle.chart.specs.View.{IsFinished}
use Rattle.chart.proofs.table.Table.finished_entry_at.Goals as goal

pub returns-clause-finished : goal.returns-clause-finished
returns-clause-finished c =
    let t = c.args.self.now in
    subst (λ (s : Entry). IsFinished (held t) s.at) (sym c.entry.ensures)
    (closed_before (held t) t.orderly c.args.at _ (sym c.in_ok-place.ensures.place) (ap is_open c.in_ok-place-2.was))
