use Rattle.std.proofs.Common.{ap, ◌∙◌}
use Rattle.std.specs.Option.{option_map}
use Rattle.chart_model.specs.declared.place.Entry.{Entry}
use Rattle.chart.specs.Charts.{held}
use Rattle.chart.proofs.Carrying.{carried_entry}
use Rattle.chart.proofs.table.Table.carried.Goals as goal

pub returns-in_err-finished_entry_of : goal.returns-in_err-finished_entry_of
returns-in_err-finished_entry_of c = c.from_residual.ensures ∙ ap (option_map (λ (s : Entry). s.weight)) c.in_err-finished_entry_of.ensures.answer ∙ carried_entry c.args.edge (held c.args.self.now).places

pub returns : goal.returns
returns c = ap (option_map (λ (s : Entry). s.weight)) c.in_ok-finished_entry_of.ensures.answer ∙ carried_entry c.args.edge (held c.args.self.now).places
