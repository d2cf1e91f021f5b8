use Rattle.std.proofs.Common.{◌∙◌, ap, Some, arith}
use Rattle.std.proofs.lemmas.List.{get_or-take}
use Rattle.std.proofs.lemmas.Option.{slice_get-get_or}
use Rattle.chart.specs.Charts.{held}
use Rattle.chart.proofs.Keeping.{fits, is_finished_within, view_within}
use Rattle.chart.proofs.table.Table.place.Goals as goal

pub bounds-self-from : goal.bounds-self-from
bounds-self-from c =
    let within = is_finished_within (held c.args.self.now) c.args.at c.requires in
    let most = (fits c.args.self.now).within in
    rw c.from.ensures (omega arith)

pub returns : goal.returns
returns c =
    let p = c.args.self.now.places in
    let within = is_finished_within (held c.args.self.now) c.args.at c.requires in
    let most = view_within p in
    rw c.from.ensures (slice_get-get_or (held c.args.self.now).places c.args.at _ within ∙ ap Some (get_or-take p.taken p.slots c.args.at _ (omega arith)))
