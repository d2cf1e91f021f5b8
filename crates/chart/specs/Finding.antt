-- How a settled chart finds a phrase. Assumes nothing.
use Rattle.std.specs.Prelude.{ℕ, true, false, Err, Result}
use Rattle.std.specs.Option.{ok_or}
use Rattle.chart_model.specs.Task.{Task}
use Rattle.chart_model.specs.Plain.{Chart, edge_of, is_within, missing_number}
use Rattle.chart_model.specs.declared.phrase.Phrase.{Phrase}
use Rattle.chart_model.specs.declared.place.Entry.{Entry}
use Rattle.chart.specs.View.{finished_entry_of}

-- the entry of a phrase, or the number by which a question about it is refused
abbrev pub found_answer : Task → Chart → Phrase → Result Entry ℕ
found_answer t c p = elim (is_within t.last p) [ true ↦ ok_or (finished_entry_of (edge_of p) c.places) (missing_number c) | false ↦ Err 7 ]
