-- The numbers of the program's refusals. Assumes nothing.
use Rattle.std.specs.Prelude.{ℕ}
use Rattle.chart.specs.Refusals.{reading_number}
use Rattle.lattice.specs.Faults.{lattice_number_and_place}
use Rattle.line_format.specs.Faults.{form_number}
use Rattle.stock_reader.specs.declared.refusal.Refusal.{Refusal}
use Rattle.stock_reader.specs.declared.refusal.Refusal.TheVariants.{Form, Lattice, Chart}

abbrev pub refusal_number : Refusal → ℕ
refusal_number (Form fault) = form_number fault
refusal_number (Lattice fault) = (lattice_number_and_place fault).0
refusal_number (Chart refusal) = reading_number refusal
