-- The numbers of the refusals of words. Assumes nothing.
use Rattle.std.specs.Prelude.{ℕ, Option}
use Rattle.records.specs.declared.fault.ListFault.{ListFault}
use Rattle.records.specs.Faults.{number_and_place}
use Rattle.lattice.specs.declared.fault.WordFault.{WordFault}
use Rattle.lattice.specs.declared.fault.WordFault.TheVariants.{NotForward, EndsTooLate}

abbrev pub word_number : WordFault → ℕ
word_number NotForward = 1
word_number EndsTooLate = 2

-- the number for too many words
abbrev pub too_many_words : ℕ
too_many_words = 3

-- the number of a list's refusal, and the place of the word where one is at fault
abbrev pub lattice_number_and_place : ListFault WordFault → ℕ × Option ℕ
lattice_number_and_place fault = number_and_place too_many_words word_number fault
