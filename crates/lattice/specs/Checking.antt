-- Which words are refused, and by which number. Assumes nothing.
use Rattle.std.specs.Prelude.{◌≡◌, ℕ, true, false, List, Some, None, Option, Result, nat_le}
use Rattle.std.specs.Option.{option_map}
use Rattle.std.specs.Result.{result_err}
use Rattle.records.specs.Lists.{list_refusal}
use Rattle.records.specs.Faults.{MatchesListRefusal}
use Rattle.records.specs.declared.fault.ListFault.{ListFault}
use Rattle.lattice.specs.declared.word.Word.{Word}
use Rattle.lattice.specs.declared.fault.WordFault.{WordFault}
use Rattle.lattice.specs.Faults.{too_many_words, word_number, lattice_number_and_place}
use Rattle.lattice.specs.Words.{forward, greatest_node, most_words}

-- 1 if the word does not point forward, else 2 if it passes the greatest node
abbrev pub word_refusal : Word → Option ℕ
word_refusal w =
    elim (forward w.from w.to) [
      | false ↦ Some 1
      | true ↦ elim (nat_le w.to greatest_node) [ false ↦ Some 2 | true ↦ None ]
    ]

-- 3 for too many words; else that of the first word that is refused, with its place
abbrev pub words_refusal : List Word → Option (ℕ × Option ℕ)
words_refusal ws = list_refusal most_words too_many_words word_refusal ws

-- the contract of `Checked`, read for words
pub check_matches_words : {A : Type 0} (xs : List Word) (r : Result A (ListFault WordFault)) →
    MatchesListRefusal most_words too_many_words word_number word_refusal xs r →
    option_map lattice_number_and_place (result_err r) ≡ words_refusal xs
check_matches_words xs r tells = tells
