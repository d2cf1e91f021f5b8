-- What parsing a text answers, and that it inverts writing. Assumes nothing.
use Rattle.std.specs.Prelude.{◌≡◌, ℕ, List, Ok, Result, IfOk}
use Rattle.std.specs.Result.{result_map_both}
use Rattle.arrayvec.specs.ArrayVec.{ArrayVec}
use Rattle.lattice.specs.declared.word.Word.{Word}
use Rattle.line_format.specs.declared.fault.FormFault.{FormFault}
use Rattle.line_format.specs.Faults.{form_number}
use Rattle.line_format.specs.Lines.{text_words}
use Rattle.line_format.specs.Writing.{Writes}

-- the words of an answer, or the number of its refusal
abbrev pub words_read : Result (ArrayVec Word) FormFault → Result (List Word) ℕ
words_read r = result_map_both (λ v. v.items) form_number r

-- the answer is what the text says
abbrev pub Answers : List ℕ → Result (ArrayVec Word) FormFault → Type 0
Answers text r = words_read r ≡ text_words text

-- words that the text writes are the answer
abbrev pub ReadsBack : List ℕ → Result (ArrayVec Word) FormFault → Type 0
ReadsBack text r = (ws : List Word) → Writes ws text → words_read r ≡ Ok ws

-- words in the answer are written by the text
abbrev pub ReadsOnly : List ℕ → Result (ArrayVec Word) FormFault → Type 0
ReadsOnly text r = IfOk r (λ v. Writes v.items text)
