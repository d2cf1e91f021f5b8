-- What the answer of a reading says of the text. Assumes nothing.
use Rattle.std.proofs.Common.{◌≡◌, ℕ, ◌≤◌, List, ◌++◌, length, Some, None, Ok, Err, Option, Result, sym, ◌∙◌}
use Rattle.std.specs.Option.{ok_or}
use Rattle.arrayvec.specs.ArrayVec.{ArrayVec}
use Rattle.lattice.specs.declared.word.Word.{Word}
use Rattle.line_format.specs.declared.fault.FormFault.{FormFault}
use Rattle.line_format.specs.Parsing.{Answers, ReadsBack, ReadsOnly}
use Rattle.line_format.specs.Writing.{enough}
use Rattle.line_format.proofs.Deciding.{text_decided}
use Rattle.line_format.proofs.WrittenTexts.{written_read, read_written}

pub longer_answer : (text : List ℕ) (r : Result (ArrayVec Word) FormFault) → Answers text r → (more : List ℕ) → enough ≤ length text → Answers (text ++ more) r
longer_answer text r a more long = a ∙ sym (text_decided text more long)

pub reads_back : (text : List ℕ) (r : Result (ArrayVec Word) FormFault) → Answers text r → ReadsBack text r
reads_back text r a ws writes = a ∙ written_read ws text writes

pub reads_only : (text : List ℕ) (r : Result (ArrayVec Word) FormFault) → Answers text r → ReadsOnly text r
reads_only text (Ok v) a = read_written v.items text (sym a)
reads_only text (Err fault) a = tt

-- the refusal of a line that has no word
pub refused_by : {T E : Type 0} (word : Option T) (fault found : E) → ◌≡◌ {A = Result T E} (Err found) (ok_or word fault) → None ≡ word → found ≡ fault
refused_by None fault found same none = cc
refused_by (Some w) fault found same none = cc
