-- How words are written as lines, and how many bytes decide a text. Assumes nothing.
use Rattle.std.specs.Prelude.{◌≡◌, ℕ, ◌+◌, ◌*◌, ◌<◌, ◌≤◌, ◌⊎◌, List, [], ◌∷◌, ◌++◌, length, decimal}
use Rattle.std.specs.List.{AllByRecursion}
use Rattle.lattice.specs.declared.word.Word.{Word}
use Rattle.line_format.specs.Lines.{space, line_feed, most_lines}

-- a word that can be written: three fields of 8 bits, and one of 16
pub record InRange (w : Word) : Type 0 where
  pub from : w.from < 256
  pub to : w.to < 256
  pub symbol : w.symbol < 256
  pub mark : w.mark < 65536

-- a word as a line, without the line feed
abbrev pub written : Word → List ℕ
written w = decimal w.from ++ (space ∷ (decimal w.to ++ (space ∷ (decimal w.symbol ++ (space ∷ decimal w.mark)))))

-- words as lines, a line feed after each
abbrev pub ended : List Word → List ℕ
ended [] = []
ended (w ∷ ws) = written w ++ (line_feed ∷ ended ws)

-- the same, with line feeds only between them
abbrev pub unended : List Word → List ℕ
unended [] = []
unended (w ∷ []) = written w
unended (w ∷ v ∷ ws) = written w ++ (line_feed ∷ unended (v ∷ ws))

-- the text writes these words
pub record Writes (ws : List Word) (text : List ℕ) : Type 0 where
  pub in_range : AllByRecursion InRange ws
  pub few : length ws ≤ most_lines
  pub lines : (text ≡ ended ws) ⊎ (text ≡ unended ws)

-- the most bytes of a line of the form, with its line feed
abbrev pub longest_line : ℕ
longest_line = 18

-- more bytes than all lines of the form can have
abbrev pub enough : ℕ
enough = most_lines * longest_line + 1

-- what holds of a text with enough bytes holds of every longer one
abbrev pub Decided : (List ℕ → Type 0) → List ℕ → Type 0
Decided Says text = (more : List ℕ) → enough ≤ length text → Says (text ++ more)
