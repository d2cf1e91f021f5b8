-- What the lattices of this crate mean. Assumes nothing.
use Rattle.std.specs.Prelude.{ℕ, List, length}
use Rattle.lattice.specs.declared.word.Word.{Word}
use Rattle.lattice.specs.Words.{Limits}
use Rattle.lattices.specs.declared.heard.HeardLattice.{HeardLattice}
use Rattle.lattices.specs.declared.typed.TypedLine.{TypedLine}
use Rattle.lattices.specs.Heard.{largest_end, heard_limits}
use Rattle.lattices.specs.Typed.{typed_words, typed_limits}

-- the words of a heard lattice
abbrev pub heard_words : HeardLattice → List Word
heard_words lattice = lattice.checked.records.now

pub heard_keeps : (lattice : HeardLattice) → Limits (largest_end (heard_words lattice)) (heard_words lattice)
heard_keeps lattice = heard_limits (heard_words lattice) lattice.checked.few lattice.checked.within

-- the bytes of a typed line
abbrev pub typed_bytes : TypedLine → List ℕ
typed_bytes line = line.bytes.now

pub typed_keeps : (line : TypedLine) → Limits (length (typed_bytes line)) (typed_words (typed_bytes line))
typed_keeps line = typed_limits (typed_bytes line) line.short
