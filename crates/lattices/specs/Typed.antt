-- The words of a typed line, and that a short line makes a lattice. Assumes nothing.
use Rattle.std.specs.Prelude.{◌≡◌, ℕ, suc, ◌+◌, ◌≤◌, true, List, [], ◌∷◌, length, refl}
use Rattle.std.proofs.Common.{ap, arith}
use Rattle.std.proofs.lemmas.Grind.{common_steps}
use Rattle.lattice.specs.declared.word.Word.{Word}
use Rattle.lattice.specs.Words.{greatest_node, words_within, Limits}

-- a byte as an arc n → n + 1, without doubt
abbrev pub typed_word : ℕ → ℕ → Word
typed_word n byte = record { from = n; to = suc n; symbol = byte; mark = 0 }

-- the same for bytes in a row, the first at node n
abbrev pub typed_from : ℕ → List ℕ → List Word
typed_from n [] = []
typed_from n (b ∷ bs) = typed_word n b ∷ typed_from (suc n) bs

abbrev pub typed_words : List ℕ → List Word
typed_words bytes = typed_from 0 bytes

pub length_typed : (n : ℕ) (bs : List ℕ) → length (typed_from n bs) ≡ length bs
length_typed n [] = refl
length_typed n (b ∷ bs) = ap suc (length_typed (suc n) bs)

typed_within : (last n : ℕ) (bs : List ℕ) → n + length bs ≤ last →
    words_within last (typed_from n bs) ≡ true
typed_within last n [] room = refl
typed_within last n (b ∷ bs) room = grind (arith, common_steps, typed_within last (suc n) bs)

pub typed_limits : (bytes : List ℕ) → length bytes ≤ greatest_node →
    Limits (length bytes) (typed_words bytes)
typed_limits bytes short =
    record {
      short = short;
      few = simp length_typed (omega arith);
      within = typed_within (length bytes) 0 bytes (omega arith);
    }
