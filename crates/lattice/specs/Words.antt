-- The limits of word lattices. Assumes nothing.
use Rattle.std.specs.Prelude.{◌≡◌, ℕ, ◌^◌, ◌<◌, ◌≤◌, Bool, true, ◌&&◌, List, length, nat_le, nat_lt}
use Rattle.std.proofs.Common.{arith}
use Rattle.std.proofs.lemmas.Bool.{and_parts, leb-true, ltb-true}
use Rattle.std.specs.List.{list_all}
use Rattle.lattice.specs.declared.word.Word.{Word}

-- the greatest node of any lattice
abbrev pub greatest_node : ℕ
greatest_node = 31

abbrev pub most_words : ℕ
most_words = 128

-- words point forward, so that a lattice is acyclic
abbrev pub forward : ℕ → ℕ → Bool
forward from to = nat_lt from to

-- a word of a lattice with this last node; marks have 16 bits
abbrev pub word_within : ℕ → Word → Bool
word_within last w = forward w.from w.to && (nat_le w.to last && nat_lt w.mark (2 ^ 16))

-- the same as facts, which the crates above use in place of `forward`
pub record WordLimits (last : ℕ) (w : Word) : Type 0 where
  pub forward : forward w.from w.to ≡ true
  pub ordered : w.from ≤ w.to
  pub ends : w.to ≤ last
  pub marked : w.mark < 2 ^ 16

pub word_limits : (last : ℕ) (w : Word) → word_within last w ≡ true → WordLimits last w
word_limits last w h =
    let p = and_parts (forward w.from w.to) (nat_le w.to last && nat_lt w.mark (2 ^ 16)) h in
    let q = and_parts (nat_le w.to last) (nat_lt w.mark (2 ^ 16)) p.1 in
    let order : w.from < w.to = ltb-true w.from w.to p.0 in
    record {
      forward = p.0;
      ordered = omega arith;
      ends = leb-true w.to last q.0;
      marked = ltb-true w.mark (2 ^ 16) q.1;
    }

abbrev pub words_within : ℕ → List Word → Bool
words_within last ws = list_all (word_within last) ws

-- what a last node and words have to be to make a lattice
pub record Limits (last : ℕ) (words : List Word) : Type 0 where
  pub short : last ≤ greatest_node
  pub few : length words ≤ most_words
  pub within : words_within last words ≡ true
