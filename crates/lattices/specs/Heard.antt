-- The last node of a heard lattice, and that checked words make a lattice with it. Assumes nothing.
use Rattle.std.specs.Prelude.{◌≡◌, ℕ, ◌≤◌, max, true, List, [], ◌∷◌, length, fold, refl}
use Rattle.std.proofs.Common.{arith}
use Rattle.std.proofs.lemmas.Grind.{common_steps}
use Rattle.lattice.specs.declared.word.Word.{Word}
use Rattle.lattice.specs.Words.{greatest_node, most_words, words_within, Limits}

-- the maximum of the words' ends; 0 for none
abbrev pub largest_end : List Word → ℕ
largest_end ws = fold (λ largest w. max largest w.to) 0 ws

-- the same from an end that came before them
abbrev largest_from : ℕ → List Word → ℕ
largest_from end ws = fold (λ largest w. max largest w.to) end ws

-- it is at least that end
at_least : (end : ℕ) (ws : List Word) → end ≤ largest_from end ws
at_least end [] = omega arith
at_least end (w ∷ ws) = omega (arith, at_least (max end w.to) ws)

-- words within a last node, and an end before them, have no maximum above it
all_end : (last end : ℕ) (ws : List Word) → end ≤ last → words_within last ws ≡ true →
    largest_from end ws ≤ last
all_end last end [] start h = start
all_end last end (w ∷ ws) start h = grind (arith, common_steps, all_end last (max end w.to) ws)

-- words are within any last node that is at least the maximum of their ends
ends_by : (last other end : ℕ) (ws : List Word) → largest_from end ws ≤ other → words_within last ws ≡ true →
    words_within other ws ≡ true
ends_by last other end [] large h = refl
ends_by last other end (w ∷ ws) large h =
    grind (arith, common_steps, at_least (max end w.to) ws, ends_by last other (max end w.to) ws)

pub heard_limits : (ws : List Word) → length ws ≤ most_words → words_within greatest_node ws ≡ true →
    Limits (largest_end ws) ws
heard_limits ws few within =
    record {
      short = all_end greatest_node 0 ws (omega arith) within;
      few = few;
      within = ends_by greatest_node (largest_end ws) 0 ws (omega arith) within;
    }
