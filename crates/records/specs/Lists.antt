-- The refusal of a list of records: of its length, or of its first record that is refused. Assumes nothing.
use Rattle.std.specs.Prelude.{ℕ, suc, true, false, List, [], ◌∷◌, length, Some, None, Option, nat_le}
use Rattle.std.specs.Option.{option_map, option_or}

-- the refusal of the record at place n: its number, and the place
abbrev pub refusal_at : {X : Type 0} → (X → Option ℕ) → ℕ → X → Option (ℕ × Option ℕ)
refusal_at refusal n x = option_map (λ number. (number, Some n)) (refusal x)

-- the refusal of the first record that has one, where the first place is n
abbrev pub first_refusal : {X : Type 0} → (X → Option ℕ) → ℕ → List X → Option (ℕ × Option ℕ)
first_refusal refusal n [] = None
first_refusal refusal n (x ∷ xs) = option_or (refusal_at refusal n x) (first_refusal refusal (suc n) xs)

-- the length comes first: more than `most` records are refused by a number of their own, without a place
abbrev pub list_refusal : {X : Type 0} → ℕ → ℕ → (X → Option ℕ) → List X → Option (ℕ × Option ℕ)
list_refusal most number refusal xs = elim (nat_le (length xs) most) [ false ↦ Some (number, None) | true ↦ first_refusal refusal 0 xs ]
