-- A text split at its first separator. Assumes nothing.
use Rattle.std.specs.Prelude.{◌≡◌, ℕ, false, List, ◌∷◌, ◌++◌, ◌==◌}
use Rattle.std.specs.List.{AllByRecursion}

abbrev pub Without : ℕ → List ℕ → Type 0
Without separator text = AllByRecursion (λ c. (c == separator) ≡ false) text

-- the texts before and after it
pub record Parted (separator : ℕ) (text before after : List ℕ) : Type 0 where
  pub first : Without separator before
  pub whole : text ≡ before ++ (separator ∷ after)
