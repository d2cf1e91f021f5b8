-- The words of a typed line by their numbers. Assumes nothing.
use Rattle.std.proofs.Common.{◌≡◌, ℕ, zero, suc, ◌+◌, List, [], ◌∷◌, refl, arith}
use Rattle.std.specs.List.{slice_get}
use Rattle.std.specs.Option.{option_map}
use Rattle.std.proofs.lemmas.Grind.{common_steps}
use Rattle.lattices.specs.Typed.{typed_word, typed_from}

pub typed_at : (n i : ℕ) (bs : List ℕ) →
    slice_get (typed_from n bs) i ≡ option_map (typed_word (n + i)) (slice_get bs i)
typed_at n i [] = refl
typed_at n zero (b ∷ bs) = grind (arith, common_steps)
typed_at n (suc i) (b ∷ bs) = grind (arith, common_steps, typed_at (suc n) i bs)
