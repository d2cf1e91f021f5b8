-- What a write to a slot leaves of the taken places. Assumes nothing.
use Rattle.std.proofs.Common.{◌≡◌, ℕ, zero, suc, List, [], ◌∷◌, get_or, take, set, refl, ap, ◌∙◌}
use Rattle.chart_model.specs.Plain.{modified}
use Rattle.chart_model.specs.declared.place.Place.{Place}

take_set : (f : Place → Place) (d : Place) (n at : ℕ) (xs : List Place) → take n (set xs at (f (get_or xs at d))) ≡ modified f at (take n xs)
take_set f d zero at xs = refl
take_set f d (suc n) at [] = refl
take_set f d (suc n) zero (x ∷ xs) = refl
take_set f d (suc n) (suc at) (x ∷ xs) = ap (λ ys. x ∷ ys) (take_set f d n at xs)

-- a slot changed by f
pub wrote : (f : Place → Place) (d : Place) (n at : ℕ) (xs : List Place) (y : Place) → y ≡ f (get_or xs at d) → take n (set xs at y) ≡ modified f at (take n xs)
wrote f d n at xs y changed = ap (λ z. take n (set xs at z)) changed ∙ take_set f d n at xs
