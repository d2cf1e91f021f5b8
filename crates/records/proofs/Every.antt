-- What it means that every record passes, record by record. Assumes nothing.
use Rattle.std.proofs.Common.{◌≡◌, ℕ, zero, suc, Bool, true, List, [], ◌∷◌, map, Some, subst}
use Rattle.std.specs.List.{slice_get}
use Rattle.std.proofs.lemmas.Bool.{and_from, and_parts}
use Rattle.std.specs.List.{list_all}

module _ {X : Type 0} (passes : X → Bool) where
  -- the record at a place passes
  pub every_nth : (xs : List X) (n : ℕ) (x : X) → list_all passes xs ≡ true → slice_get xs n ≡ Some x → passes x ≡ true
  every_nth [] n x all e = cc
  every_nth (y ∷ xs) zero x all e = let same : y ≡ x = cc in subst (λ z. passes z ≡ true) same (and_parts (passes y) (list_all passes xs) all).0
  every_nth (y ∷ xs) (suc n) x all e = every_nth xs n x (and_parts (passes y) (list_all passes xs) all).1 e

-- where f takes what passes p to what passes q, it takes a list that passes p to one that passes q
pub every_map : {X Y : Type 0} (f : X → Y) (p : X → Bool) (q : Y → Bool) → ((x : X) → p x ≡ true → q (f x) ≡ true) → (xs : List X) → list_all p xs ≡ true → list_all q (map f xs) ≡ true
every_map f p q each [] all = all
every_map f p q each (x ∷ xs) all =
    let a = and_parts (p x) (list_all p xs) all in
    and_from (q (f x)) (list_all q (map f xs)) (each x a.0) (every_map f p q each xs a.1)
