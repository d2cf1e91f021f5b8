-- Members of lists, and the element at a place. Assumes nothing.
use Rattle.std.proofs.Common.{◌≡◌, ℕ, zero, suc, ◌+◌, ◌<◌, Bool, true, ◌⊎◌, List, [], ◌∷◌, ◌++◌, length, take, Some, None, Option, refl, ap, subst, inl, inr, arith}
use Rattle.std.specs.List.{slice_get}
use Rattle.std.proofs.lemmas.Bool.{and_from}
use Rattle.std.specs.List.{list_all, AllByRecursion}
use Rattle.records.proofs.Every.{every_nth}

abbrev pub In : {A : Type 0} → A → List A → Type 0
In a [] = ⊥
In a (x ∷ xs) = (x ≡ a) ⊎ In a xs

pub some_same : {A : Type 0} {a b : A} → ◌≡◌ {A = Option A} (Some a) (Some b) → a ≡ b
some_same e = cc

pub none_some : {A : Type 0} {a : A} → ◌≡◌ {A = Option A} None (Some a) → ⊥
none_some e = let z : ◌≡◌ {A = ℕ} 0 1 = cc in omega arith

pub in_left : {A : Type 0} (a : A) (xs ys : List A) → In a xs → In a (xs ++ ys)
in_left a [] ys i = absurd i
in_left a (x ∷ xs) ys (inl e) = inl e
in_left a (x ∷ xs) ys (inr i) = inr (in_left a xs ys i)

pub in_right : {A : Type 0} (a : A) (xs ys : List A) → In a ys → In a (xs ++ ys)
in_right a [] ys i = i
in_right a (x ∷ xs) ys i = inr (in_right a xs ys i)

pub in_either : {A : Type 0} (a : A) (xs ys : List A) → In a (xs ++ ys) → In a xs ⊎ In a ys
in_either a [] ys i = inr i
in_either a (x ∷ xs) ys (inl e) = inl (inl e)
in_either a (x ∷ xs) ys (inr i) = elim (in_either a xs ys i) [ inl j ↦ inl (inr j) | inr j ↦ inr j ]

pub nth_in : {A : Type 0} (xs : List A) (n : ℕ) (a : A) → slice_get xs n ≡ Some a → In a xs
nth_in [] n a e = none_some e
nth_in (x ∷ xs) zero a e = inl (some_same e)
nth_in (x ∷ xs) (suc n) a e = inr (nth_in xs n a e)

pub in_nth : {A : Type 0} (xs : List A) (a : A) → In a xs → (n : ℕ) × (slice_get xs n ≡ Some a)
in_nth [] a i = absurd i
in_nth (x ∷ xs) a (inl e) = (0, ap (λ y. Some y) e)
in_nth (x ∷ xs) a (inr i) = let (n, e) = in_nth xs a i in (suc n, e)

pub nth_below : {A : Type 0} (xs : List A) (n : ℕ) (a : A) → slice_get xs n ≡ Some a → n < length xs
nth_below [] n a e = absurd (none_some e)
nth_below (x ∷ xs) zero a e = omega arith
nth_below (x ∷ xs) (suc n) a e = let h : n < length xs = nth_below xs n a e in omega arith

-- what holds of every member
pub all_nth : {A : Type 0} (P : A → Type 0) (xs : List A) → AllByRecursion P xs → (n : ℕ) (a : A) → slice_get xs n ≡ Some a → P a
all_nth P [] all n a e = absurd (none_some e)
all_nth P (x ∷ xs) all zero a e = subst P (some_same e) all.0
all_nth P (x ∷ xs) all (suc n) a e = all_nth P xs all.1 n a e

pub all_from : {A : Type 0} (P : A → Type 0) (xs : List A) → ((a : A) → In a xs → P a) → AllByRecursion P xs
all_from P [] each = tt
all_from P (x ∷ xs) each = (each x (inl refl), all_from P xs (λ a i. each a (inr i)))

-- a test that every member passes
module _ {A : Type 0} (passes : A → Bool) where
  pub every_in : (xs : List A) → list_all passes xs ≡ true → (a : A) → In a xs → passes a ≡ true
  every_in xs all a i = let (n, e) = in_nth xs a i in every_nth passes xs n a all e

  pub every_from : (xs : List A) → ((a : A) → In a xs → passes a ≡ true) → list_all passes xs ≡ true
  every_from [] each = refl
  every_from (x ∷ xs) each = and_from (passes x) (list_all passes xs) (each x (inl refl)) (every_from xs (λ a i. each a (inr i)))

-- one more element
pub take_one_more : {A : Type 0} (xs : List A) (n : ℕ) (a : A) → slice_get xs n ≡ Some a → take (suc n) xs ≡ take n xs ++ (a ∷ [])
take_one_more [] n a e = absurd (none_some e)
take_one_more (x ∷ xs) zero a e = ap (λ y. y ∷ []) (some_same e)
take_one_more (x ∷ xs) (suc n) a e = ap (λ ys. x ∷ ys) (take_one_more xs n a e)

-- a is number k of the list, counted from n
abbrev pub At : {A : Type 0} → List A → ℕ → ℕ → A → Type 0
At [] n k a = ⊥
At (x ∷ xs) n k a = ((n ≡ k) × (x ≡ a)) ⊎ At xs (suc n) k a

pub at_in : {A : Type 0} (xs : List A) (n k : ℕ) (a : A) → At xs n k a → In a xs
at_in [] n k a i = absurd i
at_in (x ∷ xs) n k a (inl h) = inl h.1
at_in (x ∷ xs) n k a (inr i) = inr (at_in xs (suc n) k a i)

at_nth_from : {A : Type 0} (xs : List A) (n k : ℕ) (a : A) → At xs n k a → (m : ℕ) × (n + m ≡ k) × (slice_get xs m ≡ Some a)
at_nth_from [] n k a i = absurd i
at_nth_from (x ∷ xs) n k a (inl h) = let e = h.0 in (0, omega arith, ap (λ y. Some y) h.1)
at_nth_from (x ∷ xs) n k a (inr i) = let (m, e, f) = at_nth_from xs (suc n) k a i in (suc m, omega arith, f)

nth_at_from : {A : Type 0} (xs : List A) (n m k : ℕ) (a : A) → n + m ≡ k → slice_get xs m ≡ Some a → At xs n k a
nth_at_from [] n m k a s e = none_some e
nth_at_from (x ∷ xs) n zero k a s e = inl (omega arith, some_same e)
nth_at_from (x ∷ xs) n (suc m) k a s e = inr (nth_at_from xs (suc n) m k a (omega arith) e)

pub at_nth : {A : Type 0} (xs : List A) (k : ℕ) (a : A) → At xs 0 k a → slice_get xs k ≡ Some a
at_nth xs k a i =
    let found = at_nth_from xs 0 k a i in
    let e = found.1 in
    let same : found.0 ≡ k = omega arith in subst (λ m. slice_get xs m ≡ Some a) same found.2

pub nth_at : {A : Type 0} (xs : List A) (k : ℕ) (a : A) → slice_get xs k ≡ Some a → At xs 0 k a
nth_at xs k a e = nth_at_from xs 0 k k a (omega arith) e
