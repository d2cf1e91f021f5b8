-- What numbered things bring: each arrival is brought by one of them, and each of them brings what it brings.
-- Assumes nothing.
use Rattle.std.proofs.Common.{◌≡◌, ℕ, suc, ◌⊎◌, List, [], ◌∷◌, ◌++◌, Some, None, Option, sym, refl, ap, ◌∙◌, subst, inl, inr}
use Rattle.std.specs.Option.{option_to_list}
use Rattle.chart_model.specs.Plain.{arriving, gathered}
use Rattle.chart_model.specs.declared.edge.Edge.{Edge}
use Rattle.chart_model.specs.declared.origin.Origin.{Origin}
use Rattle.chart_model.specs.declared.place.Arrival.{Arrival}
use Rattle.chart_model.proofs.Members.{In, in_left, in_right, in_either, some_same, At}

-- one of the arrivals brings this weight to this edge
abbrev pub Brings : List Arrival → Edge → ℕ → Type 0
Brings as' e v = (a : Arrival) × In a as' × (a.edge ≡ e) × (a.weight ≡ v)

pub brings_left : (xs ys : List Arrival) (e : Edge) (v : ℕ) → Brings xs e v → Brings (xs ++ ys) e v
brings_left xs ys e v b = (b.0, in_left b.0 xs ys b.1, b.2, b.3)

pub brings_right : (xs ys : List Arrival) (e : Edge) (v : ℕ) → Brings ys e v → Brings (xs ++ ys) e v
brings_right xs ys e v b = (b.0, in_right b.0 xs ys b.1, b.2, b.3)

-- two records of an arrival that are one
pub record SameArrival (e : Edge) (v : ℕ) (o : Origin) (a : Arrival) : Type 0 where
  pub edge : a.edge ≡ e
  pub weight : a.weight ≡ v
  pub origin : a.origin ≡ o

pub some_arrival : (e : Edge) (v : ℕ) (o : Origin) (a : Arrival) → Some (arriving e v o) ≡ Some a → SameArrival e v o a
some_arrival e v o a h =
    let same = some_same h in
    record {
      edge = sym (ap (λ (b : Arrival). b.edge) same);
      weight = sym (ap (λ (b : Arrival). b.weight) same);
      origin = sym (ap (λ (b : Arrival). b.origin) same);
    }

listed : (o : Option Arrival) (a : Arrival) → In a (option_to_list o) → o ≡ Some a
listed None a i = absurd i
listed (Some b) a (inl e) = λ d. Some (e d)
listed (Some b) a (inr i) = absurd i

module _ {X : Type 0} (brings : ℕ → X → Option Arrival) where
  -- number k, which is x, brings the arrival
  abbrev pub BroughtBy : List X → ℕ → Arrival → Type 0
  BroughtBy xs n a = (k : ℕ) × (x : X) × At xs n k x × (brings k x ≡ Some a)

  pub gathered_from : (n : ℕ) (xs : List X) (a : Arrival) → In a (gathered brings n xs) → BroughtBy xs n a
  gathered_from n [] a i = absurd i
  gathered_from n (x ∷ xs) a i = go (in_either a (option_to_list (brings n x)) (gathered brings (suc n) xs) i) (gathered_from (suc n) xs a)
    where
      go : In a (option_to_list (brings n x)) ⊎ In a (gathered brings (suc n) xs) → (In a (gathered brings (suc n) xs) → BroughtBy xs (suc n) a) → BroughtBy (x ∷ xs) n a
      go (inl j) later = (n, x, inl (refl, refl), listed (brings n x) a j)
      go (inr j) later = let (k, y, at, e) = later j in (k, y, inr at, e)

  pub gathered_all : (n : ℕ) (xs : List X) (a : Arrival) → BroughtBy xs n a → In a (gathered brings n xs)
  gathered_all n [] a b = absurd b.2
  gathered_all n (x ∷ xs) a (k, y, inl (number, same), e) =
      let here : brings n x ≡ Some a = (λ d. brings (number d) (same d)) ∙ e in
      in_left a (option_to_list (brings n x)) (gathered brings (suc n) xs) (subst (λ o. In a (option_to_list o)) (sym here) (inl refl))
  gathered_all n (x ∷ xs) a (k, y, inr at, e) =
      in_right a (option_to_list (brings n x)) (gathered brings (suc n) xs) (gathered_all (suc n) xs a (k, y, at, e))
