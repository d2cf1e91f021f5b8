-- The search for the lightest open edge finds one, unless none is open. Assumes nothing.
use Rattle.std.proofs.Common.{◌≡◌, ℕ, suc, ◌+◌, ◌<◌, Bool, true, false, ◌⊎◌, List, [], ◌∷◌, length, fold, Some, None, Option, sym, refl, ap, ◌∙◌, subst, inl, inr, arith}
use Rattle.std.specs.List.{slice_get, enumerate_from}
use Rattle.std.proofs.lemmas.Bool.{true≢false, cases_order}
use Rattle.weighing.specs.Laws.{Weights, Lawful, Code}
use Rattle.chart_model.specs.Plain.{is_open, entry, lighter_of, lightest_with, lightest_open}
use Rattle.chart_model.specs.declared.place.Place.{Place}
use Rattle.chart_model.specs.declared.place.Entry.{Entry}
use Rattle.chart_model.proofs.AtMost.{AtMost, at_most_refl, at_most_lighter, at_most_trans}
use Rattle.chart_model.proofs.Members.{In, none_some, some_same, nth_in, in_nth, nth_below}
use Rattle.chart_model.proofs.Arriving.{Coded}

-- the entry is that of an open place
pub record StandsOpen (ps : List Place) (s : Entry) : Type 0 where
  pub place : Place
  pub there : slice_get ps s.at ≡ Some place
  pub still_open : is_open place.rank ≡ true
  pub same : entry s.at place ≡ s

-- the places from number n on are those of a list
abbrev From : List Place → ℕ → List Place → Type 0
From ps n rest = (k : ℕ) → slice_get ps (n + k) ≡ slice_get rest k

from_later : (ps : List Place) (n : ℕ) (p : Place) (rest : List Place) → From ps n (p ∷ rest) → From ps (n + 1) rest
from_later ps n p rest from k = let same : n + 1 + k ≡ n + suc k = omega arith in ap (slice_get ps) same ∙ from (suc k)

from_here : (ps : List Place) (n : ℕ) (p : Place) (rest : List Place) → From ps n (p ∷ rest) → slice_get ps n ≡ Some p
from_here ps n p rest from = let same : n ≡ n + 0 = omega arith in ap (slice_get ps) same ∙ from 0

-- what is found stands there
module _ (lighter : ℕ → ℕ → Bool) (ps : List Place) where
  abbrev Stand : Option Entry → Type 0
  Stand o = (s : Entry) → o ≡ Some s → StandsOpen ps s

  stand_with : (best : Option Entry) (n : ℕ) (p : Place) → slice_get ps n ≡ Some p → Stand best → Stand (lightest_with lighter best (n, p))
  stand_with best n p there so_far = go (is_open p.rank) refl
    where
      here : is_open p.rank ≡ true → Stand (Some (entry n p))
      here queued s e = subst (StandsOpen ps) (some_same e) (record { place = p; there = there; still_open = queued; same = refl })

      either : is_open p.rank ≡ true → (o : Option Entry) → Stand o → Stand (lighter_of lighter o (entry n p))
      either queued None h = here queued
      either queued (Some b) h = choose (lighter p.weight b.weight)
        where
          choose : (l : Bool) → Stand (elim l [ true ↦ Some (entry n p) | false ↦ Some b ])
          choose true = here queued
          choose false = h

      go : (b : Bool) → is_open p.rank ≡ b → Stand (elim b [ true ↦ lighter_of lighter best (entry n p) | false ↦ best ])
      go true queued = either queued best so_far
      go false closed = so_far

  stand_from : (n : ℕ) (rest : List Place) → From ps n rest → (best : Option Entry) → Stand best → Stand (fold (lightest_with lighter) best (enumerate_from n rest))
  stand_from n [] from best so_far = so_far
  stand_from n (p ∷ rest) from best so_far =
      stand_from (n + 1) rest (from_later ps n p rest from) (lightest_with lighter best (n, p)) (stand_with best n p (from_here ps n p rest from) so_far)

  pub lightest_stands : (s : Entry) → lightest_open lighter ps ≡ Some s → StandsOpen ps s
  lightest_stands = stand_from 0 ps (λ k. let same : 0 + k ≡ k = omega arith in ap (slice_get ps) same) None (λ s e. absurd (none_some e))

-- and no open edge is lighter
module _ (ws : Weights) (law : Lawful ws) (ps : List Place) (coded : Coded ps) where
  -- of the open edges at the first so many places
  abbrev Least : ℕ → Option Entry → Type 0
  Least n None = (k : ℕ) (q : Place) → k < n → slice_get ps k ≡ Some q → is_open q.rank ≡ false
  Least n (Some s) = Code s.weight × ((k : ℕ) (q : Place) → k < n → slice_get ps k ≡ Some q → is_open q.rank ≡ true → AtMost ws s.weight q.weight)

  module _ (n : ℕ) (p : Place) (there : slice_get ps n ≡ Some p) where
    code : Code p.weight
    code = coded p (nth_in ps n p there)

    -- one place more is the last of them
    last : (k : ℕ) (q : Place) → k < n + 1 → slice_get ps k ≡ Some q → (k < n) ⊎ (p ≡ q)
    last k q below e = go (cases_order k n)
      where
        go : (k ≡ n) ⊎ ((k < n) ⊎ (n < k)) → (k < n) ⊎ (p ≡ q)
        go (inl same) = inr (some_same (sym there ∙ ap (slice_get ps) (sym same) ∙ e))
        go (inr (inl less)) = inl less
        go (inr (inr more)) = absurd (omega arith)

    least_with : (best : Option Entry) → Least n best → Least (n + 1) (lightest_with ws.lighter best (n, p))
    least_with best so_far = go (is_open p.rank) refl best so_far
      where
        heavier : (v : ℕ) → AtMost ws v p.weight → ((k : ℕ) (q : Place) → k < n → slice_get ps k ≡ Some q → is_open q.rank ≡ true → AtMost ws v q.weight) →
            (k : ℕ) (q : Place) → k < n + 1 → slice_get ps k ≡ Some q → is_open q.rank ≡ true → AtMost ws v q.weight
        heavier v here before k q below e queued = at_last (last k q below e)
          where
            at_last : (k < n) ⊎ (p ≡ q) → AtMost ws v q.weight
            at_last (inl less) = before k q less e queued
            at_last (inr same) = subst (λ (r : Place). AtMost ws v r.weight) same here

        only : ((k : ℕ) (q : Place) → k < n → slice_get ps k ≡ Some q → is_open q.rank ≡ false) → Least (n + 1) (Some (entry n p))
        only none = (code, heavier p.weight (at_most_refl ws law p.weight code) (λ k q below e queued. absurd (true≢false (sym queued ∙ none k q below e))))

        choose : (s : Entry) → Least n (Some s) → (l : Bool) → ws.lighter p.weight s.weight ≡ l → Least (n + 1) (elim l [ true ↦ Some (entry n p) | false ↦ Some s ])
        choose s (codes, before) true lt = (
          code,
          heavier p.weight (at_most_refl ws law p.weight code)
              (λ k q below e queued. at_most_trans ws law p.weight s.weight q.weight (at_most_lighter ws law p.weight s.weight code codes lt) (before k q below e queued)),
        )
        choose s (codes, before) false not_lighter = (codes, heavier s.weight (codes, code, not_lighter) before)

        passed : is_open p.rank ≡ false → (o : Option Entry) → Least n o → Least (n + 1) o
        passed closed None none = λ k q below e. at_last k q e (last k q below e)
          where
            at_last : (k : ℕ) (q : Place) → slice_get ps k ≡ Some q → (k < n) ⊎ (p ≡ q) → is_open q.rank ≡ false
            at_last k q e (inl less) = none k q less e
            at_last k q e (inr same) = subst (λ (r : Place). is_open r.rank ≡ false) same closed
        passed closed (Some s) (codes, before) = (codes, λ k q below e queued. at_last k q e queued (last k q below e))
          where
            at_last : (k : ℕ) (q : Place) → slice_get ps k ≡ Some q → is_open q.rank ≡ true → (k < n) ⊎ (p ≡ q) → AtMost ws s.weight q.weight
            at_last k q e queued (inl less) = before k q less e queued
            at_last k q e queued (inr same) = absurd (true≢false (sym queued ∙ subst (λ (r : Place). is_open r.rank ≡ false) same closed))

        go : (b : Bool) → is_open p.rank ≡ b → (o : Option Entry) → Least n o → Least (n + 1) (elim b [ true ↦ lighter_of ws.lighter o (entry n p) | false ↦ o ])
        go true queued None none = only none
        go true queued (Some s) before = choose s before (ws.lighter p.weight s.weight) refl
        go false closed o before = passed closed o before

  least_from : (n : ℕ) (rest : List Place) → From ps n rest → (best : Option Entry) → Least n best → Least (n + length rest) (fold (lightest_with ws.lighter) best (enumerate_from n rest))
  least_from n [] from best so_far = let same : n ≡ n + 0 = omega arith in subst (λ m. Least m best) same so_far
  least_from n (p ∷ rest) from best so_far =
      let same : n + 1 + length rest ≡ n + length (p ∷ rest) = omega arith in
      subst (λ m. Least m (fold (lightest_with ws.lighter) (lightest_with ws.lighter best (n, p)) (enumerate_from (n + 1) rest))) same
      (least_from (n + 1) rest (from_later ps n p rest from) (lightest_with ws.lighter best (n, p)) (least_with n p (from_here ps n p rest from) best so_far))

  -- what the search says of all places
  abbrev pub Finds : Option Entry → Type 0
  Finds None = (q : Place) → In q ps → is_open q.rank ≡ false
  Finds (Some s) = (q : Place) → In q ps → is_open q.rank ≡ true → AtMost ws s.weight q.weight

  pub lightest_finds : Finds (lightest_open ws.lighter ps)
  lightest_finds =
      go (lightest_open ws.lighter ps)
      (least_from 0 ps (λ k. let same : 0 + k ≡ k = omega arith in ap (slice_get ps) same) None (λ k q below e. absurd (omega arith)))
    where
      go : (o : Option Entry) → Least (0 + length ps) o → Finds o
      go None none = λ q i. let (k, e) = in_nth ps q i in let within : k < length ps = nth_below ps k q e in none k q (omega arith) e
      go (Some s) (codes, before) =
          λ q i queued. let (k, e) = in_nth ps q i in let within : k < length ps = nth_below ps k q e in before k q (omega arith) e queued
