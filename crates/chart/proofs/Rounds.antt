-- The loop over numbered things that bring arrivals as they go. Assumes nothing.
use Rattle.std.proofs.Common.{◌≡◌, ℕ, zero, suc, ◌+◌, ◌-◌, ◌<◌, ◌≤◌, List, [], ◌∷◌, ◌++◌, length, drop, Some, None, Option, sym, refl, ap, ◌∙◌, add-one, arith}
use Rattle.std.specs.List.{slice_get, filter_map, cons_option, range_with_len}
use Rattle.std.specs.Option.{option_to_list}
use Rattle.std.proofs.lemmas.List.{drop_all}
use Rattle.std.proofs.lemmas.List.Sums.{fold-append}
use Rattle.weighing.specs.Laws.{Weights}
use Rattle.chart_model.specs.Plain.{Chart, gathered, arrive, arrive_all}
use Rattle.chart_model.specs.declared.place.Arrival.{Arrival}
use Rattle.chart.specs.View.{room}
use Rattle.chart.specs.Bringing.{brought_by, brought, Later}

module _ (f : ℕ → Option Arrival) (ws : Weights) (count : ℕ) where
  -- what the numbers from n on bring to the chart makes the whole
  pub record Rest (n : ℕ) (c whole : Chart) : Type 0 where
    pub gives : arrive_all room ws.lighter c (filter_map f (range_with_len n (count - n))) ≡ whole

  module _ (n : ℕ) (c whole : Chart) (within : n < count) (so_far : Rest n c whole) where
    abbrev later : List Arrival
    later = filter_map f (range_with_len (n + 1) (count - (n + 1)))

    next : arrive_all room ws.lighter c (cons_option (f n) later) ≡ whole
    next =
        let one_more : count - n ≡ suc (count - (n + 1)) = omega arith in
        sym (ap (λ k. arrive_all room ws.lighter c (filter_map f (range_with_len n k))) one_more) ∙ so_far.gives

    pub rest_none : None ≡ f n → Rest (n + 1) c whole
    rest_none none = record { gives = ap (λ o. arrive_all room ws.lighter c (cons_option o later)) none ∙ next }

    pub rest_some : (a : Arrival) (d : Chart) → Some a ≡ f n → d ≡ arrive room ws.lighter c a → Rest (n + 1) d whole
    rest_some a d some arrived =
        record {
          gives =
              ap (λ x. arrive_all room ws.lighter x later) arrived
              ∙ ap (λ o. arrive_all room ws.lighter c (cons_option o later)) some ∙ next;
        }

pub later_then : (ws : Weights) (b c d : Chart) → Later ws b c → Later ws c d → Later ws b d
later_then ws b c d (as', h) (more, k) =
    (as' ++ more, k ∙ ap (λ x. arrive_all room ws.lighter x more) h ∙ sym (fold-append (arrive room ws.lighter) b as' more))

-- what a list brings is what its numbers bring
module _ {X : Type 0} (brings : ℕ → X → Option Arrival) where
  first_brings : (k : ℕ) (x : X) (rest : List Arrival) → cons_option (brings k x) rest ≡ option_to_list (brings k x) ++ rest
  first_brings k x rest = go (brings k x)
    where
      go : (o : Option Arrival) → cons_option o rest ≡ option_to_list o ++ rest
      go None = refl
      go (Some a) = refl

  -- what element i brings under number k, and then the elements after it
  brings_rest : (xs : List X) (i k : ℕ) →
      cons_option (elim (slice_get xs i) as (λ _. Option Arrival) [ None ↦ None | Some x ↦ brings k x ]) (gathered brings (suc k) (drop (suc i) xs)) ≡ gathered brings k (drop i xs)
  brings_rest [] zero k = refl
  brings_rest [] (suc i) k = refl
  brings_rest (x ∷ xs) zero k = first_brings k x (gathered brings (suc k) xs)
  brings_rest (x ∷ xs) (suc i) k = brings_rest xs i k

  module _ (xs : List X) where
    brought_rest : (count i : ℕ) → length xs ≤ i + count → filter_map (brought_by brings xs) (range_with_len i count) ≡ gathered brings i (drop i xs)
    brought_rest zero i past = let none : drop i xs ≡ [] = drop_all i xs (omega arith) in sym (ap (gathered brings i) none)
    brought_rest (suc count) i within =
        ap (cons_option (brought_by brings xs i)) (rw add-one (brought_rest count (suc i) (omega arith))) ∙ brings_rest xs i i

    pub brought_gathered : (count : ℕ) → length xs ≤ count → brought (brought_by brings xs) count ≡ gathered brings 0 xs
    brought_gathered count all = brought_rest count 0 (omega arith)
