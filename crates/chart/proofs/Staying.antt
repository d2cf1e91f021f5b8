-- Arrivals change no finished edge, so a loop over the places may go on while they come. Assumes nothing.
use Rattle.std.proofs.Common.{◌≡◌, ℕ, zero, suc, ◌≤◌, Bool, true, List, [], ◌∷◌, length, Some, None, Option, sym, refl, ap, ◌∙◌, subst, arith}
use Rattle.std.specs.List.{slice_get}
use Rattle.std.proofs.lemmas.Bool.{false≢true}
use Rattle.std.proofs.lemmas.List.Sums.{fold-append}
use Rattle.weighing.specs.Laws.{Weights}
use Rattle.chart_model.specs.Task.{Task}
use Rattle.chart_model.specs.Plain.{Chart, is_open, entry, finished_entry, lightened, improved, placed, arrive, arrive_all, gathered, rule_brings, place_brings, arrivals}
use Rattle.chart_model.specs.declared.place.Arrival.{Arrival}
use Rattle.chart_model.specs.declared.place.Place.{Place}
use Rattle.chart_model.specs.declared.place.Entry.{Entry}
use Rattle.chart_model.proofs.Placing.{improved_cases, placed_cases}
use Rattle.chart_model.proofs.Arriving.{arrive_cases, arrive_all_keep}
use Rattle.chart.specs.View.{room, finished_entry_at}
use Rattle.chart.specs.Bringing.{begun_rule, met, met_at, brought, Later}
use Rattle.chart.proofs.Rounds.{brought_gathered, later_then}

-- an open place has no finished entry
open_none : (m : ℕ) (p : Place) → is_open p.rank ≡ true → finished_entry m p ≡ None
open_none m p = go p.rank
  where
    go : (s : Option ℕ) → is_open s ≡ true → elim s as (λ _. Option Entry) [ None ↦ None | Some k ↦ Some (entry m p) ] ≡ None
    go None h = refl
    go (Some k) h = absurd (false≢true h)

-- the finished entry of place n, under number m
abbrev finished_at : ℕ → List Place → ℕ → Option Entry
finished_at m ps n = elim (slice_get ps n) [ None ↦ None | Some p ↦ finished_entry m p ]

module _ (lighter : ℕ → ℕ → Bool) (a : Arrival) where
  improved_at : (m : ℕ) (p : Place) → finished_entry m (improved lighter a p) ≡ finished_entry m p
  improved_at m p =
      improved_cases lighter a p (λ q. finished_entry m q ≡ finished_entry m p)
      (λ queued _. open_none m (lightened a p) queued ∙ sym (open_none m p queued)) (λ _. refl)

  placed_at : (m : ℕ) (ps : List Place) (n : ℕ) → finished_at m (placed lighter a ps) n ≡ finished_at m ps n
  placed_at m [] zero = refl
  placed_at m [] (suc n) = refl
  placed_at m (p ∷ ps) zero =
      placed_cases lighter a p ps (λ qs. finished_at m qs 0 ≡ finished_entry m p) (λ _. improved_at m p) (λ _. refl)
  placed_at m (p ∷ ps) (suc n) =
      placed_cases lighter a p ps (λ qs. finished_at m qs (suc n) ≡ finished_at m ps n) (λ _. refl) (λ _. placed_at m ps n)

  placed_longer : (ps : List Place) → length ps ≤ length (placed lighter a ps)
  placed_longer [] = omega arith
  placed_longer (p ∷ ps) =
      placed_cases lighter a p ps (λ qs. length (p ∷ ps) ≤ length qs)
      (λ _. omega arith) (λ _. let later = placed_longer ps in omega arith)

-- the finished edges of one chart stand in the other where they did
pub record Stays (c d : Chart) : Type 0 where
  pub same : (n : ℕ) → finished_entry_at d.places n ≡ finished_entry_at c.places n
  pub longer : length c.places ≤ length d.places

stays_arrive : (lighter : ℕ → ℕ → Bool) (b c : Chart) (a : Arrival) → Stays b c → Stays b (arrive room lighter c a)
stays_arrive lighter b c a so_far =
    arrive_cases room lighter c a (Stays b) (λ _. so_far)
    (λ _ _. let longer = placed_longer lighter a c.places in let so = so_far.longer in
    record { same = λ n. placed_at lighter a n c.places n ∙ so_far.same n; longer = omega arith })
    (λ _ _ _. record { same = so_far.same; longer = so_far.longer })

stays_later : (ws : Weights) (c d : Chart) → Later ws c d → Stays c d
stays_later ws c d (as', h) =
    subst (Stays c) (sym h)
    (arrive_all_keep room ws.lighter (Stays c) as' (λ a _ x. stays_arrive ws.lighter c x a) c (record { same = λ n. refl; longer = omega arith }))

-- what a place brings, by what stands there
met_entry : (t : Task) (s : Entry) (ps : List Place) (n : ℕ) → met_at t s ps n ≡ elim (finished_entry_at ps n) [ None ↦ None | Some q ↦ met t q s ]
met_entry t s ps n = go (slice_get ps n)
  where
    go : (o : Option Place) →
        elim o as (λ _. Option Arrival) [ None ↦ None | Some p ↦ place_brings t.rules t.weights s n p ]
        ≡ elim (elim o as (λ _. Option Entry) [ None ↦ None | Some p ↦ finished_entry n p ]) as (λ _. Option Arrival) [ None ↦ None | Some q ↦ met t q s ]
    go None = refl
    go (Some p) = refl

-- so it brings what it did
met_later : (t : Task) (s : Entry) (c d : Chart) → Later t.weights c d → (n : ℕ) → met_at t s d.places n ≡ met_at t s c.places n
met_later t s c d later n =
    met_entry t s d.places n
    ∙ ap (λ (o : Option Entry). elim o as (λ _. Option Arrival) [ None ↦ None | Some q ↦ met t q s ]) ((stays_later t.weights c d later).same n)
    ∙ sym (met_entry t s c.places n)

-- what the rules bring has arrived, and then the places are asked
module _ (t : Task) (s : Entry) (c d : Chart) (count : ℕ) (all : length t.rules ≤ count)
    (by_rules : d ≡ arrive_all room t.weights.lighter c (brought (begun_rule t s) count)) where
  first : Later t.weights c d
  first = (brought (begun_rule t s) count, by_rules)

  pub since_then : (e : Chart) → Later t.weights d e → Later t.weights c e
  since_then e later = later_then t.weights c d e first later

  pub meets_still : (e : Chart) → Later t.weights d e → (n : ℕ) → met_at t s e.places n ≡ met_at t s c.places n
  meets_still e later n = met_later t s c e (since_then e later) n

  pub spreads : (e : Chart) → e ≡ arrive_all room t.weights.lighter d (brought (met_at t s c.places) (length d.places)) → e ≡ arrive_all room t.weights.lighter c (arrivals t s c.places)
  spreads e by_places =
      let begins = gathered (rule_brings t.weights s) 0 t.rules in
      let meets = gathered (place_brings t.rules t.weights s) 0 c.places in
      let longer = (stays_later t.weights c d first).longer in
      by_places
      ∙ ap (arrive_all room t.weights.lighter d) (brought_gathered (place_brings t.rules t.weights s) c.places (length d.places) longer)
      ∙ ap (λ x. arrive_all room t.weights.lighter x meets) (by_rules ∙ ap (arrive_all room t.weights.lighter c) (brought_gathered (rule_brings t.weights s) t.rules count all))
      ∙ sym (fold-append (arrive room t.weights.lighter) c begins meets)
