-- A reachable chart is reached by as many steps as it has finished edges, with room for just its places; so the fact that
-- it is reachable determines a way to it. Assumes nothing.
use Rattle.std.proofs.Common.{◌≡◌, ℕ, zero, suc, ◌≤◌, Bool, true, false, ◌||◌, ltb, ◌⊎◌, List, [], ◌∷◌, length, Some, None, Option, sym, refl, ap, ◌∙◌, subst, inl, inr, arith}
use Rattle.std.proofs.Math.Logic.{∥∥₁_elim}
use Rattle.std.proofs.Props.{props}
use Rattle.std.proofs.lemmas.Bool.{true≢false, ltb-true, lt-ltb, le-ltb}
use Rattle.chart_model.specs.Task.{Task}
use Rattle.chart_model.specs.Plain.{Chart, holds, placed, arrive, arrive_all, blank, first_arrivals, opened, lightest_open, finishing, arrivals, completed, step, steps}
use Rattle.chart_model.specs.Stands.{Reachable, Fits, by_opening, by_step}
use Rattle.chart_model.specs.declared.place.Arrival.{Arrival}
use Rattle.chart_model.specs.declared.place.Entry.{Entry}
use Rattle.chart_model.proofs.Placing.{placed_new}
use Rattle.chart_model.proofs.Arriving.{arrive_all_count, arrive_all_grows, arrive_all_full}
use Rattle.chart_model.proofs.Finishing.{finish_length}
use Rattle.chart_model.proofs.Stepping.{reachable_steps}

-- ARRIVALS, BY THE ROOM THAT THERE IS

module _ (lighter : ℕ → ℕ → Bool) where
  module _ (c : Chart) (a : Arrival) where
    -- where an edge is new, by whether there is room for it
    abbrev by_space : Bool → Chart
    by_space b =
        elim b as (λ _. Chart) [
          | true ↦ record { places = placed lighter a c.places; full = false; finished = c.finished }
          | false ↦ record { places = c.places; full = true; finished = c.finished }
        ]

    abbrev by_both : ℕ → Bool → Bool → Chart
    by_both k f h = elim f as (λ _. Chart) [ true ↦ c | false ↦ by_space (h || ltb (length c.places) k) ]

    -- it takes a place, or makes the chart full
    abbrev Room : ℕ → Chart → Type 0
    Room k d =
        ((ltb (length c.places) k ≡ true) × (length d.places ≡ suc (length c.places)))
        ⊎ ((ltb (length c.places) k ≡ false) × (d.places ≡ c.places) × (d.full ≡ true))

    room_of : (k : ℕ) → c.full ≡ false → holds a.edge c.places ≡ false → Room k (arrive k lighter c a)
    room_of k room new = subst (λ (x : Bool × Bool). Room k (by_both k x.0 x.1)) (λ i. (sym room i, sym new i)) (go (ltb (length c.places) k) refl)
      where
        go : (b : Bool) → ltb (length c.places) k ≡ b → Room k (by_space b)
        go true below = inl (below, placed_new lighter a c.places new)
        go false past = inr (past, refl, refl)

    -- only for a new edge is there asked for room
    arrive_alike : (k m : ℕ) → (c.full ≡ false → holds a.edge c.places ≡ false → ltb (length c.places) k ≡ ltb (length c.places) m) → arrive k lighter c a ≡ arrive m lighter c a
    arrive_alike k m alike = go c.full refl (holds a.edge c.places) refl
      where
        go : (f : Bool) → c.full ≡ f → (h : Bool) → holds a.edge c.places ≡ h → by_both k f h ≡ by_both m f h
        go true is h held = refl
        go false is true held = refl
        go false is false new = ap by_space (alike is new)

  -- room for just the places that are taken in the end is as good
  narrow : (k m : ℕ) (as' : List Arrival) (c : Chart) → length (arrive_all k lighter c as').places ≡ m → arrive_all m lighter c as' ≡ arrive_all k lighter c as'
  narrow k m [] c just = refl
  narrow k m (a ∷ later) c just =
      ap (λ x. arrive_all m lighter x later) (arrive_alike c a m k (λ room new. same (room_of c a k room new))) ∙ narrow k m later (arrive k lighter c a) just
    where
      grows : length (arrive k lighter c a).places ≤ m
      grows = subst (λ n. length (arrive k lighter c a).places ≤ n) just (arrive_all_grows k lighter later (arrive k lighter c a))

      same : Room c a k (arrive k lighter c a) → ltb (length c.places) m ≡ ltb (length c.places) k
      same (inl (below, longer)) = let more = grows in lt-ltb (length c.places) m (omega arith) ∙ sym below
      same (inr (past, kept, full)) =
          let ends : length (arrive k lighter c a).places ≡ m = sym (ap (λ (d : Chart). length d.places) (arrive_all_full k lighter later (arrive k lighter c a) full)) ∙ just in
          let here : length (arrive k lighter c a).places ≡ length c.places = ap length kept in
          le-ltb (length c.places) m (omega arith) ∙ sym past

  -- and so is more room, where the chart does not become full
  widen : (k m : ℕ) → k ≤ m → (as' : List Arrival) (c : Chart) → (arrive_all k lighter c as').full ≡ false → arrive_all m lighter c as' ≡ arrive_all k lighter c as'
  widen k m more [] c room = refl
  widen k m more (a ∷ later) c room =
      ap (λ x. arrive_all m lighter x later) (arrive_alike c a m k (λ room new. same (room_of c a k room new))) ∙ widen k m more later (arrive k lighter c a) room
    where
      same : Room c a k (arrive k lighter c a) → ltb (length c.places) m ≡ ltb (length c.places) k
      same (inl (below, longer)) = let less = ltb-true (length c.places) k below in lt-ltb (length c.places) m (omega arith) ∙ sym below
      same (inr (past, kept, full)) =
          absurd (true≢false (sym full ∙ sym (ap (λ (d : Chart). d.full) (arrive_all_full k lighter later (arrive k lighter c a) full)) ∙ room))

-- STEPS, BY THE ROOM THAT THERE IS

module _ (t : Task) where
  abbrev idle_or : ℕ → Chart → Bool → Option Entry → Chart
  idle_or k c f o = elim f as (λ _. Chart) [ true ↦ c | false ↦ elim o as (λ _. Chart) [ None ↦ c | Some s ↦ completed t k c s ] ]

  full_step : (k : ℕ) (c : Chart) → c.full ≡ true → step t k c ≡ c
  full_step k c f = ap (λ b. idle_or k c b (lightest_open t.weights.lighter c.places)) f

  full_steps : (k n : ℕ) (c : Chart) → c.full ≡ true → steps t k n c ≡ c
  unfolding steps
  full_steps k zero c f = refl
  full_steps k (suc n) c f = ap (steps t k n) (full_step k c f) ∙ full_steps k n c f

  -- what is not full after steps was not before
  open_before : (k n : ℕ) (c : Chart) → (steps t k n c).full ≡ false → c.full ≡ false
  open_before k n c room = go c.full refl
    where
      go : (f : Bool) → c.full ≡ f → f ≡ false
      go true f = absurd (true≢false (sym f ∙ ap (λ (d : Chart). d.full) (sym (full_steps k n c f)) ∙ room))
      go false f = refl

  widen_step : (k m : ℕ) → k ≤ m → (c : Chart) → (step t k c).full ≡ false → step t m c ≡ step t k c
  widen_step k m more c = go c.full (lightest_open t.weights.lighter c.places)
    where
      go : (f : Bool) (o : Option Entry) → (idle_or k c f o).full ≡ false → idle_or m c f o ≡ idle_or k c f o
      go true o room = refl
      go false None room = refl
      go false (Some s) room = widen t.weights.lighter k m more (arrivals t s (finishing c s.at).places) (finishing c s.at) room

  widen_steps : (k m : ℕ) → k ≤ m → (n : ℕ) (c : Chart) → (steps t k n c).full ≡ false → steps t m n c ≡ steps t k n c
  unfolding steps
  widen_steps k m more zero c room = refl
  widen_steps k m more (suc n) c room =
      ap (steps t m n) (widen_step k m more c (open_before k n (step t k c) room)) ∙ widen_steps k m more n (step t k c) room

  steps_last : (k n : ℕ) (c : Chart) → steps t k (suc n) c ≡ step t k (steps t k n c)
  unfolding steps
  steps_last k zero c = refl
  steps_last k (suc n) c = steps_last k n (step t k c)

  -- AGAIN FROM THE START

  abbrev run : ℕ → ℕ → Chart
  run k n = steps t k n (opened t k)

  abbrev again : Chart → Chart
  again c = run (length c.places) c.finished

  widen_run : (k m n : ℕ) → k ≤ m → (run k n).full ≡ false → run m n ≡ run k n
  widen_run k m n more room =
      ap (steps t m n) (widen t.weights.lighter k m more (first_arrivals t) blank (open_before k n (opened t k) room))
      ∙ widen_steps k m more n (opened t k) room

  again_opened : (k : ℕ) → opened t k ≡ again (opened t k)
  unfolding steps
  again_opened k =
      sym (narrow t.weights.lighter k (length (opened t k).places) (first_arrivals t) blank refl)
      ∙ ap (run (length (opened t k).places)) (sym (arrive_all_count k t.weights.lighter (first_arrivals t) blank))

  module _ (k : ℕ) (b : Chart) (room : b.full ≡ false) (s : Entry) (found : lightest_open t.weights.lighter b.places ≡ Some s) where
    abbrev brought : List Arrival
    brought = arrivals t s (finishing b s.at).places

    abbrev m : ℕ
    m = length (completed t k b s).places

    grows : length b.places ≤ m
    grows = subst (λ n. n ≤ m) (finish_length (suc b.finished) s.at b.places) (arrive_all_grows k t.weights.lighter brought (finishing b s.at))

    step_is : step t m b ≡ completed t m b s
    step_is = ap (λ x. idle_or m b x (lightest_open t.weights.lighter b.places)) room ∙ ap (idle_or m b false) found

    again_completed : b ≡ again b → completed t k b s ≡ again (completed t k b s)
    again_completed so_far =
        sym (narrow t.weights.lighter k m brought (finishing b s.at) refl)
        ∙ sym step_is
        ∙ ap (step t m) (so_far ∙ sym (widen_run (length b.places) m b.finished grows (sym (ap (λ (d : Chart). d.full) so_far) ∙ room)))
        ∙ sym (steps_last m b.finished (opened t m))
        ∙ ap (run m) (sym (arrive_all_count k t.weights.lighter brought (finishing b s.at)))

  again_step : (k : ℕ) (b : Chart) → b ≡ again b → step t k b ≡ again (step t k b)
  again_step k b so_far = go b.full refl (lightest_open t.weights.lighter b.places) refl
    where
      go : (f : Bool) → b.full ≡ f → (o : Option Entry) → lightest_open t.weights.lighter b.places ≡ o → idle_or k b f o ≡ again (idle_or k b f o)
      go true full o found = so_far
      go false room None found = so_far
      go false room (Some s) found = again_completed k b room s found so_far

  reachable_again : {c : Chart} → Reachable t c → c ≡ again c
  reachable_again (by_opening k) = again_opened k
  reachable_again (by_step k {c} before) = again_step k c (reachable_again before)

  chart_set : IsSet Chart
  chart_set = hlevel props

  pub how_reachable : (c : Chart) → ∥ Reachable t c ∥₁ → Reachable t c
  how_reachable c reachable =
      subst (Reachable t) (sym (∥∥₁_elim reachable (chart_set c (again c)) reachable_again))
      (reachable_steps t (length c.places) c.finished (opened t (length c.places)) (by_opening (length c.places)))

  -- with room that it fits, in as many steps
  pub by_room : (capacity : ℕ) (c : Chart) → Reachable t c → Fits capacity c → c ≡ run capacity c.finished
  by_room capacity c reachable fits = go c.full refl
    where
      here : c ≡ again c
      here = reachable_again reachable

      go : (f : Bool) → c.full ≡ f → c ≡ run capacity c.finished
      go true full =
          let within = fits.within in
          let taken = fits.taken full in
          let same : length c.places ≡ capacity = omega arith in
          here ∙ ap (λ k. run k c.finished) same
      go false room =
          here ∙ sym (widen_run (length c.places) capacity c.finished fits.within (ap (λ (d : Chart). d.full) (sym here) ∙ room))
