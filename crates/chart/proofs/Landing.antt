-- What an arrival does, by the place found for its edge. Assumes nothing.
use Rattle.std.proofs.Common.{◌≡◌, ℕ, zero, suc, ◌+◌, ◌<◌, ◌≤◌, Bool, true, false, List, [], ◌∷◌, ◌++◌, length, get_or, Some, None, sym, refl, ap, ◌∙◌, ⊎_elim, arith}
use Rattle.std.specs.List.{position_from}
use Rattle.std.proofs.lemmas.Bool.{cases_Bool, and_right, and_from, lt-ltb, le-ltb}
use Rattle.std.proofs.lemmas.Iterator.Adapters.{position_from-zero}
use Rattle.std.proofs.lemmas.List.{get_or-take}
use Rattle.std.proofs.lemmas.List.Quantifiers.{position-Some}
use Rattle.chart_model.specs.Plain.{Chart, same_edge, is_open, modified, fresh, lightened, improved, placed, holds, place_of, arrive}
use Rattle.chart_model.specs.declared.place.Arrival.{Arrival}
use Rattle.chart_model.specs.declared.place.Place.{Place}
use Rattle.chart_model.proofs.Members.{none_some}
use Rattle.chart.specs.declared.places.Places.{Places}
use Rattle.chart.specs.View.{room, view, put, improve}

-- a change that changes nothing there
modified_same : (f : Place → Place) (d : Place) (n : ℕ) (ps : List Place) → f (get_or ps n d) ≡ get_or ps n d → modified f n ps ≡ ps
modified_same f d n [] h = refl
modified_same f d zero (p ∷ ps) h = ap (λ q. q ∷ ps) h
modified_same f d (suc n) (p ∷ ps) h = ap (λ qs. p ∷ qs) (modified_same f d n ps h)

-- changes that are alike there
modified_alike : (f g : Place → Place) (d : Place) (n : ℕ) (ps : List Place) → f (get_or ps n d) ≡ g (get_or ps n d) → modified f n ps ≡ modified g n ps
modified_alike f g d n [] h = refl
modified_alike f g d zero (p ∷ ps) h = ap (λ q. q ∷ ps) h
modified_alike f g d (suc n) (p ∷ ps) h = ap (λ qs. p ∷ qs) (modified_alike f g d n ps h)

module _ (lighter : ℕ → ℕ → Bool) (a : Arrival) where
  abbrev has : Place → Bool
  has p = same_edge p.edge a.edge

  -- the edge stands at place k
  record Held (ps : List Place) (k : ℕ) : Type 0 where
    pub held : holds a.edge ps ≡ true
    pub new : placed lighter a ps ≡ modified (improved lighter a) k ps

  held_at : (k : ℕ) (ps : List Place) (d : Place) → k < length ps → has (get_or ps k d) ≡ true → ((j : ℕ) → j < k → has (get_or ps j d) ≡ false) → Held ps k
  held_at k [] d within here before = absurd (omega arith)
  held_at zero (p ∷ ps) d within here before = record { held = rw here; new = rw (here, placed) }
  held_at (suc k) (p ∷ ps) d within here before =
      let other : has p ≡ false = before 0 (omega arith) in
      let later : Held ps k = held_at k ps d (omega arith) here (λ j below. before (suc j) (omega arith)) in
      record { held = rw other later.held; new = rw (other, placed) (ap (λ qs. p ∷ qs) later.new) }

  -- the edge has no place
  record Missing (ps : List Place) : Type 0 where
    pub held : holds a.edge ps ≡ false
    pub new : placed lighter a ps ≡ ps ++ (fresh a ∷ [])

  missing : (m : ℕ) (ps : List Place) → position_from has m ps ≡ None → Missing ps
  missing m [] h = record { held = refl; new = refl }
  missing m (p ∷ ps) h =
      ⊎_elim
      (λ (here : has p ≡ true). let found = rw here at h in absurd (none_some (sym found)))
      (λ (other : has p ≡ false).
      let later : Missing ps = missing (m + 1) ps (rw other at h) in
      record { held = rw other later.held; new = rw (other, placed) (ap (λ qs. p ∷ qs) later.new) })
      (cases_Bool (has p))

  improved_finished : (p : Place) → is_open p.rank ≡ false → improved lighter a p ≡ p
  improved_finished p h = rw (h, improved)

  improved_heavier : (p : Place) → lighter a.weight p.weight ≡ false → improved lighter a p ≡ p
  improved_heavier p h = rw (and_right (is_open p.rank) (lighter a.weight p.weight) h, improved)

  improved_lighter : (p : Place) → is_open p.rank ≡ true → lighter a.weight p.weight ≡ true → improved lighter a p ≡ lightened a p
  improved_lighter p h l = rw (and_from (is_open p.rank) (lighter a.weight p.weight) h l, improved)

  -- an arrival at places that are not full
  module _ (p : Places) (unfilled : p.full ≡ false) where
    abbrev ps : List Place
    ps = (view p).places

    abbrev changed : List Place → Chart
    changed qs = record { places = qs; full = p.full; finished = p.finished }

    -- at a place that holds the edge: what is read of its slot is what the place has
    module _ (k : ℕ) (d : Place) (within : k < p.taken) (at : Some k ≡ place_of a.edge ps) where
      arrive_held : arrive room lighter (view p) a ≡ changed (modified (improved lighter a) k ps)
      arrive_held =
          let (inside, here, before) = position-Some has ps k d (sym at) in
          let r : Held ps k = held_at k ps d inside here before in
          rw (unfilled, arrive) (rw r.held (rw r.new refl))

      slot : get_or ps k d ≡ get_or p.slots k d
      slot = get_or-take p.taken p.slots k d within

      stays : improved lighter a (get_or ps k d) ≡ get_or ps k d → view p ≡ arrive room lighter (view p) a
      stays same = sym (arrive_held ∙ ap changed (modified_same (improved lighter a) d k ps same))

      pub arrives_finished : is_open (get_or p.slots k d).rank ≡ false → view p ≡ arrive room lighter (view p) a
      arrives_finished closed = stays (improved_finished (get_or ps k d) (rw slot closed))

      pub arrives_heavier : lighter a.weight (get_or p.slots k d).weight ≡ false → view p ≡ arrive room lighter (view p) a
      arrives_heavier heavy = stays (improved_heavier (get_or ps k d) (rw slot heavy))

      pub arrives_lighter : is_open (get_or p.slots k d).rank ≡ true → lighter a.weight (get_or p.slots k d).weight ≡ true → improve (view p) k a ≡ arrive room lighter (view p) a
      arrives_lighter queued light =
          sym (arrive_held ∙ ap changed (modified_alike (improved lighter a) (lightened a) d k ps (improved_lighter (get_or ps k d) (rw slot queued) (rw slot light))))

    -- with an edge that has no place yet
    module _ (none : None ≡ place_of a.edge ps) where
      nowhere : Missing ps
      nowhere = missing 0 ps (sym (none ∙ position_from-zero has ps))

      pub arrives_new : length ps < room → put (view p) a ≡ arrive room lighter (view p) a
      arrives_new free = sym (rw (unfilled, arrive) (rw nowhere.held (rw (lt-ltb (length ps) room free) (rw nowhere.new refl))))

      pub arrives_full : room ≤ length ps → record { places = ps; full = true; finished = p.finished } ≡ arrive room lighter (view p) a
      arrives_full taken = sym (rw (unfilled, arrive) (rw nowhere.held (rw (le-ltb (length ps) room taken) refl)))
