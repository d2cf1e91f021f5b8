-- Reachable charts are well-founded: origins name inferences whose premises were finished first. Assumes nothing.
use Rattle.std.proofs.Common.{◌≡◌, ℕ, zero, suc, Bool, true, false, ◌⊎◌, List, [], ◌∷◌, Some, sym, refl, ap, ◌∙◌, subst, inl, inr}
use Rattle.std.specs.List.{slice_get}
use Rattle.std.proofs.lemmas.Bool.{true≢false, and_from}
use Rattle.chart_model.specs.Task.{Task, Sound}
use Rattle.chart_model.specs.Plain.{Chart, is_open, entry, finished_place, finish, finishing, arrivals, completed, improved, placed, arrive, arrive_all, blank, first_arrivals, opened}
use Rattle.chart_model.specs.Stands.{Reachable, by_opening, by_step}
use Rattle.chart_model.specs.Origins.{AtPlace, Agrees, finished_before, names_finished_before, orderly, WellFounded}
use Rattle.chart_model.specs.declared.edge.Edge.{Edge}
use Rattle.chart_model.specs.declared.origin.Origin.{Origin}
use Rattle.chart_model.specs.declared.origin.Origin.TheVariants.{Word as FromWord, Empty, First, Next}
use Rattle.chart_model.specs.declared.place.Arrival.{Arrival}
use Rattle.chart_model.specs.declared.place.Place.{Place}
use Rattle.chart_model.specs.declared.place.Entry.{Entry}
use Rattle.chart_model.proofs.Members.{In, none_some, some_same, nth_in, in_nth}
use Rattle.chart_model.proofs.Placing.{Brought, improved_cases, placed_cases}
use Rattle.chart_model.proofs.Arriving.{arrive_cases, arrive_all_keep, arrive_all_from, arrive_all_done, arrive_all_count}
use Rattle.chart_model.proofs.Finishing.{finish_from, finish_there, finish_done}
use Rattle.chart_model.proofs.OpeningArrivals.{Opens, opening_from}
use Rattle.chart_model.proofs.StepArrivals.{Arises, arrivals_from}
use Rattle.chart_model.proofs.Numbering.{arrive_all_orderly, orderly_finish, closed_before}
use Rattle.chart_model.proofs.Invariant.{inv_coded}
use Rattle.chart_model.proofs.Stepping.{Chosen, step_cases, inv_reachable}

-- FINISHED PLACES STAY

-- finished places are where and as they were
abbrev Stays : List Place → List Place → Type 0
Stays ps qs = (n : ℕ) (p : Place) → slice_get ps n ≡ Some p → is_open p.rank ≡ false → slice_get qs n ≡ Some p

module _ (lighter : ℕ → ℕ → Bool) (a : Arrival) where
  improved_closed : (q : Place) → is_open q.rank ≡ false → improved lighter a q ≡ q
  improved_closed q closed = improved_cases lighter a q (λ r. r ≡ q) (λ queued _. absurd (true≢false (sym queued ∙ closed))) (λ _. refl)

  placed_stays : (ps : List Place) → Stays ps (placed lighter a ps)
  placed_stays [] n p e closed = absurd (none_some e)
  placed_stays (q ∷ ps) zero p e closed =
      let same = some_same e in
      placed_cases lighter a q ps (λ qs. slice_get qs 0 ≡ Some p)
      (λ _. ap Some (improved_closed q (ap (λ (r : Place). is_open r.rank) same ∙ closed) ∙ same)) (λ _. e)
  placed_stays (q ∷ ps) (suc n) p e closed =
      placed_cases lighter a q ps (λ qs. slice_get qs (suc n) ≡ Some p) (λ _. e) (λ _. placed_stays ps n p e closed)

  arrive_stays : (capacity : ℕ) (c : Chart) → Stays c.places (arrive capacity lighter c a).places
  arrive_stays capacity c =
      arrive_cases capacity lighter c a (λ d. Stays c.places d.places) (λ _ n p e _. e) (λ _ _. placed_stays c.places) (λ _ _ _ n p e _. e)

arrive_all_stays : (capacity : ℕ) (lighter : ℕ → ℕ → Bool) (as' : List Arrival) (c : Chart) → Stays c.places (arrive_all capacity lighter c as').places
arrive_all_stays capacity lighter as' c =
    arrive_all_keep capacity lighter (λ d. Stays c.places d.places) as'
    (λ a _ d h n p e closed. arrive_stays lighter a capacity d n p (h n p e closed) closed) c (λ n p e _. e)

finish_stays : (m k : ℕ) (ps : List Place) (q : Place) → slice_get ps k ≡ Some q → is_open q.rank ≡ true → Stays ps (finish m k ps)
finish_stays m k [] q there queued n p e closed = absurd (none_some e)
finish_stays m zero (x ∷ ps) q there queued zero p e closed =
    absurd (true≢false (sym queued ∙ ap (λ (r : Place). is_open r.rank) (sym (some_same there) ∙ some_same e) ∙ closed))
finish_stays m zero (x ∷ ps) q there queued (suc n) p e closed = e
finish_stays m (suc k) (x ∷ ps) q there queued zero p e closed = e
finish_stays m (suc k) (x ∷ ps) q there queued (suc n) p e closed = finish_stays m k ps q there queued n p e closed

-- so what followed from them still does
module _ (t : Task) (ps qs : List Place) (stays : Stays ps qs) where
  at_stays : (q : Entry) → AtPlace ps q → AtPlace qs q
  at_stays q at =
      record { place = at.place; there = stays q.at at.place at.there at.closed; closed = at.closed; edge = at.edge; weight = at.weight }

  agrees_stays : (e : Edge) (v : ℕ) (o : Origin) → Agrees t ps e v o → Agrees t qs e v o
  agrees_stays e v (FromWord n) h = h
  agrees_stays e v (Empty n) h = h
  agrees_stays e v (First n b) (q, same, at, begins) = (q, same, at_stays q at, begins)
  agrees_stays e v (Next a b) (p, from, active, q, to, passive, joined) = (p, from, at_stays p active, q, to, at_stays q passive, joined)

-- a place that an arrival left follows from what its origin names, if the arrival does
brought_agrees : (t : Task) (ps : List Place) (a : Arrival) (p : Place) → Brought a p → Agrees t ps a.edge a.weight a.origin → Agrees t ps p.edge p.weight p.origin
brought_agrees t ps a p b h = subst (λ (x : Edge × ℕ × Origin). Agrees t ps x.0 x.1 x.2) (λ i. (sym b.1 i, sym b.2 i, sym b.3 i)) h

-- OPENING

module _ (t : Task) (capacity : ℕ) where
  opens_agrees : (ps : List Place) (a : Arrival) → Opens t a → Agrees t ps a.edge a.weight a.origin
  opens_agrees ps a (inl (n, by, origin)) = subst (Agrees t ps a.edge a.weight) (sym origin) by
  opens_agrees ps a (inr (n, by, origin)) = subst (Agrees t ps a.edge a.weight) (sym origin) by

  opens_before : (a : Arrival) → Opens t a → names_finished_before [] 1 a.origin ≡ true
  opens_before a (inl (n, by, origin)) = subst (λ o. names_finished_before [] 1 o ≡ true) (sym origin) refl
  opens_before a (inr (n, by, origin)) = subst (λ o. names_finished_before [] 1 o ≡ true) (sym origin) refl

  founded_opened : WellFounded t (opened t capacity)
  founded_opened =
      record {
        agrees = λ n p e. from_opening p (arrive_all_from capacity t.weights.lighter (first_arrivals t) blank p (nth_in (opened t capacity).places n p e));
        orderly = arrive_all_orderly capacity t.weights.lighter (first_arrivals t) blank refl (λ a i. opens_before a (opening_from t a i));
        counted = arrive_all_done capacity t.weights.lighter (first_arrivals t) blank ∙ sym (arrive_all_count capacity t.weights.lighter (first_arrivals t) blank);
      }
    where
      from_opening : (p : Place) → ⊥ ⊎ ((a : Arrival) × In a (first_arrivals t) × Brought a p) → Agrees t (opened t capacity).places p.edge p.weight p.origin
      from_opening p (inl j) = absurd j
      from_opening p (inr (a, i, brought)) =
          brought_agrees t (opened t capacity).places a p brought (opens_agrees (opened t capacity).places a (opening_from t a i))

-- A STEP

-- what follows from a finished edge agrees with its origin
module _ (t : Task) (s : Entry) (ps : List Place) (here : AtPlace ps s) where
  arises_agrees : (a : Arrival) → Arises t s ps a → Agrees t ps a.edge a.weight a.origin
  arises_agrees a (inl (n, begins, origin)) = subst (Agrees t ps a.edge a.weight) (sym origin) (s, refl, here, begins)
  arises_agrees a (inr (q, at, inl (joined, origin))) = subst (Agrees t ps a.edge a.weight) (sym origin) (q, refl, at, s, refl, here, joined)
  arises_agrees a (inr (q, at, inr (joined, origin))) = subst (Agrees t ps a.edge a.weight) (sym origin) (s, refl, here, q, refl, at, joined)

  arises_before : (limit : ℕ) → ((q : Entry) → AtPlace ps q → finished_before ps limit q.at ≡ true) → (a : Arrival) → Arises t s ps a → names_finished_before ps limit a.origin ≡ true
  arises_before limit each a (inl (n, begins, origin)) = subst (λ o. names_finished_before ps limit o ≡ true) (sym origin) (each s here)
  arises_before limit each a (inr (q, at, inl (joined, origin))) =
      subst (λ o. names_finished_before ps limit o ≡ true) (sym origin) (and_from (finished_before ps limit q.at) (finished_before ps limit s.at) (each q at) (each s here))
  arises_before limit each a (inr (q, at, inr (joined, origin))) =
      subst (λ o. names_finished_before ps limit o ≡ true) (sym origin) (and_from (finished_before ps limit s.at) (finished_before ps limit q.at) (each s here) (each q at))

module _ (t : Task) (capacity : ℕ) (c : Chart) (founded : WellFounded t c) (n : ℕ) (p : Place) (chosen : Chosen t c n p) where
  abbrev number : ℕ
  number = suc c.finished

  -- the edge just finished, and what follows from it
  abbrev now : Entry
  now = entry n p

  abbrev brought : List Arrival
  brought = arrivals t (entry n p) (finish (suc c.finished) n c.places)

  abbrev finishing_places : List Place
  finishing_places = finish (suc c.finished) n c.places

  now_there : AtPlace finishing_places now
  now_there = record { place = finished_place number p; there = finish_there number n c.places p chosen.there; closed = refl; edge = refl; weight = refl }

  ordered : orderly (finishing c n) ≡ true
  ordered = orderly_finish c n p chosen.there chosen.still_open founded.orderly

  arrivals_before : (a : Arrival) → In a brought → names_finished_before finishing_places (suc number) a.origin ≡ true
  arrivals_before a i =
      arises_before t now finishing_places now_there (suc number)
      (λ q at. closed_before (finishing c n) ordered q.at at.place at.there at.closed) a (arrivals_from t now finishing_places a i)

  was_agrees : (q : Place) → In q c.places → Agrees t finishing_places q.edge q.weight q.origin
  was_agrees q j =
      let (k, e) = in_nth c.places q j in
      agrees_stays t c.places finishing_places (finish_stays number n c.places p chosen.there chosen.still_open) q.edge q.weight q.origin (founded.agrees k q e)

  finishing_agrees : (q : Place) → In q c.places ⊎ (finished_place number p ≡ q) → Agrees t finishing_places q.edge q.weight q.origin
  finishing_agrees q (inl j) = was_agrees q j
  finishing_agrees q (inr e) =
      subst (λ (r : Place). Agrees t finishing_places r.edge r.weight r.origin) e (was_agrees p (nth_in c.places n p chosen.there))

  step_agrees : (q : Place) → In q finishing_places ⊎ ((a : Arrival) × In a brought × Brought a q) → Agrees t finishing_places q.edge q.weight q.origin
  step_agrees q (inl j) = finishing_agrees q (finish_from number n c.places p chosen.there q j)
  step_agrees q (inr (a, i, left)) =
      brought_agrees t finishing_places a q left (arises_agrees t now finishing_places now_there a (arrivals_from t now finishing_places a i))

  founded_stepped : WellFounded t (completed t capacity c (entry n p))
  founded_stepped =
      let after = completed t capacity c (entry n p) in
      record {
        agrees = λ k q e.
            agrees_stays t finishing_places after.places (arrive_all_stays capacity t.weights.lighter brought (finishing c n)) q.edge q.weight q.origin
            (step_agrees q (arrive_all_from capacity t.weights.lighter brought (finishing c n) q (nth_in after.places k q e)));
        orderly = arrive_all_orderly capacity t.weights.lighter brought (finishing c n) ordered arrivals_before;
        counted =
            arrive_all_done capacity t.weights.lighter brought (finishing c n)
            ∙ finish_done number n c.places p chosen.there chosen.still_open ∙ ap suc founded.counted
            ∙ sym (arrive_all_count capacity t.weights.lighter brought (finishing c n));
      }

pub founded_reachable : (t : Task) → Sound t → {c : Chart} → Reachable t c → WellFounded t c
founded_reachable t s (by_opening capacity) = founded_opened t capacity
founded_reachable t s (by_step capacity {c} before) =
    let founded = founded_reachable t s before in
    step_cases t s capacity c (inv_coded t s c (inv_reachable t s before)) (WellFounded t) (λ _. founded) (λ n p chosen. founded_stepped t capacity c founded n p chosen)
