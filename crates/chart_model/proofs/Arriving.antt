-- What a list of arrivals leaves of a chart, whether or not it becomes full on the way. Assumes nothing.
use Rattle.std.proofs.Common.{◌≡◌, ℕ, suc, ◌<◌, ◌≤◌, Bool, true, false, ◌||◌, ltb, ◌⊎◌, List, [], ◌∷◌, length, sym, refl, ap, ◌∙◌, subst, inl, inr, le_refl, le_trans, arith}
use Rattle.weighing.specs.Laws.{Weights, Lawful, Code}
use Rattle.chart_model.specs.Task.{Task}
use Rattle.chart_model.specs.Derivation.{Derives}
use Rattle.chart_model.specs.Stands.{Fits}
use Rattle.chart_model.specs.Plain.{Chart, is_open, placed, holds, arrive, arrive_all, done}
use Rattle.chart_model.specs.declared.place.Arrival.{Arrival}
use Rattle.chart_model.specs.declared.edge.Edge.{Edge}
use Rattle.chart_model.specs.declared.place.Place.{Place}
use Rattle.std.proofs.lemmas.Bool.{true≢false, or_cases, or_parts, ltb-true, ltb-false}
use Rattle.chart_model.proofs.AtMost.{AtMost}
use Rattle.chart_model.proofs.Members.{In}
use Rattle.chart_model.proofs.Placing.{Attains, Beyond, Brought, apart, placed_from, placed_keeps, placed_attains, placed_apart, placed_done, placed_length, placed_grows, placed_held}

-- the edge has a place and weighs v or less there, or the chart is full and no finished edge weighs more than v
abbrev pub Answered : Weights → Chart → Edge → ℕ → Type 0
Answered ws c e v = Attains ws c.places e v ⊎ ((c.full ≡ true) × Beyond ws c.places v)

-- all weights in the chart are codes
abbrev pub Coded : List Place → Type 0
Coded ps = (p : Place) → In p ps → Code p.weight

-- a full chart has refused an edge that has a derivation
abbrev pub Refused : Task → Chart → Type 0
Refused t c = c.full ≡ true → (e : Edge) × Derives t e × (holds e c.places ≡ false)

module _ (capacity : ℕ) (lighter : ℕ → ℕ → Bool) where
  -- the three ways of arriving
  pub arrive_cases : (c : Chart) (a : Arrival) (Q : Chart → Type 0) →
      (c.full ≡ true → Q c) →
      (c.full ≡ false → (holds a.edge c.places ≡ true) ⊎ (length c.places < capacity) →
      Q (record { places = placed lighter a c.places; full = false; finished = c.finished })) →
      (c.full ≡ false → holds a.edge c.places ≡ false → capacity ≤ length c.places →
      Q (record { places = c.places; full = true; finished = c.finished })) →
      Q (arrive capacity lighter c a)
  arrive_cases c a Q at_full at_place at_none = go c.full refl
    where
      room : c.full ≡ false → (b : Bool) → (holds a.edge c.places || ltb (length c.places) capacity) ≡ b →
          Q (elim b [
            | true ↦ record { places = placed lighter a c.places; full = false; finished = c.finished }
            | false ↦ record { places = c.places; full = true; finished = c.finished }
          ])
      room f true h =
          at_place f (elim (or_cases (holds a.edge c.places) (ltb (length c.places) capacity) h)
          [ inl held ↦ inl held | inr below ↦ inr (ltb-true (length c.places) capacity below) ])
      room f false h =
          let parts = or_parts (holds a.edge c.places) (ltb (length c.places) capacity) h in
          at_none f parts.0 (ltb-false (length c.places) capacity parts.1)

      go : (b : Bool) → c.full ≡ b →
          Q (elim b [
            | true ↦ c
            | false ↦ elim (holds a.edge c.places || ltb (length c.places) capacity) [
              | true ↦ record { places = placed lighter a c.places; full = false; finished = c.finished }
              | false ↦ record { places = c.places; full = true; finished = c.finished }
            ]
          ])
      go true f = at_full f
      go false f = room f (holds a.edge c.places || ltb (length c.places) capacity) refl

  -- what each arrival keeps, all of them keep
  pub arrive_all_keep : (Q : Chart → Type 0) (as' : List Arrival) →
      ((a : Arrival) → In a as' → (c : Chart) → Q c → Q (arrive capacity lighter c a)) →
      (c : Chart) → Q c → Q (arrive_all capacity lighter c as')
  arrive_all_keep Q [] each c h = h
  arrive_all_keep Q (a ∷ later) each c h =
      arrive_all_keep Q later (λ b i. each b (inr i)) (arrive capacity lighter c a) (each a (inl refl) c h)

  pub arrive_from : (c : Chart) (a : Arrival) (p : Place) → In p (arrive capacity lighter c a).places → In p c.places ⊎ Brought a p
  arrive_from c a p =
      arrive_cases c a (λ d. In p d.places → In p c.places ⊎ Brought a p)
      (λ _ i. inl i) (λ _ _ i. placed_from lighter a c.places p i) (λ _ _ _ i. inl i)

  -- a place was there before, or one of the arrivals left it
  pub arrive_all_from : (as' : List Arrival) (c : Chart) (p : Place) → In p (arrive_all capacity lighter c as').places →
      In p c.places ⊎ ((a : Arrival) × In a as' × Brought a p)
  arrive_all_from [] c p i = inl i
  arrive_all_from (a ∷ later) c p i = go (arrive_all_from later (arrive capacity lighter c a) p i)
    where
      first : In p c.places ⊎ Brought a p → In p c.places ⊎ ((b : Arrival) × In b (a ∷ later) × Brought b p)
      first (inl j) = inl j
      first (inr b) = inr (a, inl refl, b)

      go : In p (arrive capacity lighter c a).places ⊎ ((b : Arrival) × In b later × Brought b p) →
          In p c.places ⊎ ((b : Arrival) × In b (a ∷ later) × Brought b p)
      go (inl j) = first (arrive_from c a p j)
      go (inr b) = inr (b.0, inr b.1, b.2)

  pub arrive_all_finished : (as' : List Arrival) (c : Chart) (p : Place) → In p (arrive_all capacity lighter c as').places →
      is_open p.rank ≡ false → In p c.places
  arrive_all_finished as' c p i closed = go (arrive_all_from as' c p i)
    where
      go : In p c.places ⊎ ((a : Arrival) × In a as' × Brought a p) → In p c.places
      go (inl j) = j
      go (inr b) = absurd (true≢false (sym b.2.0 ∙ closed))

  pub arrive_all_apart : (as' : List Arrival) (c : Chart) → apart c.places → apart (arrive_all capacity lighter c as').places
  arrive_all_apart as' =
      arrive_all_keep (λ c. apart c.places) as'
      (λ a _ c h. arrive_cases c a (λ d. apart d.places) (λ _. h) (λ _ _. placed_apart lighter a c.places h) (λ _ _ _. h))

  pub arrive_all_done : (as' : List Arrival) (c : Chart) → done (arrive_all capacity lighter c as').places ≡ done c.places
  arrive_all_done as' c =
      arrive_all_keep (λ d. done d.places ≡ done c.places) as'
      (λ a _ d h. arrive_cases d a (λ x. done x.places ≡ done c.places) (λ _. h) (λ _ _. placed_done lighter a d.places ∙ h) (λ _ _ _. h))
      c refl

  pub arrive_all_count : (as' : List Arrival) (c : Chart) → (arrive_all capacity lighter c as').finished ≡ c.finished
  arrive_all_count as' c =
      arrive_all_keep (λ d. d.finished ≡ c.finished) as'
      (λ a _ d h. arrive_cases d a (λ x. x.finished ≡ c.finished) (λ _. h) (λ _ _. h) (λ _ _ _. h)) c refl

  -- places are never fewer
  pub arrive_all_grows : (as' : List Arrival) (c : Chart) → length c.places ≤ length (arrive_all capacity lighter c as').places
  arrive_all_grows as' c =
      arrive_all_keep (λ d. length c.places ≤ length d.places) as'
      (λ a _ d h. arrive_cases d a (λ x. length c.places ≤ length x.places) (λ _. h) (λ _ _. le_trans h (placed_grows lighter a d.places)) (λ _ _ _. h))
      c (le_refl (length c.places))

  -- and a full chart stays as it is
  pub arrive_all_full : (as' : List Arrival) (c : Chart) → c.full ≡ true → arrive_all capacity lighter c as' ≡ c
  arrive_all_full as' c full =
      arrive_all_keep (λ d. d ≡ c) as'
      (λ a _ d h. arrive_cases d a (λ x. x ≡ c) (λ _. h)
      (λ open_yet _. absurd (true≢false (sym full ∙ ap (λ (x : Chart). x.full) (sym h) ∙ open_yet)))
      (λ open_yet _ _. absurd (true≢false (sym full ∙ ap (λ (x : Chart). x.full) (sym h) ∙ open_yet))))
      c refl

  placed_fits : (c : Chart) (a : Arrival) → (holds a.edge c.places ≡ true) ⊎ (length c.places < capacity) →
      length c.places ≤ capacity → length (placed lighter a c.places) ≤ capacity
  placed_fits c a (inl held) h = subst (λ m. m ≤ capacity) (sym (placed_held lighter a c.places held)) h
  placed_fits c a (inr below) h =
      let one_more : length (placed lighter a c.places) ≤ suc (length c.places) = placed_length lighter a c.places in omega arith

  pub arrive_all_fits : (as' : List Arrival) (c : Chart) → Fits capacity c → Fits capacity (arrive_all capacity lighter c as')
  arrive_all_fits as' =
      arrive_all_keep (Fits capacity) as'
      (λ a _ c h. arrive_cases c a (Fits capacity) (λ _. h)
      (λ _ room. record { within = placed_fits c a room h.within; taken = λ f. absurd (true≢false (sym f)) })
      (λ _ _ taken. record { within = h.within; taken = λ _. taken }))

  pub arrive_all_refused : (t : Task) (as' : List Arrival) → ((a : Arrival) → In a as' → Derives t a.edge) →
      (c : Chart) → Refused t c → Refused t (arrive_all capacity lighter c as')
  arrive_all_refused t as' derived =
      arrive_all_keep (Refused t) as'
      (λ a i c h. arrive_cases c a (Refused t) (λ _. h)
      (λ _ _ f. absurd (true≢false (sym f)))
      (λ _ absent _ _. (a.edge, derived a i, absent)))

module _ (capacity : ℕ) (ws : Weights) (law : Lawful ws) where
  arrive_keeps : (a : Arrival) → Code a.weight → (e : Edge) (v : ℕ) (c : Chart) → Answered ws c e v → Answered ws (arrive capacity ws.lighter c a) e v
  arrive_keeps a code e v c h =
      arrive_cases capacity ws.lighter c a (λ d. Answered ws d e v) (λ _. h) (λ open_yet _. placing open_yet h) (λ open_yet _ _. refusing open_yet h)
    where
      placing : c.full ≡ false → Answered ws c e v → Answered ws (record { places = placed ws.lighter a c.places; full = false; finished = c.finished }) e v
      placing f (inl r) = inl (placed_keeps ws law a code c.places e v r)
      placing f (inr b) = absurd (true≢false (sym b.0 ∙ f))

      refusing : c.full ≡ false → Answered ws c e v → Answered ws (record { places = c.places; full = true; finished = c.finished }) e v
      refusing f (inl r) = inl r
      refusing f (inr b) = absurd (true≢false (sym b.0 ∙ f))

  pub arrive_all_keeps : (as' : List Arrival) → ((a : Arrival) → In a as' → Code a.weight) →
      (e : Edge) (v : ℕ) (c : Chart) → Answered ws c e v → Answered ws (arrive_all capacity ws.lighter c as') e v
  arrive_all_keeps as' codes e v =
      arrive_all_keep capacity ws.lighter (λ d. Answered ws d e v) as' (λ a i c h. arrive_keeps a (codes a i) e v c h)

  arrive_answers : (a : Arrival) → Code a.weight → (c : Chart) → Coded c.places → Beyond ws c.places a.weight →
      Answered ws (arrive capacity ws.lighter c a) a.edge a.weight
  arrive_answers a code c coded beyond =
      arrive_cases capacity ws.lighter c a (λ d. Answered ws d a.edge a.weight)
      (λ f. inr (f, beyond)) (λ _ _. inl (placed_attains ws law a code c.places coded beyond)) (λ _ _ _. inr (refl, beyond))

  -- each arrival that no finished edge outweighs is answered
  pub arrive_all_answers : (as' : List Arrival) → ((a : Arrival) → In a as' → Code a.weight) →
      (c : Chart) → Coded c.places → (a : Arrival) → In a as' → Beyond ws c.places a.weight →
      Answered ws (arrive_all capacity ws.lighter c as') a.edge a.weight
  arrive_all_answers [] codes c coded a i beyond = absurd i
  arrive_all_answers (b ∷ later) codes c coded a (inl same) beyond =
      arrive_all_keeps later (λ x i. codes x (inr i)) a.edge a.weight (arrive capacity ws.lighter c b)
      (subst (λ x. Answered ws (arrive capacity ws.lighter c b) x.edge x.weight) same
      (arrive_answers b (codes b (inl refl)) c coded (subst (λ x. Beyond ws c.places x.weight) (sym same) beyond)))
  arrive_all_answers (b ∷ later) codes c coded a (inr i) beyond =
      arrive_all_answers later (λ x j. codes x (inr j)) (arrive capacity ws.lighter c b)
      (λ p j. coded_still p (arrive_from capacity ws.lighter c b p j)) a i
      (λ p j closed. beyond_still p closed (arrive_from capacity ws.lighter c b p j))
    where
      coded_still : (p : Place) → In p c.places ⊎ Brought b p → Code p.weight
      coded_still p (inl j) = coded p j
      coded_still p (inr brought) = subst Code (sym brought.2) (codes b (inl refl))

      beyond_still : (p : Place) → is_open p.rank ≡ false → In p c.places ⊎ Brought b p → AtMost ws p.weight a.weight
      beyond_still p closed (inl j) = beyond p j closed
      beyond_still p closed (inr brought) = absurd (true≢false (sym brought.0 ∙ closed))
