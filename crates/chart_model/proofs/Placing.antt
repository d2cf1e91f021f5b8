-- What one arrival leaves among the places: nothing gets heavier, finished edges stay, and edges stay apart. Assumes
-- nothing.
use Rattle.std.proofs.Common.{◌≡◌, ℕ, suc, ◌≤◌, Bool, true, false, ◌&&◌, ◌||◌, ◌⊎◌, List, [], ◌∷◌, length, sym, refl, ap, ◌∙◌, subst, inl, inr, arith}
use Rattle.weighing.specs.Laws.{Weights, Lawful, Code}
use Rattle.chart_model.specs.Plain.{same_edge, is_open, fresh, lightened, improved, placed, holds, done}
use Rattle.chart_model.specs.declared.place.Arrival.{Arrival}
use Rattle.chart_model.specs.declared.edge.Edge.{Edge}
use Rattle.chart_model.specs.declared.place.Place.{Place}
use Rattle.std.proofs.lemmas.Bool.{true≢false, and_parts, and_cases, or_parts, or_from}
use Rattle.chart_model.proofs.AtMost.{AtMost, at_most_refl, at_most_lighter, at_most_trans}
use Rattle.chart_model.proofs.Members.{In}
use Rattle.chart_model.proofs.Edges.{same_edge_true, same_edge_from, same_edge_back}
use Rattle.chart_model.proofs.Done.{done_by, done_cons}

-- the edge has a place, and is no heavier there
abbrev pub Attains : Weights → List Place → Edge → ℕ → Type 0
Attains ws ps e v = (p : Place) × In p ps × (p.edge ≡ e) × AtMost ws p.weight v

-- no finished edge is heavier
abbrev pub Beyond : Weights → List Place → ℕ → Type 0
Beyond ws ps v = (p : Place) → In p ps → is_open p.rank ≡ false → AtMost ws p.weight v

-- the places hold different edges
abbrev pub apart : List Place → Type 0
apart [] = Unit {0}
apart (p ∷ ps) = (holds p.edge ps ≡ false) × apart ps

-- the two ways of improving a place
pub improved_cases : (lighter : ℕ → ℕ → Bool) (a : Arrival) (q : Place) (Q : Place → Type 0) →
    (is_open q.rank ≡ true → lighter a.weight q.weight ≡ true →
    Q (lightened a q)) →
    ((is_open q.rank && lighter a.weight q.weight) ≡ false → Q q) →
    Q (improved lighter a q)
improved_cases lighter a q Q better same = go (is_open q.rank && lighter a.weight q.weight) refl
  where
    go : (b : Bool) → (is_open q.rank && lighter a.weight q.weight) ≡ b →
        Q (elim b [ true ↦ lightened a q | false ↦ q ])
    go true h = let both = and_parts (is_open q.rank) (lighter a.weight q.weight) h in better both.0 both.1
    go false h = same h

-- the two ways of going on past a place
pub placed_cases : (lighter : ℕ → ℕ → Bool) (a : Arrival) (q : Place) (ps : List Place) (Q : List Place → Type 0) →
    (q.edge ≡ a.edge → Q (improved lighter a q ∷ ps)) →
    (same_edge q.edge a.edge ≡ false → Q (q ∷ placed lighter a ps)) →
    Q (placed lighter a (q ∷ ps))
placed_cases lighter a q ps Q met passed = go (same_edge q.edge a.edge) refl
  where
    go : (b : Bool) → same_edge q.edge a.edge ≡ b → Q (elim b [ true ↦ improved lighter a q ∷ ps | false ↦ q ∷ placed lighter a ps ])
    go true h = met (same_edge_true q.edge a.edge h)
    go false h = passed h

-- the place is what the arrival left
abbrev pub Brought : Arrival → Place → Type 0
Brought a p = (is_open p.rank ≡ true) × (p.edge ≡ a.edge) × (p.weight ≡ a.weight) × (p.origin ≡ a.origin)

pub placed_from : (lighter : ℕ → ℕ → Bool) (a : Arrival) (ps : List Place) (p : Place) → In p (placed lighter a ps) → In p ps ⊎ Brought a p
placed_from lighter a [] p (inl e) = inr (subst (Brought a) e (refl, refl, refl, refl))
placed_from lighter a [] p (inr i) = absurd i
placed_from lighter a (q ∷ ps) p i =
    placed_cases lighter a q ps (λ qs. In p qs → In p (q ∷ ps) ⊎ Brought a p) met (λ _. passed (placed_from lighter a ps p)) i
  where
    passed : (In p (placed lighter a ps) → In p ps ⊎ Brought a p) → In p (q ∷ placed lighter a ps) → In p (q ∷ ps) ⊎ Brought a p
    passed after (inl e) = inl (inl e)
    passed after (inr i) = elim (after i) [ inl j ↦ inl (inr j) | inr b ↦ inr b ]

    at : q.edge ≡ a.edge → improved lighter a q ≡ p → In p (q ∷ ps) ⊎ Brought a p
    at same = improved_cases lighter a q (λ r. r ≡ p → In p (q ∷ ps) ⊎ Brought a p)
        (λ queued _ e. inr (subst (Brought a) e (queued, same, refl, refl))) (λ _ e. inl (inl e))

    met : q.edge ≡ a.edge → In p (improved lighter a q ∷ ps) → In p (q ∷ ps) ⊎ Brought a p
    met same (inl e) = at same e
    met same (inr i) = inl (inr i)

module _ (ws : Weights) (law : Lawful ws) (a : Arrival) (code : Code a.weight) where
  -- what an edge has reached it keeps
  pub placed_keeps : (ps : List Place) (e : Edge) (v : ℕ) → Attains ws ps e v → Attains ws (placed ws.lighter a ps) e v
  placed_keeps [] e v r = absurd r.1
  placed_keeps (q ∷ ps) e v r =
      placed_cases ws.lighter a q ps (λ qs. Attains ws qs e v) (λ _. met r.1) (λ _. passed (placed_keeps ps e v) r.1)
    where
      passed : (Attains ws ps e v → Attains ws (placed ws.lighter a ps) e v) → In r.0 (q ∷ ps) → Attains ws (q ∷ placed ws.lighter a ps) e v
      passed after (inl same) = (r.0, inl same, r.2, r.3)
      passed after (inr i) = let s = after (r.0, i, r.2, r.3) in (s.0, inr s.1, s.2, s.3)

      met : In r.0 (q ∷ ps) → Attains ws (improved ws.lighter a q ∷ ps) e v
      met (inl same) =
          let edge_here : q.edge ≡ e = ap (λ (p : Place). p.edge) same ∙ r.2 in
          let at_most : AtMost ws q.weight v = subst (λ (p : Place). AtMost ws p.weight v) (sym same) r.3 in
          improved_cases ws.lighter a q (λ p. Attains ws (p ∷ ps) e v)
          (λ _ lt. (
            lightened a q,
            inl refl,
            edge_here,
            at_most_trans ws law a.weight q.weight v (at_most_lighter ws law a.weight q.weight code at_most.0 lt) at_most,
          ))
          (λ _. (q, inl refl, edge_here, at_most))
      met (inr i) = (r.0, inr i, r.2, r.3)

  -- the arrival's edge is as light as the arrival, unless it was finished heavier
  pub placed_attains : (ps : List Place) → ((p : Place) → In p ps → Code p.weight) → Beyond ws ps a.weight →
      Attains ws (placed ws.lighter a ps) a.edge a.weight
  placed_attains [] codes beyond = (fresh a, inl refl, refl, at_most_refl ws law a.weight code)
  placed_attains (q ∷ ps) codes beyond =
      placed_cases ws.lighter a q ps (λ qs. Attains ws qs a.edge a.weight) met
      (λ _. passed (placed_attains ps (λ p i. codes p (inr i)) (λ p i. beyond p (inr i))))
    where
      passed : Attains ws (placed ws.lighter a ps) a.edge a.weight → Attains ws (q ∷ placed ws.lighter a ps) a.edge a.weight
      passed s = (s.0, inr s.1, s.2, s.3)

      kept : (is_open q.rank ≡ false) ⊎ (ws.lighter a.weight q.weight ≡ false) → AtMost ws q.weight a.weight
      kept (inl closed) = beyond q (inl refl) closed
      kept (inr heavy) = (codes q (inl refl), code, heavy)

      met : q.edge ≡ a.edge → Attains ws (improved ws.lighter a q ∷ ps) a.edge a.weight
      met same =
          improved_cases ws.lighter a q (λ p. Attains ws (p ∷ ps) a.edge a.weight)
          (λ _ _. (
            lightened a q,
            inl refl,
            same,
            at_most_refl ws law a.weight code,
          ))
          (λ h. (q, inl refl, same, kept (and_cases (is_open q.rank) (ws.lighter a.weight q.weight) h)))

module _ (lighter : ℕ → ℕ → Bool) (a : Arrival) where
  improved_edge : (q : Place) → (improved lighter a q).edge ≡ q.edge
  improved_edge q = improved_cases lighter a q (λ p. p.edge ≡ q.edge) (λ _ _. refl) (λ _. refl)

  improved_open : (q : Place) → is_open (improved lighter a q).rank ≡ is_open q.rank
  improved_open q = improved_cases lighter a q (λ p. is_open p.rank ≡ is_open q.rank) (λ _ _. refl) (λ _. refl)

  pub placed_holds : (ps : List Place) (e : Edge) → holds e ps ≡ false → same_edge a.edge e ≡ false → holds e (placed lighter a ps) ≡ false
  placed_holds [] e h other = or_from (same_edge a.edge e) false other refl
  placed_holds (q ∷ ps) e h other =
      let parts = or_parts (same_edge q.edge e) (holds e ps) h in
      placed_cases lighter a q ps (λ qs. holds e qs ≡ false)
      (λ _. or_from (same_edge (improved lighter a q).edge e) (holds e ps) (ap (λ f. same_edge f e) (improved_edge q) ∙ parts.0) parts.1)
      (λ _. or_from (same_edge q.edge e) (holds e (placed lighter a ps)) parts.0 (placed_holds ps e parts.1 other))

  pub placed_apart : (ps : List Place) → apart ps → apart (placed lighter a ps)
  placed_apart [] h = (refl, tt)
  placed_apart (q ∷ ps) h =
      placed_cases lighter a q ps apart
      (λ _. (ap (λ f. holds f ps) (improved_edge q) ∙ h.0, h.1))
      (λ other. (placed_holds ps q.edge h.0 (same_edge_back q.edge a.edge other), placed_apart ps h.1))

  pub placed_done : (ps : List Place) → done (placed lighter a ps) ≡ done ps
  placed_done [] = refl
  placed_done (q ∷ ps) =
      placed_cases lighter a q ps (λ qs. done qs ≡ done (q ∷ ps))
      (λ _. done_cons (improved lighter a q) ps ∙ ap (λ b. done_by b (done ps)) (improved_open q) ∙ sym (done_cons q ps))
      (λ _. done_cons q (placed lighter a ps) ∙ ap (done_by (is_open q.rank)) (placed_done ps) ∙ sym (done_cons q ps))

  pub placed_length : (ps : List Place) → length (placed lighter a ps) ≤ suc (length ps)
  placed_length [] = omega arith
  placed_length (q ∷ ps) =
      placed_cases lighter a q ps (λ qs. length qs ≤ suc (suc (length ps)))
      (λ _. omega arith)
      (λ _. let h : length (placed lighter a ps) ≤ suc (length ps) = placed_length ps in omega arith)

  pub placed_grows : (ps : List Place) → length ps ≤ length (placed lighter a ps)
  placed_grows [] = omega arith
  placed_grows (q ∷ ps) =
      placed_cases lighter a q ps (λ qs. suc (length ps) ≤ length qs)
      (λ _. omega arith)
      (λ _. let h : length ps ≤ length (placed lighter a ps) = placed_grows ps in omega arith)

  pub placed_held : (ps : List Place) → holds a.edge ps ≡ true → length (placed lighter a ps) ≡ length ps
  placed_held [] h = absurd (true≢false (sym h))
  placed_held (q ∷ ps) h =
      placed_cases lighter a q ps (λ qs. length qs ≡ suc (length ps)) (λ _. refl)
      (λ other. ap suc (placed_held ps (subst (λ b. (b || holds a.edge ps) ≡ true) other h)))

  -- a new edge takes one place more
  pub placed_new : (ps : List Place) → holds a.edge ps ≡ false → length (placed lighter a ps) ≡ suc (length ps)
  placed_new [] h = refl
  placed_new (q ∷ ps) h =
      let parts = or_parts (same_edge q.edge a.edge) (holds a.edge ps) h in
      placed_cases lighter a q ps (λ qs. length qs ≡ suc (suc (length ps)))
      (λ same. absurd (true≢false (sym (same_edge_from q.edge a.edge same) ∙ parts.0)))
      (λ _. ap suc (placed_new ps parts.1))
