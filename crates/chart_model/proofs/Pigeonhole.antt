-- Different edges that all have places are no more than the places. Assumes nothing.
use Rattle.std.proofs.Common.{◌≡◌, ℕ, suc, ◌≤◌, Bool, true, false, ◌||◌, ◌⊎◌, List, [], ◌∷◌, length, Some, sym, refl, ap, ◌∙◌, inl, inr, arith}
use Rattle.std.specs.List.{slice_get, IsDistinct}
use Rattle.chart_model.specs.Plain.{same_edge, holds}
use Rattle.chart_model.specs.declared.edge.Edge.{Edge}
use Rattle.chart_model.specs.declared.place.Place.{Place}
use Rattle.std.proofs.lemmas.Bool.{true≢false, or_cases, or_left, or_right}
use Rattle.chart_model.proofs.Edges.{same_edge_true, same_edge_from}
use Rattle.chart_model.proofs.Members.{all_nth}

-- the places without the first of an edge
abbrev without : Edge → List Place → List Place
without e [] = []
without e (p ∷ ps) = elim (same_edge p.edge e) [ true ↦ ps | false ↦ p ∷ without e ps ]

without_length : (e : Edge) (ps : List Place) → holds e ps ≡ true → length ps ≡ suc (length (without e ps))
without_length e [] h = absurd (true≢false (sym h))
without_length e (p ∷ ps) h = go (same_edge p.edge e) refl (without_length e ps) h
  where
    go : (b : Bool) → same_edge p.edge e ≡ b → (holds e ps ≡ true → length ps ≡ suc (length (without e ps))) → (b || holds e ps) ≡ true →
        suc (length ps) ≡ suc (length (elim b as (λ _. List Place) [ true ↦ ps | false ↦ p ∷ without e ps ]))
    go true s later h' = refl
    go false s later h' = ap suc (later h')

without_holds : (e f : Edge) (ps : List Place) → same_edge e f ≡ false → holds f ps ≡ true → holds f (without e ps) ≡ true
without_holds e f [] other h = h
without_holds e f (p ∷ ps) other h =
    go (same_edge p.edge e) refl (without_holds e f ps other) (or_cases (same_edge p.edge f) (holds f ps) h)
  where
    go : (b : Bool) → same_edge p.edge e ≡ b → (holds f ps ≡ true → holds f (without e ps) ≡ true) → (same_edge p.edge f ≡ true) ⊎ (holds f ps ≡ true) →
        holds f (elim b as (λ _. List Place) [ true ↦ ps | false ↦ p ∷ without e ps ]) ≡ true
    go true s later (inl g) =
        absurd (true≢false (sym (same_edge_from e f (sym (same_edge_true p.edge e s) ∙ same_edge_true p.edge f g)) ∙ other))
    go true s later (inr g) = g
    go false s later (inl g) = or_left (same_edge p.edge f) (holds f (without e ps)) g
    go false s later (inr g) = or_right (same_edge p.edge f) (holds f (without e ps)) (later g)

pub pigeonhole : (es : List Edge) (ps : List Place) → IsDistinct same_edge es → ((f : Edge) (n : ℕ) → slice_get es n ≡ Some f → holds f ps ≡ true) → length es ≤ length ps
unfolding IsDistinct
pigeonhole [] ps distinct held = omega arith
pigeonhole (e ∷ es) ps distinct held =
    let fewer : length es ≤ length (without e ps) =
    pigeonhole es (without e ps) distinct.1 (λ f n at. without_holds e f ps (all_nth (λ g. same_edge e g ≡ false) es distinct.0 n f at) (held f (suc n) at)) in
    let one_less : length ps ≡ suc (length (without e ps)) = without_length e ps (held e 0 refl) in
    omega arith
