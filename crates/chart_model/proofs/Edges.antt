-- The test of edges decides whether two edges are equal. Assumes nothing.
use Rattle.std.proofs.Common.{◌≡◌, true, false, ◌&&◌, eqb, sym, refl, ◌∙◌, subst}
use Rattle.chart_model.specs.Plain.{same_edge}
use Rattle.chart_model.specs.declared.edge.Edge.{Edge}
use Rattle.chart_model.specs.declared.edge.Edge.TheVariants.{Passive, Active}
use Rattle.std.proofs.lemmas.Bool.{false≢true, true≢false, false_from_ne_true, and_parts, and_from, eqb-true, eq-eqb}

pub same_edge_true : (e f : Edge) → same_edge e f ≡ true → e ≡ f
same_edge_true (Passive x i j) (Passive y k l) h =
    let p = and_parts (eqb x y) (eqb i k && eqb j l) h in
    let q = and_parts (eqb i k) (eqb j l) p.1 in
    λ d. Passive (eqb-true x y p.0 d) (eqb-true i k q.0 d) (eqb-true j l q.1 d)
same_edge_true (Passive x i j) (Active s m k l) h = absurd (false≢true h)
same_edge_true (Active r n i j) (Passive y k l) h = absurd (false≢true h)
same_edge_true (Active r n i j) (Active s m k l) h =
    let o = and_parts (eqb r s) (eqb n m && (eqb i k && eqb j l)) h in
    let p = and_parts (eqb n m) (eqb i k && eqb j l) o.1 in
    let q = and_parts (eqb i k) (eqb j l) p.1 in
    λ d. Active (eqb-true r s o.0 d) (eqb-true n m p.0 d) (eqb-true i k q.0 d) (eqb-true j l q.1 d)

pub same_edge_refl : (e : Edge) → same_edge e e ≡ true
same_edge_refl (Passive x i j) =
    and_from (eqb x x) (eqb i i && eqb j j) (eq-eqb x x refl) (and_from (eqb i i) (eqb j j) (eq-eqb i i refl) (eq-eqb j j refl))
same_edge_refl (Active r n i j) =
    and_from (eqb r r) (eqb n n && (eqb i i && eqb j j)) (eq-eqb r r refl)
    (and_from (eqb n n) (eqb i i && eqb j j) (eq-eqb n n refl)
    (and_from (eqb i i) (eqb j j) (eq-eqb i i refl) (eq-eqb j j refl)))

pub same_edge_from : (e f : Edge) → e ≡ f → same_edge e f ≡ true
same_edge_from e f p = subst (λ x. same_edge e x ≡ true) p (same_edge_refl e)

pub same_edge_back : (e f : Edge) → same_edge e f ≡ false → same_edge f e ≡ false
same_edge_back e f h = false_from_ne_true (same_edge f e) (λ s. true≢false (sym (same_edge_from e f (sym (same_edge_true f e s))) ∙ h))
