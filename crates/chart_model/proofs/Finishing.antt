-- What finishing the edge at a place leaves among the places. Assumes nothing.
use Rattle.std.proofs.Common.{◌≡◌, ℕ, zero, suc, Bool, true, false, ◌||◌, ◌⊎◌, List, [], ◌∷◌, length, Some, sym, refl, ap, ◌∙◌, subst, inl, inr}
use Rattle.weighing.specs.Laws.{Weights}
use Rattle.std.specs.List.{slice_get}
use Rattle.chart_model.specs.Plain.{is_open, holds, same_edge, finished_place, finish, done}
use Rattle.chart_model.specs.declared.edge.Edge.{Edge}
use Rattle.chart_model.specs.declared.place.Place.{Place}
use Rattle.chart_model.proofs.AtMost.{AtMost}
use Rattle.chart_model.proofs.Members.{In, none_some, some_same}
use Rattle.chart_model.proofs.Placing.{Attains, apart}
use Rattle.chart_model.proofs.Done.{done_by, done_cons}

pub finish_from : (number n : ℕ) (ps : List Place) (p : Place) → slice_get ps n ≡ Some p → (q : Place) → In q (finish number n ps) → In q ps ⊎ (finished_place number p ≡ q)
finish_from number n [] p e q i = absurd i
finish_from number zero (x ∷ ps) p e q (inl h) = inr (ap (finished_place number) (sym (some_same e)) ∙ h)
finish_from number zero (x ∷ ps) p e q (inr i) = inl (inr i)
finish_from number (suc n) (x ∷ ps) p e q (inl h) = inl (inl h)
finish_from number (suc n) (x ∷ ps) p e q (inr i) = elim (finish_from number n ps p e q i) [ inl j ↦ inl (inr j) | inr h ↦ inr h ]

pub finish_there : (number n : ℕ) (ps : List Place) (p : Place) → slice_get ps n ≡ Some p → slice_get (finish number n ps) n ≡ Some (finished_place number p)
finish_there number n [] p e = absurd (none_some e)
finish_there number zero (x ∷ ps) p e = ap (λ q. Some (finished_place number q)) (some_same e)
finish_there number (suc n) (x ∷ ps) p e = finish_there number n ps p e

pub finish_keeps : (ws : Weights) (number n : ℕ) (ps : List Place) (e : Edge) (v : ℕ) → Attains ws ps e v → Attains ws (finish number n ps) e v
finish_keeps ws number n ps e v r = go number n ps r.1
  where
    go : (number n : ℕ) (ps : List Place) → In r.0 ps → Attains ws (finish number n ps) e v
    go number n [] i = absurd i
    go number zero (x ∷ ps) (inl h) =
        (finished_place number x, inl refl, ap (λ (p : Place). p.edge) h ∙ r.2, subst (λ (p : Place). AtMost ws p.weight v) (sym h) r.3)
    go number zero (x ∷ ps) (inr i) = (r.0, inr i, r.2, r.3)
    go number (suc n) (x ∷ ps) (inl h) = (r.0, inl h, r.2, r.3)
    go number (suc n) (x ∷ ps) (inr i) = let s = go number n ps i in (s.0, inr s.1, s.2, s.3)

pub finish_holds : (number n : ℕ) (ps : List Place) (e : Edge) → holds e (finish number n ps) ≡ holds e ps
finish_holds number n [] e = refl
finish_holds number zero (x ∷ ps) e = refl
finish_holds number (suc n) (x ∷ ps) e = ap (λ b. same_edge x.edge e || b) (finish_holds number n ps e)

pub finish_apart : (number n : ℕ) (ps : List Place) → apart ps → apart (finish number n ps)
finish_apart number n [] h = tt
finish_apart number zero (x ∷ ps) h = h
finish_apart number (suc n) (x ∷ ps) h = (finish_holds number n ps x.edge ∙ h.0, finish_apart number n ps h.1)

pub finish_length : (number n : ℕ) (ps : List Place) → length (finish number n ps) ≡ length ps
finish_length number n [] = refl
finish_length number zero (x ∷ ps) = refl
finish_length number (suc n) (x ∷ ps) = ap suc (finish_length number n ps)

pub finish_done : (number n : ℕ) (ps : List Place) (p : Place) → slice_get ps n ≡ Some p → is_open p.rank ≡ true → done (finish number n ps) ≡ suc (done ps)
finish_done number n [] p e queued = absurd (none_some e)
finish_done number zero (x ∷ ps) p e queued =
    done_cons (finished_place number x) ps
    ∙ sym (ap suc (done_cons x ps ∙ ap (λ b. done_by b (done ps)) (ap (λ (q : Place). is_open q.rank) (some_same e) ∙ queued)))
finish_done number (suc n) (x ∷ ps) p e queued =
    done_cons x (finish number n ps) ∙ ap (done_by (is_open x.rank)) (finish_done number n ps p e queued) ∙ go (is_open x.rank) ∙ sym (ap suc (done_cons x ps))
  where
    go : (b : Bool) → done_by b (suc (done ps)) ≡ suc (done_by b (done ps))
    go true = refl
    go false = refl
