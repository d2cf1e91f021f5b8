-- How many places are finished. Assumes nothing.
use Rattle.std.proofs.Common.{◌≡◌, ℕ, suc, ◌+◌, ◌<◌, ◌≤◌, Bool, true, false, not, cond, List, [], ◌∷◌, length, ap, ◌∙◌, inl, inr, arith}
use Rattle.std.proofs.lemmas.List.Sums.{sum_by-cons, count_by-le-length}
use Rattle.chart_model.specs.Plain.{is_open, done}
use Rattle.chart_model.specs.declared.place.Place.{Place}
use Rattle.chart_model.proofs.Members.{In}

-- by the first place, and those after it
abbrev pub done_by : Bool → ℕ → ℕ
done_by queued later = elim queued [ true ↦ later | false ↦ suc later ]

pub done_cons : (p : Place) (ps : List Place) → done (p ∷ ps) ≡ done_by (is_open p.rank) (done ps)
done_cons p ps = sum_by-cons (λ (q : Place). cond (not (is_open q.rank)) 1 0) p ps ∙ go (is_open p.rank)
  where
    go : (b : Bool) → cond (not b) 1 0 + done ps ≡ done_by b (done ps)
    go true = omega arith
    go false = omega arith

-- no more than there are
pub done_within : (ps : List Place) → done ps ≤ length ps
done_within ps = count_by-le-length (λ (p : Place). not (is_open p.rank)) ps

-- fewer where one is open
pub open_left : (ps : List Place) (p : Place) → In p ps → is_open p.rank ≡ true → done ps < length ps
open_left [] p i queued = absurd i
open_left (q ∷ ps) p (inl same) queued =
    let rest : done ps ≤ length ps = done_within ps in
    let here : done (q ∷ ps) ≡ done ps = done_cons q ps ∙ ap (λ b. done_by b (done ps)) (ap (λ (r : Place). is_open r.rank) same ∙ queued) in
    omega arith
open_left (q ∷ ps) p (inr i) queued = go (open_left ps p i queued) (is_open q.rank) (done_cons q ps)
  where
    go : done ps < length ps → (b : Bool) → done (q ∷ ps) ≡ done_by b (done ps) → done (q ∷ ps) < length (q ∷ ps)
    go rest true here = omega arith
    go rest false here = omega arith
