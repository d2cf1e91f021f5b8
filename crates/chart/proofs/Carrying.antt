-- The weight of a finished edge, by its place. Assumes nothing.
use Rattle.std.proofs.Common.{◌≡◌, ℕ, zero, suc, ◌+◌, ◌<◌, Bool, true, false, List, [], ◌∷◌, length, get_or, Some, None, Option, sym, refl, ◌∙◌, ⊎_elim, arith}
use Rattle.std.specs.List.{slice_get, position_from}
use Rattle.std.specs.Option.{option_map}
use Rattle.std.proofs.lemmas.Bool.{cases_Bool}
use Rattle.std.proofs.lemmas.Iterator.Adapters.{position_from-zero}
use Rattle.std.proofs.lemmas.List.Quantifiers.{position-Some}
use Rattle.chart_model.specs.Plain.{same_edge, is_open, unused, entry, finished_entry, place_of, carried}
use Rattle.chart_model.specs.declared.edge.Edge.{Edge}
use Rattle.chart_model.specs.declared.place.Place.{Place}
use Rattle.chart_model.specs.declared.place.Entry.{Entry}
use Rattle.chart_model.proofs.Members.{none_some}
use Rattle.chart.specs.View.{finished_entry_at, finished_entry_of}

-- the weight at a place, if the edge there is finished
abbrev weight_of : Option Place → Option ℕ
weight_of None = None
weight_of (Some p) = elim (is_open p.rank) [ true ↦ None | false ↦ Some p.weight ]

entry_weight : (n : ℕ) (o : Option Place) → option_map (λ (s : Entry). s.weight) (elim o [ None ↦ None | Some p ↦ finished_entry n p ]) ≡ weight_of o
entry_weight n None = refl
entry_weight n (Some p) = go p.rank
  where
    go : (m : Option ℕ) → option_map (λ (s : Entry). s.weight) (elim m as (λ _. Option Entry) [ None ↦ None | Some k ↦ Some (entry n p) ])
        ≡ elim (is_open m) as (λ _. Option ℕ) [ true ↦ None | false ↦ Some p.weight ]
    go None = refl
    go (Some k) = refl

module _ (e : Edge) where
  abbrev has : Place → Bool
  has p = same_edge p.edge e

  -- an edge with a place carries the weight of what stands finished there
  carried_at : (k : ℕ) (ps : List Place) (d : Place) → k < length ps → has (get_or ps k d) ≡ true → ((j : ℕ) → j < k → has (get_or ps j d) ≡ false) → weight_of (slice_get ps k) ≡ carried e ps
  carried_at k [] d within here before = absurd (omega arith)
  carried_at zero (p ∷ ps) d within here before = rw (here, carried)
  carried_at (suc k) (p ∷ ps) d within here before =
      let other : has p ≡ false = before 0 (omega arith) in
      rw (other, carried) (carried_at k ps d (omega arith) here (λ j below. before (suc j) (omega arith)))

  -- an edge without a place is not finished
  uncarried : (m : ℕ) (ps : List Place) → position_from has m ps ≡ None → None ≡ carried e ps
  uncarried m [] h = refl
  uncarried m (p ∷ ps) h =
      ⊎_elim
      (λ (here : has p ≡ true). let found = rw here at h in absurd (none_some (sym found)))
      (λ (other : has p ≡ false). rw (other, carried) (uncarried (m + 1) ps (rw other at h)))
      (cases_Bool (has p))

  pub carried_entry : (ps : List Place) → option_map (λ (s : Entry). s.weight) (finished_entry_of e ps) ≡ carried e ps
  carried_entry ps = go (place_of e ps) refl
    where
      go : (o : Option ℕ) → place_of e ps ≡ o → option_map (λ (s : Entry). s.weight) (elim o as (λ _. Option Entry) [ None ↦ None | Some n ↦ finished_entry_at ps n ]) ≡ carried e ps
      go None h = uncarried 0 ps (sym (position_from-zero has ps) ∙ h)
      go (Some k) h =
          let (within, here, before) = position-Some has ps k unused h in
          entry_weight k (slice_get ps k) ∙ carried_at k ps unused within here before
