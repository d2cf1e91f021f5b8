-- The law of the lightest: what the invariant says of the finished edges, and of a stopped chart. Assumes nothing.
use Rattle.std.proofs.Common.{◌≡◌, ℕ, ◌≤◌, Bool, true, false, ◌⊎◌, List, [], ◌∷◌, length, map, Some, None, sym, refl, ◌∙◌, subst, subst₂, inl, inr, arith}
use Rattle.std.specs.List.{slice_get, AllByRecursion, IsDistinct}
use Rattle.std.proofs.lemmas.List.{length-map}
use Rattle.std.proofs.lemmas.Map.Keys.{IsDistinct-cons}
use Rattle.chart_model.specs.Task.{Task, Sound}
use Rattle.chart_model.specs.Derivation.{Derives, weight_of}
use Rattle.chart_model.specs.Plain.{Chart, stopped, carried, holds, same_edge}
use Rattle.chart_model.specs.Stands.{Stands, Weighs, NoneLighter, Complete, EdgesExceed, Fits, LawOfTheLightest}
use Rattle.chart_model.specs.declared.edge.Edge.{Edge}
use Rattle.chart_model.specs.declared.place.Place.{Place}
use Rattle.std.proofs.lemmas.Bool.{true≢false, or_parts}
use Rattle.chart_model.proofs.Members.{In, none_some, some_same, all_nth}
use Rattle.chart_model.proofs.Edges.{same_edge_back}
use Rattle.chart_model.proofs.Derivations.{lies_within}
use Rattle.chart_model.proofs.Placing.{apart}
use Rattle.chart_model.proofs.Invariant.{Inv}
use Rattle.chart_model.proofs.Stepping.{inv_reachable, reachable_steps}
use Rattle.chart_model.proofs.Claims.{Done, Late, Claim, claim_edge, late_beyond}
use Rattle.chart_model.proofs.Carried.{in_holds, carried_from, carried_of}
use Rattle.chart_model.proofs.Pigeonhole.{pigeonhole}
use Rattle.chart_model.proofs.Stopping.{Closed, fits_opened, fits_step, stopped_means, stops}

-- THE FINISHED EDGES

module _ (t : Task) (s : Sound t) (c : Chart) (inv : Inv t c) where
  done_carried : (e : Edge) (v : ℕ) → (f : Done t c e v) → carried e c.places ≡ Some f.0.weight
  done_carried e v f = carried_of e c.places inv.distinct f.0 f.1 f.2 f.3

  late_after : (f : Edge) (w v : ℕ) → carried f c.places ≡ Some w → Late t c v → t.weights.lighter v w ≡ false
  late_after f w v h late =
      let p = carried_from f c.places w h in
      subst (λ u. t.weights.lighter v u ≡ false) p.4 (late_beyond t s c inv v late p.0 p.1 p.3).2

  pub stands : Stands t c
  stands = record { derived = derives; least = least_of; best_first = later }
    where
      derives : (e : Edge) (w : ℕ) → carried e c.places ≡ Some w → Weighs t e w
      derives e w h =
          let p = carried_from e c.places w h in
          subst₂ (Weighs t) p.2 p.4 (inv.sound p.0 p.1)

      least_of : (e : Edge) (w : ℕ) → carried e c.places ≡ Some w → NoneLighter t e w
      least_of e w h d = go (claim_edge t s c inv e d)
        where
          go : Claim t c e (weight_of t e d) → t.weights.lighter (weight_of t e d) w ≡ false
          go (inl f) =
              subst (λ u. t.weights.lighter (weight_of t e d) u ≡ false) (some_same (sym (done_carried e (weight_of t e d) f) ∙ h)) f.4.2
          go (inr late) = late_after e w (weight_of t e d) h late

      later : (e f : Edge) (w : ℕ) → carried e c.places ≡ None → carried f c.places ≡ Some w → NoneLighter t e w
      later e f w none h d = go (claim_edge t s c inv e d)
        where
          go : Claim t c e (weight_of t e d) → t.weights.lighter (weight_of t e d) w ≡ false
          go (inl g) = absurd (none_some (sym none ∙ done_carried e (weight_of t e d) g))
          go (inr late) = late_after f w (weight_of t e d) h late

-- A STOPPED CHART

abbrev edges : List Place → List Edge
edges ps = map (λ (p : Place). p.edge) ps

edges_length : (ps : List Place) → length (edges ps) ≡ length ps
edges_length ps = length-map ps (λ (p : Place). p.edge)

edges_other : (e : Edge) (ps : List Place) → holds e ps ≡ false → AllByRecursion (λ f. same_edge e f ≡ false) (edges ps)
edges_other e [] h = tt
edges_other e (p ∷ ps) h =
    let both = or_parts (same_edge p.edge e) (holds e ps) h in
    (same_edge_back p.edge e both.0, edges_other e ps both.1)

edges_apart : (ps : List Place) → apart ps → IsDistinct same_edge (edges ps)
unfolding IsDistinct
edges_apart [] h = tt
edges_apart (p ∷ ps) h = (edges_other p.edge ps h.0, edges_apart ps h.1)

edges_derived : (t : Task) (ps : List Place) → ((p : Place) → In p ps → Derives t p.edge) → AllByRecursion (Derives t) (edges ps)
edges_derived t [] all = tt
edges_derived t (p ∷ ps) all = (all p (inl refl), edges_derived t ps (λ q i. all q (inr i)))

-- a full chart has shown more edges to have derivations than it has places
pub exceeds_if_full : (t : Task) (c : Chart) → Inv t c → (capacity : ℕ) → capacity ≤ length c.places → c.full ≡ true → EdgesExceed t capacity
exceeds_if_full t c inv capacity at_capacity f =
    let (e, d, absent) = inv.refused f in
    let as_many : length (edges c.places) ≡ length c.places = edges_length c.places in (
      e ∷ edges c.places,
      IsDistinct-cons same_edge e (edges c.places) (edges_other e c.places absent) (edges_apart c.places inv.distinct),
      (d, edges_derived t c.places (λ p i. (inv.sound p i).0)),
      omega arith,
    )

module _ (t : Task) (s : Sound t) (c : Chart) (inv : Inv t c) (quiet : (c.full ≡ true) ⊎ Closed c) where
  pub every_finished : c.full ≡ false → (e : Edge) → Derives t e → (w : ℕ) × (carried e c.places ≡ Some w)
  every_finished f e d = go quiet (claim_edge t s c inv e d)
    where
      go : (c.full ≡ true) ⊎ Closed c → Claim t c e (weight_of t e d) → (w : ℕ) × (carried e c.places ≡ Some w)
      go q (inl g) = (g.0.weight, done_carried t s c inv e (weight_of t e d) g)
      go (inl full) (inr late) = absurd (true≢false (sym full ∙ f))
      go (inr closed) (inr (inl g)) = absurd (true≢false (sym g.2 ∙ closed g.0 g.1))
      go (inr closed) (inr (inr g)) = absurd (true≢false (sym g.0 ∙ f))

  -- where more edges have derivations than a chart has places, it is full
  pub full_if_exceeds : (capacity : ℕ) → length c.places ≤ capacity → EdgesExceed t capacity → c.full ≡ true
  full_if_exceeds capacity within (es, distinct, derived, exceeds) = go c.full refl
    where
      held : c.full ≡ false → (f : Edge) (n : ℕ) → slice_get es n ≡ Some f → holds f c.places ≡ true
      held f e n at =
          let w = every_finished f e (all_nth (Derives t) es derived n e at) in
          let p = carried_from e c.places w.0 w.1 in
          in_holds e c.places p.0 p.1 p.2

      go : (b : Bool) → c.full ≡ b → b ≡ true
      go true f = refl
      go false f =
          let few : length es ≤ length c.places = pigeonhole es c.places distinct (held f) in
          absurd (omega arith)

pub complete_chart : (t : Task) → Sound t → (capacity : ℕ) (c : Chart) → Inv t c → Fits capacity c → stopped t c ≡ true → Complete t capacity c
complete_chart t s capacity c inv fits h =
    let quiet = stopped_means t s c inv h in
    record {
      full_exceeds = λ f. exceeds_if_full t c inv capacity (fits.taken f) f;
      exceeding_full = full_if_exceeds t s c inv quiet capacity fits.within;
      all_finished = every_finished t s c inv quiet;
    }

pub law_of_the_lightest : (t : Task) → Sound t → LawOfTheLightest t
law_of_the_lightest t s =
    record {
      stands = λ c reachable. stands t s c (inv_reachable t s reachable);
      complete = λ capacity c halted. complete_chart t s capacity c (inv_reachable t s halted.reachable) halted.fits halted.stopped;
      opening_fits = fits_opened t;
      step_fits = λ capacity c reachable. fits_step t s capacity c (inv_reachable t s reachable);
      ends = λ capacity c reachable. stops t s capacity c (inv_reachable t s reachable);
      settling = λ capacity c. reachable_steps t capacity capacity c;
      within = lies_within t s;
    }
