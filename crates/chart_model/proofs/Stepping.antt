-- A step keeps the invariant: what the edge just finished brings is answered, and the rest stays so. Assumes nothing.
use Rattle.std.proofs.Common.{◌≡◌, ℕ, zero, suc, Bool, true, false, ◌⊎◌, List, Some, None, Option, sym, refl, ap, ◌∙◌, subst, inl, inr}
use Rattle.std.specs.List.{slice_get}
use Rattle.std.proofs.lemmas.Bool.{true≢false}
use Rattle.weighing.specs.Laws.{Code}
use Rattle.chart_model.specs.Task.{Task, Sound}
use Rattle.chart_model.specs.Plain.{Chart, is_open, entry, finished_place, finish, finishing, arrivals, completed, lightest_open, step, steps, opened}
use Rattle.chart_model.specs.Stands.{Weighs, Reachable, by_opening, by_step}
use Rattle.chart_model.specs.declared.edge.Edge.{Edge}
use Rattle.chart_model.specs.declared.place.Arrival.{Arrival}
use Rattle.chart_model.specs.declared.place.Place.{Place}
use Rattle.chart_model.specs.declared.place.Entry.{Entry}
use Rattle.chart_model.proofs.AtMost.{AtMost, at_most_refl, at_most_trans}
use Rattle.chart_model.proofs.Members.{In, nth_in}
use Rattle.chart_model.proofs.Derivations.{weighs_code}
use Rattle.chart_model.proofs.Conclusions.{first_weighs, next_weighs, first_no_gain, next_no_gain_active, next_no_gain_child}
use Rattle.chart_model.proofs.Placing.{Beyond, Brought}
use Rattle.chart_model.proofs.Arriving.{Answered, Coded, arrive_all_from, arrive_all_finished, arrive_all_apart, arrive_all_refused, arrive_all_keeps, arrive_all_answers}
use Rattle.chart_model.specs.Origins.{Begins, Joined, AtPlace}
use Rattle.chart_model.proofs.StepArrivals.{Follows, moved, in_place, begins_moved, joined_moved, arrivals_from, arises_follows, follows_brings}
use Rattle.chart_model.proofs.Lightest.{Finds, lightest_finds, lightest_stands}
use Rattle.chart_model.proofs.Finishing.{finish_from, finish_keeps, finish_apart}
use Rattle.chart_model.proofs.Invariant.{Inv, inv_coded, brings_answered, brought_weighs, inv_opened}

-- the place n holds a lightest open edge
pub record Chosen (t : Task) (c : Chart) (n : ℕ) (p : Place) : Type 0 where
  pub not_full : c.full ≡ false
  pub there : slice_get c.places n ≡ Some p
  pub still_open : is_open p.rank ≡ true
  pub lightest : (q : Place) → In q c.places → is_open q.rank ≡ true → AtMost t.weights p.weight q.weight

-- the two ways of a step: nothing changes, or a lightest open edge is finished
pub step_cases : (t : Task) → Sound t → (capacity : ℕ) (c : Chart) → Coded c.places → (Q : Chart → Type 0) →
    ((c.full ≡ true) ⊎ ((q : Place) → In q c.places → is_open q.rank ≡ false) → Q c) →
    ((n : ℕ) (p : Place) → Chosen t c n p → Q (completed t capacity c (entry n p))) →
    Q (step t capacity c)
step_cases t s capacity c coded Q idle busy = go c.full refl
  where
    found : c.full ≡ false → (o : Option Entry) → lightest_open t.weights.lighter c.places ≡ o → Finds t.weights s.weighing c.places coded o →
        Q (elim o [ None ↦ c | Some s ↦ completed t capacity c s ])
    found f None is h = idle (inr h)
    found f (Some k) is h =
        let it = lightest_stands t.weights.lighter c.places k is in
        let chosen : Chosen t c k.at it.place =
        record {
          not_full = f;
          there = it.there;
          still_open = it.still_open;
          lightest = λ q i o. subst (λ (r : Entry). AtMost t.weights r.weight q.weight) (sym it.same) (h q i o);
        } in
        subst (λ r. Q (completed t capacity c r)) it.same (busy k.at it.place chosen)

    go : (b : Bool) → c.full ≡ b →
        Q (elim b [ true ↦ c | false ↦ elim (lightest_open t.weights.lighter c.places) [ None ↦ c | Some s ↦ completed t capacity c s ] ])
    go true f = idle (inl f)
    go false f = found f (lightest_open t.weights.lighter c.places) refl (lightest_finds t.weights s.weighing c.places coded)

-- what follows from edges with derivations has a derivation, and is no lighter than the edge that it follows from
pub follows_weighs : (t : Task) (s : Sound t) (ps : List Place) → ((p : Place) → In p ps → Weighs t p.edge p.weight) →
    (q : Entry) → Weighs t q.edge q.weight → (e : Edge) (v : ℕ) → Follows t q ps e v → Weighs t e v × AtMost t.weights q.weight v
follows_weighs t s ps all q d e v (inl (n, b)) =
    let w = q.weight in
    let child = subst (λ f. Weighs t f w) b.passive d in (
      first_weighs t s n b.symbol b.from b.to w e v child b.conclusion,
      first_no_gain t s n b.symbol b.from b.to w e v (weighs_code t s q.edge w d) b.conclusion,
    )
follows_weighs t s ps all q d e v (inr (p, at, joined)) = go joined
  where
    other : Weighs t p.edge p.weight
    other = subst (λ f. Weighs t f p.weight) at.edge (subst (λ w. Weighs t at.place.edge w) at.weight (all at.place (nth_in ps p.at at.place at.there)))

    -- both ways round
    together : (a b : Entry) → Weighs t a.edge a.weight → Weighs t b.edge b.weight → Joined t a b e v → Weighs t e v
    together a b x y j =
        next_weighs t s j.rule j.seen j.start j.meeting a.weight j.symbol j.to b.weight e v
        (subst (λ f. Weighs t f a.weight) j.active x) (subst (λ f. Weighs t f b.weight) j.passive y) j.conclusion

    go : Joined t p q e v ⊎ Joined t q p e v → Weighs t e v × AtMost t.weights q.weight v
    go (inl j) = (
      together p q other d j,
      next_no_gain_child t s j.rule j.seen j.start p.weight j.symbol j.to q.weight e v (weighs_code t s p.edge p.weight other) (weighs_code t s q.edge q.weight d) j.conclusion,
    )
    go (inr j) = (
      together q p d other j,
      next_no_gain_active t s j.rule j.seen j.start q.weight j.symbol j.to p.weight e v (weighs_code t s q.edge q.weight d) (weighs_code t s p.edge p.weight other) j.conclusion,
    )

module _ (t : Task) (s : Sound t) (capacity : ℕ) (c : Chart) (inv : Inv t c) (n : ℕ) (p : Place) (chosen : Chosen t c n p) where
  abbrev number : ℕ
  number = suc c.finished

  abbrev ps : List Place
  ps = finish (suc c.finished) n c.places

  -- the edge just finished
  abbrev now : Entry
  now = entry n p

  abbrev after : Chart
  after = completed t capacity c (entry n p)

  abbrev brought : List Arrival
  brought = arrivals t (entry n p) (finish (suc c.finished) n c.places)

  p_in : In p c.places
  p_in = nth_in c.places n p chosen.there

  p_code : Code p.weight
  p_code = inv_coded t s c inv p p_in

  from : (q : Place) → In q ps → In q c.places ⊎ (finished_place number p ≡ q)
  from = finish_from number n c.places p chosen.there

  ps_sound : (q : Place) → In q ps → Weighs t q.edge q.weight
  ps_sound q i = go (from q i)
    where
      go : In q c.places ⊎ (finished_place number p ≡ q) → Weighs t q.edge q.weight
      go (inl j) = inv.sound q j
      go (inr e) = subst (λ (r : Place). Weighs t r.edge r.weight) e (inv.sound p p_in)

  -- the weight of the edge just finished parts the finished from the open
  finished_below : (q : Place) → In q ps → is_open q.rank ≡ false → AtMost t.weights q.weight p.weight
  finished_below q i closed = go (from q i)
    where
      go : In q c.places ⊎ (finished_place number p ≡ q) → AtMost t.weights q.weight p.weight
      go (inl j) = inv.ordered q p j p_in closed chosen.still_open
      go (inr e) = subst (λ (r : Place). AtMost t.weights r.weight p.weight) e (at_most_refl t.weights s.weighing p.weight p_code)

  open_above : (q : Place) → In q ps → is_open q.rank ≡ true → AtMost t.weights p.weight q.weight
  open_above q i queued = go (from q i)
    where
      go : In q c.places ⊎ (finished_place number p ≡ q) → AtMost t.weights p.weight q.weight
      go (inl j) = chosen.lightest q j queued
      go (inr e) = absurd (true≢false (sym queued ∙ ap (λ (r : Place). is_open r.rank) (sym e)))

  arrival_good : (a : Arrival) → In a brought → Weighs t a.edge a.weight × AtMost t.weights p.weight a.weight
  arrival_good a i = follows_weighs t s ps ps_sound now (inv.sound p p_in) a.edge a.weight (arises_follows t now ps a (arrivals_from t now ps a i))

  arrival_code : (a : Arrival) → In a brought → Code a.weight
  arrival_code a i = (arrival_good a i).1.1

  arrival_beyond : (a : Arrival) → In a brought → Beyond t.weights ps a.weight
  arrival_beyond a i q j closed =
      at_most_trans t.weights s.weighing q.weight p.weight a.weight (finished_below q j closed) (arrival_good a i).1

  -- what was answered stays so
  carry : (e : Edge) (v : ℕ) → Answered t.weights c e v → Answered t.weights after e v
  carry e v h = arrive_all_keeps capacity t.weights s.weighing brought arrival_code e v (finishing c n) (go h)
    where
      go : Answered t.weights c e v → Answered t.weights (finishing c n) e v
      go (inl r) = inl (finish_keeps t.weights number n c.places e v r)
      go (inr b) = absurd (true≢false (sym b.0 ∙ chosen.not_full))

  -- what follows from the edge just finished is answered
  newly : (e : Edge) (v : ℕ) → Follows t now ps e v → Answered t.weights after e v
  newly e v f =
      brings_answered t after brought
      (λ a i. arrive_all_answers capacity t.weights s.weighing brought arrival_code (finishing c n)
      (λ q j. weighs_code t s q.edge q.weight (ps_sound q j)) a i (arrival_beyond a i))
      e v (follows_brings t now ps e v f)

  was_finished : (q : Place) → In q after.places → is_open q.rank ≡ false → In q ps
  was_finished q i closed = arrive_all_finished capacity t.weights.lighter brought (finishing c n) q i closed

  was : (q : Place) → In q after.places → In q ps ⊎ ((a : Arrival) × In a brought × Brought a q)
  was q i = arrive_all_from capacity t.weights.lighter brought (finishing c n) q i

  after_sound : (q : Place) → In q ps ⊎ ((a : Arrival) × In a brought × Brought a q) → Weighs t q.edge q.weight
  after_sound q (inl i) = ps_sound q i
  after_sound q (inr f) = brought_weighs t f.0 q f.2 (arrival_good f.0 f.1).0

  after_open : (q : Place) → is_open q.rank ≡ true → In q ps ⊎ ((a : Arrival) × In a brought × Brought a q) → AtMost t.weights p.weight q.weight
  after_open q queued (inl i) = open_above q i queued
  after_open q queued (inr f) = subst (AtMost t.weights p.weight) (sym f.2.2) (arrival_good f.0 f.1).1

  -- a finished edge afterwards stood before, or is the one just finished; it stands among the places just after finishing
  Stood : Entry → Type 0
  Stood q = ((m : ℕ) × AtPlace c.places (moved m q)) ⊎ (moved n q ≡ now)

  EntryNow : Entry → Type 0
  EntryNow q = ((m : ℕ) × AtPlace ps (moved m q)) × Stood q

  stood : (q : Entry) → AtPlace after.places q → EntryNow q
  unfolding Stood EntryNow
  stood q at =
      let r = at.place in
      let i : In r ps = was_finished r (nth_in after.places q.at r at.there) at.closed in
      (in_place ps r i at.closed q at.edge at.weight, go (from r i))
    where
      go : In at.place c.places ⊎ (finished_place number p ≡ at.place) → Stood q
      go (inl j) = inl (in_place c.places at.place j at.closed q at.edge at.weight)
      go (inr e) =
          let edge : q.edge ≡ p.edge = sym (ap (λ (r : Place). r.edge) e ∙ at.edge) in
          let weight : q.weight ≡ p.weight = sym (ap (λ (r : Place). r.weight) e ∙ at.weight) in
          inr (λ d. record { at = n; edge = edge d; weight = weight d })

  after_firsts : (q : Entry) → EntryNow q → (m : ℕ) (e : Edge) (v : ℕ) → Begins t q m e v → Answered t.weights after e v
  unfolding Stood EntryNow
  after_firsts q (_, inl (k, at)) m e v b = carry e v (inv.firsts (moved k q) at m e v (begins_moved k b))
  after_firsts q (_, inr same) m e v b = newly e v (inl (m, subst (λ z. Begins t z m e v) same (begins_moved n b)))

  after_nexts : (q r : Entry) → EntryNow q → EntryNow r → (e : Edge) (v : ℕ) → Joined t q r e v → Answered t.weights after e v
  unfolding Stood EntryNow
  after_nexts q r (_, inl (k, at)) (_, inl (m, there)) e v j = carry e v (inv.nexts (moved k q) (moved m r) at there e v (joined_moved k m j))
  after_nexts q r ((k, at), inl _) (_, inr same) e v j = newly e v (inr (moved k q, at, inl (subst (λ z. Joined t (moved k q) z e v) same (joined_moved k n j))))
  after_nexts q r (_, inr same) ((m, at), _) e v j = newly e v (inr (moved m r, at, inr (subst (λ z. Joined t z (moved m r) e v) same (joined_moved n m j))))

  pub inv_stepped : Inv t (completed t capacity c (entry n p))
  inv_stepped =
      record {
        sound = λ q i. after_sound q (was q i);
        distinct = arrive_all_apart capacity t.weights.lighter brought (finishing c n) (finish_apart number n c.places inv.distinct);
        ordered = λ q r i j closed queued.
            at_most_trans t.weights s.weighing q.weight p.weight r.weight (finished_below q (was_finished q i closed) closed) (after_open r queued (was r j));
        words = λ n e v w. carry e v (inv.words n e v w);
        empties = λ n e v w. carry e v (inv.empties n e v w);
        firsts = λ q at. after_firsts q (stood q at);
        nexts = λ q r at there. after_nexts q r (stood q at) (stood r there);
        refused = arrive_all_refused capacity t.weights.lighter t brought (λ a i. (arrival_good a i).0.0) (finishing c n) (λ f. absurd (true≢false (sym f ∙ chosen.not_full)));
      }

pub inv_step : (t : Task) → Sound t → (capacity : ℕ) (c : Chart) → Inv t c → Inv t (step t capacity c)
inv_step t s capacity c inv =
    step_cases t s capacity c (inv_coded t s c inv) (Inv t) (λ _. inv) (λ n p chosen. inv_stepped t s capacity c inv n p chosen)

pub inv_reachable : (t : Task) → Sound t → {c : Chart} → Reachable t c → Inv t c
inv_reachable t s (by_opening capacity) = inv_opened t s capacity
inv_reachable t s (by_step capacity {c} before) = inv_step t s capacity c (inv_reachable t s before)

-- steps keep a chart reachable
pub reachable_steps : (t : Task) (capacity n : ℕ) (c : Chart) → Reachable t c → Reachable t (steps t capacity n c)
unfolding steps
reachable_steps t capacity zero c r = r
reachable_steps t capacity (suc n) c r = reachable_steps t capacity n (step t capacity c) (by_step capacity r)
