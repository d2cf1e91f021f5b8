-- The arrivals of a step are exactly what follows from the edge just finished and those finished before it,
-- and each names as its origin what it follows from. Assumes nothing.
use Rattle.std.proofs.Common.{◌≡◌, ℕ, suc, Bool, true, false, eqb, ◌⊎◌, List, Some, None, Option, sym, refl, ap, ◌∙◌, inl, inr}
use Rattle.std.specs.List.{slice_get}
use Rattle.std.specs.Option.{option_or}
use Rattle.std.proofs.lemmas.Bool.{true≢false, eqb-true, eq-eqb}
use Rattle.grammar.specs.Rules.{Rule}
use Rattle.chart_model.specs.Task.{Task}
use Rattle.chart_model.specs.Plain.{is_open, arriving, entry, gathered, finished_entry, rule_edge, wants, rule_takes, rule_brings, active_takes, edge_takes, takes, place_brings, arrivals}
use Rattle.chart_model.specs.Origins.{Begins, Joined, AtPlace}
use Rattle.chart_model.specs.declared.edge.Edge.{Edge}
use Rattle.chart_model.specs.declared.edge.Edge.TheVariants.{Passive, Active}
use Rattle.chart_model.specs.declared.origin.Origin.TheVariants.{First, Next}
use Rattle.chart_model.specs.declared.place.Arrival.{Arrival}
use Rattle.chart_model.specs.declared.place.Place.{Place}
use Rattle.chart_model.specs.declared.place.Entry.{Entry}
use Rattle.chart_model.proofs.Members.{In, in_either, in_nth, none_some, at_nth, nth_at}
use Rattle.chart_model.proofs.Conclusions.{wants_true, wants_from}
use Rattle.chart_model.proofs.Gathering.{Brings, brings_left, brings_right, some_arrival, gathered_from, gathered_all}

-- RULES THAT BEGIN WITH A FINISHED EDGE

-- a test decides whether something is brought
tested : {Q : Type 0} (b : Bool) (a c : Arrival) → elim b as (λ _. Option Arrival) [ true ↦ Some c | false ↦ None ] ≡ Some a → (b ≡ true → Some c ≡ Some a → Q) → Q
tested true a c h yes_then = yes_then refl h
tested false a c h yes_then = absurd (none_some h)

passes : (b : Bool) (c : Arrival) → b ≡ true → elim b as (λ _. Option Arrival) [ true ↦ Some c | false ↦ None ] ≡ Some c
passes b c h = ap (λ (d : Bool). elim d as (λ _. Option Arrival) [ true ↦ Some c | false ↦ None ]) h

module _ (t : Task) (s : Entry) (n : ℕ) (r : Rule) (there : slice_get t.rules n ≡ Some r) where
  pub rule_brings_from : (a : Arrival) → rule_brings t.weights s n r ≡ Some a → Begins t s n a.edge a.weight × (a.origin ≡ First n s.at)
  rule_brings_from a = go s.edge refl
    where
      go : (f : Edge) → s.edge ≡ f →
          elim f as (λ _. Option Arrival) [ Passive x i j ↦ rule_takes t.weights n r s.at x i j s.weight | Active m k i j ↦ None ] ≡ Some a →
          Begins t s n a.edge a.weight × (a.origin ≡ First n s.at)
      go (Passive x i j) same h =
          let e = rule_edge n r 1 i j in
          let v = t.weights.join (t.weights.weigh r.mark) s.weight in
          tested (wants r.right 0 x) a (arriving e v (First n s.at)) h
          (λ wanted brought.
          let it = some_arrival e v (First n s.at) a brought in (
            record {
              symbol = x;
              from = i;
              to = j;
              passive = same;
              conclusion = record { by = r; there = there; begins = wants_true r.right 0 x wanted; edge = it.edge; weight = it.weight };
            },
            it.origin,
          ))
      go (Active m k i j) same h = absurd (none_some h)

-- the arrival that such a rule brings
rule_brings_all : (t : Task) (s : Entry) (n : ℕ) (e : Edge) (v : ℕ) (b : Begins t s n e v) →
    rule_brings t.weights s n b.conclusion.by
    ≡ Some (arriving (rule_edge n b.conclusion.by 1 b.from b.to) (t.weights.join (t.weights.weigh b.conclusion.by.mark) s.weight) (First n s.at))
rule_brings_all t s n e v b =
    let r = b.conclusion.by in
    ap (λ f. elim f as (λ _. Option Arrival) [ Passive x i j ↦ rule_takes t.weights n r s.at x i j s.weight | Active m k i j ↦ None ]) b.passive
    ∙ passes (wants r.right 0 b.symbol) _ (wants_from r.right 0 b.symbol b.conclusion.begins)

-- AN ACTIVE EDGE AND THE PASSIVE EDGE THAT IT TAKES

module _ (t : Task) (p q : Entry) where
  by_edges : Edge → Edge → Option Arrival
  by_edges f g = edge_takes t.rules t.weights p.at p.weight f q.at q.weight g

  abbrev with_rule : ℕ → ℕ → ℕ → ℕ → ℕ → Option Rule → Option Arrival
  with_rule n k h x j o = elim o [ None ↦ None | Some r ↦ active_takes t.weights n r k h p.at p.weight q.at x j q.weight ]

  pub takes_from : (a : Arrival) → takes t.rules t.weights p q ≡ Some a → Joined t p q a.edge a.weight × (a.origin ≡ Next p.at q.at)
  unfolding by_edges
  takes_from a h = go p.edge refl q.edge refl h
    where
      Goal : Type 0
      Goal = Joined t p q a.edge a.weight × (a.origin ≡ Next p.at q.at)

      ruled : (n k h g x j : ℕ) → p.edge ≡ Active n k h g → q.edge ≡ Passive x g j → (o : Option Rule) → slice_get t.rules n ≡ o → with_rule n k h x j o ≡ Some a → Goal
      ruled n k h g x j active passive None there brought = absurd (none_some brought)
      ruled n k h g x j active passive (Some r) there brought =
          let e = rule_edge n r (suc k) h j in
          let v = t.weights.join p.weight q.weight in
          tested (wants r.right k x) a (arriving e v (Next p.at q.at)) brought
          (λ wanted same.
          let it = some_arrival e v (Next p.at q.at) a same in (
            record {
              rule = n;
              seen = k;
              start = h;
              meeting = g;
              symbol = x;
              to = j;
              active = active;
              passive = passive;
              conclusion = record { by = r; there = there; wanted = wants_true r.right k x wanted; edge = it.edge; weight = it.weight };
            },
            it.origin,
          ))

      met : (n k h g x i j : ℕ) → p.edge ≡ Active n k h g → q.edge ≡ Passive x i j → (b : Bool) → eqb g i ≡ b →
          elim b as (λ _. Option Arrival) [ true ↦ with_rule n k h x j (slice_get t.rules n) | false ↦ None ] ≡ Some a → Goal
      met n k h g x i j active passive true same brought =
          ruled n k h g x j active (passive ∙ ap (λ z. Passive x z j) (sym (eqb-true g i same))) (slice_get t.rules n) refl brought
      met n k h g x i j active passive false same brought = absurd (none_some brought)

      go : (f : Edge) → p.edge ≡ f → (g : Edge) → q.edge ≡ g → by_edges f g ≡ Some a → Goal
      go (Passive y i j) active g passive brought = absurd (none_some brought)
      go (Active n k h g) active (Active m z i j) passive brought = absurd (none_some brought)
      go (Active n k h g) active (Passive x i j) passive brought = met n k h g x i j active passive (eqb g i) refl brought

  takes_all : (e : Edge) (v : ℕ) (c : Joined t p q e v) →
      takes t.rules t.weights p q
      ≡ Some (arriving (rule_edge c.rule c.conclusion.by (suc c.seen) c.start c.to) (t.weights.join p.weight q.weight) (Next p.at q.at))
  unfolding by_edges
  takes_all e v c =
      let n = c.rule in
      let r = c.conclusion.by in
      (λ d. by_edges (c.active d) (c.passive d))
      ∙ ap (λ (b : Bool). elim b as (λ _. Option Arrival) [ true ↦ with_rule n c.seen c.start c.symbol c.to (slice_get t.rules n) | false ↦ None ]) (eq-eqb c.meeting c.meeting refl)
      ∙ ap (with_rule n c.seen c.start c.symbol c.to) c.conclusion.there
      ∙ passes (wants r.right c.seen c.symbol) _ (wants_from r.right c.seen c.symbol c.conclusion.wanted)

-- a passive edge takes nothing
passive_takes_none : (t : Task) (p q : Entry) (x i j : ℕ) → p.edge ≡ Passive x i j → takes t.rules t.weights p q ≡ None
passive_takes_none t p q x i j same = ap (λ f. edge_takes t.rules t.weights p.at p.weight f q.at q.weight q.edge) same

-- FINISHED PLACES

-- a finished edge as if at another place: what follows from it does not depend on the place
abbrev pub moved : ℕ → Entry → Entry
moved n q = record { at = n; edge = q.edge; weight = q.weight }

pub in_place : (ps : List Place) (p : Place) → In p ps → is_open p.rank ≡ false → (q : Entry) → p.edge ≡ q.edge → p.weight ≡ q.weight → (n : ℕ) × AtPlace ps (moved n q)
in_place ps p i closed q edge weight =
    let (n, there) = in_nth ps p i in (n, record { place = p; there = there; closed = closed; edge = edge; weight = weight })

pub begins_moved : {t : Task} {q : Entry} {n : ℕ} {e : Edge} {v : ℕ} (m : ℕ) → Begins t q n e v → Begins t (moved m q) n e v
begins_moved m b = record { symbol = b.symbol; from = b.from; to = b.to; passive = b.passive; conclusion = b.conclusion }

pub joined_moved : {t : Task} {p q : Entry} {e : Edge} {v : ℕ} (m n : ℕ) → Joined t p q e v → Joined t (moved m p) (moved n q) e v
joined_moved m n j =
    record {
      rule = j.rule;
      seen = j.seen;
      start = j.start;
      meeting = j.meeting;
      symbol = j.symbol;
      to = j.to;
      active = j.active;
      passive = j.passive;
      conclusion = j.conclusion;
    }

entry_closed : (n : ℕ) (p : Place) → is_open p.rank ≡ false → finished_entry n p ≡ Some (entry n p)
entry_closed n p = go p.rank
  where
    go : (m : Option ℕ) → is_open m ≡ false → elim m as (λ _. Option Entry) [ None ↦ None | Some k ↦ Some (entry n p) ] ≡ Some (entry n p)
    go None closed = absurd (true≢false closed)
    go (Some k) closed = refl

module _ (t : Task) (s : Entry) (n : ℕ) (p : Place) where
  -- a place that brings something is finished, and takes the edge or is taken by it
  place_brings_from : (a : Arrival) → place_brings t.rules t.weights s n p ≡ Some a →
      (is_open p.rank ≡ false) × ((takes t.rules t.weights (entry n p) s ≡ Some a) ⊎ (takes t.rules t.weights s (entry n p) ≡ Some a))
  place_brings_from a = go p.rank refl
    where
      either : (o m : Option Arrival) → option_or o m ≡ Some a → (o ≡ Some a) ⊎ (m ≡ Some a)
      either None m h = inr h
      either (Some b) m h = inl h

      go : (m : Option ℕ) → p.rank ≡ m →
          elim (elim m as (λ _. Option Entry) [ None ↦ None | Some k ↦ Some (entry n p) ]) as (λ _. Option Arrival)
          [ None ↦ None | Some q ↦ option_or (takes t.rules t.weights q s) (takes t.rules t.weights s q) ] ≡ Some a →
          (is_open p.rank ≡ false) × ((takes t.rules t.weights (entry n p) s ≡ Some a) ⊎ (takes t.rules t.weights s (entry n p) ≡ Some a))
      go None same h = absurd (none_some h)
      go (Some k) same h =
          (ap is_open same, either (takes t.rules t.weights (entry n p) s) (takes t.rules t.weights s (entry n p)) h)

  finished_brings : is_open p.rank ≡ false →
      place_brings t.rules t.weights s n p ≡ option_or (takes t.rules t.weights (entry n p) s) (takes t.rules t.weights s (entry n p))
  finished_brings closed =
      ap (λ o. elim o as (λ _. Option Arrival) [ None ↦ None | Some q ↦ option_or (takes t.rules t.weights q s) (takes t.rules t.weights s q) ])
      (entry_closed n p closed)

-- ALL THAT FOLLOWS

-- e of weight v follows from a finished edge, by a rule or with another finished edge
abbrev pub Follows : Task → Entry → List Place → Edge → ℕ → Type 0
Follows t s ps e v = ((n : ℕ) × Begins t s n e v) ⊎ ((q : Entry) × AtPlace ps q × (Joined t q s e v ⊎ Joined t s q e v))

-- an arrival follows, and its origin says from what
abbrev pub Arises : Task → Entry → List Place → Arrival → Type 0
Arises t s ps a =
    ((n : ℕ) × Begins t s n a.edge a.weight × (a.origin ≡ First n s.at))
    ⊎ ((q : Entry) × AtPlace ps q
    × ((Joined t q s a.edge a.weight × (a.origin ≡ Next q.at s.at)) ⊎ (Joined t s q a.edge a.weight × (a.origin ≡ Next s.at q.at))))

pub arrivals_from : (t : Task) (s : Entry) (ps : List Place) (a : Arrival) → In a (arrivals t s ps) → Arises t s ps a
arrivals_from t s ps a i = go (in_either a (gathered (rule_brings t.weights s) 0 t.rules) (gathered (place_brings t.rules t.weights s) 0 ps) i)
  where
    go : In a (gathered (rule_brings t.weights s) 0 t.rules) ⊎ In a (gathered (place_brings t.rules t.weights s) 0 ps) → Arises t s ps a
    go (inl j) =
        let (n, r, at, brought) = gathered_from (rule_brings t.weights s) 0 t.rules a j in
        let (begins, origin) = rule_brings_from t s n r (at_nth t.rules n r at) a brought in
        inl (n, begins, origin)
    go (inr j) =
        let (n, p, at, brought) = gathered_from (place_brings t.rules t.weights s) 0 ps a j in
        let (closed, taken) = place_brings_from t s n p a brought in
        inr (
          entry n p,
          record { place = p; there = at_nth ps n p at; closed = closed; edge = refl; weight = refl },
          elim taken [ inl h ↦ inl (takes_from t (entry n p) s a h) | inr h ↦ inr (takes_from t s (entry n p) a h) ],
        )

pub arises_follows : (t : Task) (s : Entry) (ps : List Place) (a : Arrival) → Arises t s ps a → Follows t s ps a.edge a.weight
arises_follows t s ps a (inl (n, begins, origin)) = inl (n, begins)
arises_follows t s ps a (inr (q, at, inl (joined, origin))) = inr (q, at, inl joined)
arises_follows t s ps a (inr (q, at, inr (joined, origin))) = inr (q, at, inr joined)

pub follows_brings : (t : Task) (s : Entry) (ps : List Place) (e : Edge) (v : ℕ) → Follows t s ps e v → Brings (arrivals t s ps) e v
follows_brings t s ps e v (inl (n, b)) =
    let c = b.conclusion in
    let a = arriving (rule_edge n c.by 1 b.from b.to) (t.weights.join (t.weights.weigh c.by.mark) s.weight) (First n s.at) in
    brings_left (gathered (rule_brings t.weights s) 0 t.rules) (gathered (place_brings t.rules t.weights s) 0 ps) e v
    (a, gathered_all (rule_brings t.weights s) 0 t.rules a (n, c.by, nth_at t.rules n c.by c.there, rule_brings_all t s n e v b), sym c.edge, sym c.weight)
follows_brings t s ps e v (inr (q, at, joined)) =
    brings_right (gathered (rule_brings t.weights s) 0 t.rules) (gathered (place_brings t.rules t.weights s) 0 ps) e v (go joined)
  where
    same : entry q.at at.place ≡ q
    same = λ d. record { at = q.at; edge = at.edge d; weight = at.weight d }

    brought : place_brings t.rules t.weights s q.at at.place ≡ option_or (takes t.rules t.weights q s) (takes t.rules t.weights s q)
    brought =
        finished_brings t s q.at at.place at.closed
        ∙ ap (λ z. option_or (takes t.rules t.weights z s) (takes t.rules t.weights s z)) same

    found : (a : Arrival) → option_or (takes t.rules t.weights q s) (takes t.rules t.weights s q) ≡ Some a → In a (gathered (place_brings t.rules t.weights s) 0 ps)
    found a h = gathered_all (place_brings t.rules t.weights s) 0 ps a (q.at, at.place, nth_at ps q.at at.place at.there, brought ∙ h)

    go : Joined t q s e v ⊎ Joined t s q e v → Brings (gathered (place_brings t.rules t.weights s) 0 ps) e v
    go (inl j) =
        let a = arriving (rule_edge j.rule j.conclusion.by (suc j.seen) j.start j.to) (t.weights.join q.weight s.weight) (Next q.at s.at) in
        (a, found a (ap (λ o. option_or o (takes t.rules t.weights s q)) (takes_all t q s e v j)), sym j.conclusion.edge, sym j.conclusion.weight)
    go (inr j) =
        let a = arriving (rule_edge j.rule j.conclusion.by (suc j.seen) j.start j.to) (t.weights.join s.weight q.weight) (Next s.at q.at) in (
          a,
          found a (ap (λ o. option_or o (takes t.rules t.weights s q)) (passive_takes_none t q s j.symbol j.meeting j.to j.passive) ∙ takes_all t s q e v j),
          sym j.conclusion.edge,
          sym j.conclusion.weight,
        )
