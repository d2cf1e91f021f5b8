-- A walk over the origins of a table, from a finished place. Assumes nothing.
use Rattle.std.proofs.Common.{◌≡◌, ℕ, zero, suc, ◌<◌, ◌≤◌, true, false, List, [], ◌++◌, length, Some, None, Option, sym, refl, ap, ◌∙◌, subst, arith}
use Rattle.std.specs.List.{slice_get}
use Rattle.std.proofs.lemmas.Bool.{and_parts}
use Rattle.chart_model.specs.Plain.{Chart, is_open, done}
use Rattle.chart_model.specs.Origins.{rank_at, finished_before, names_finished_before, orderly}
use Rattle.chart_model.specs.Reading.{origin_nodes, followed, reading_at}
use Rattle.chart_model.specs.declared.edge.Edge.{Edge}
use Rattle.chart_model.specs.declared.edge.Edge.TheVariants.{Passive, Active}
use Rattle.chart_model.specs.declared.origin.Origin.{Origin}
use Rattle.chart_model.specs.declared.origin.Origin.TheVariants.{Word, Empty, First, Next}
use Rattle.chart_model.specs.declared.node.Node.{Node}
use Rattle.chart_model.specs.declared.place.Place.{Place}
use Rattle.chart_model.proofs.Done.{done_within}
use Rattle.chart_model.proofs.Members.{some_same}
use Rattle.chart_model.proofs.Numbering.{before_parts, before_of, rank_closed, names_before}
use Rattle.chart_model.proofs.Readings.{followed_at}
use Rattle.chart.specs.declared.table.Table.{Table}
use Rattle.chart.specs.declared.walk.FinishedAt.{FinishedAt}
use Rattle.chart.specs.Charts.{held}
use Rattle.chart.specs.Walk.{own, own_at, Wrote}
use Rattle.chart.proofs.Overwriting.{wrote_none, wrote_more}

-- THE NODES BELOW

-- the nodes below an origin, by the nodes of a place
abbrev below : (ℕ → List Node) → Origin → List Node
below f (Word n) = []
below f (Empty r) = []
below f (First r c) = f c
below f (Next a c) = f a ++ f c

-- an edge's own node, and then those below it
origin_nodes_parts : (ps : List Place) (f : ℕ → List Node) (e : Edge) (o : Origin) → origin_nodes ps f e o ≡ origin_nodes ps (λ _. []) e o ++ below f o
origin_nodes_parts ps f (Passive x i j) (Word n) = refl
origin_nodes_parts ps f (Passive x i j) (Empty r) = refl
origin_nodes_parts ps f (Passive x i j) (First r c) = refl
origin_nodes_parts ps f (Passive x i j) (Next a c) = refl
origin_nodes_parts ps f (Active m k i j) (Word n) = refl
origin_nodes_parts ps f (Active m k i j) (Empty r) = refl
origin_nodes_parts ps f (Active m k i j) (First r c) = refl
origin_nodes_parts ps f (Active m k i j) (Next a c) = refl

followed_parts : (ps : List Place) (depth n : ℕ) (p : Place) → slice_get ps n ≡ Some p → followed (suc depth) ps n ≡ own ps p ++ below (followed depth ps) p.origin
followed_parts ps depth n p there = followed_at ps n depth p there ∙ origin_nodes_parts ps (followed depth ps) p.edge p.origin

module _ (c : Chart) (ordered : orderly c ≡ true) where
  abbrev ps : List Place
  ps = c.places

  below_same : (f g : ℕ → List Node) (limit : ℕ) (o : Origin) → names_finished_before ps limit o ≡ true → ((n : ℕ) → 0 < rank_at ps n → rank_at ps n < limit → f n ≡ g n) → below f o ≡ below g o
  below_same f g limit (Word n) h same = refl
  below_same f g limit (Empty n) h same = refl
  below_same f g limit (First r b) h same = let (low, high) = before_parts ps limit b h in same b low high
  below_same f g limit (Next a b) h same =
      let both = and_parts (finished_before ps limit a) (finished_before ps limit b) h in
      let (low_a, high_a) = before_parts ps limit a both.0 in
      let (low_b, high_b) = before_parts ps limit b both.1 in
      ap (λ xs. xs ++ f b) (same a low_a high_a) ∙ ap (λ ys. g a ++ ys) (same b low_b high_b)

  -- one depth that is enough names the same nodes as another
  followed_same : (k m n : ℕ) → 0 < rank_at ps n → rank_at ps n ≤ k → rank_at ps n ≤ m → followed k ps n ≡ followed m ps n
  followed_same zero m n some a b = absurd (omega arith)
  followed_same (suc k) zero n some a b = absurd (omega arith)
  followed_same (suc k) (suc m) n some a b =
      let (p, there, closed) = rank_closed ps n some in
      followed_parts ps k n p there
      ∙ ap (λ xs. own ps p ++ xs)
      (below_same (followed k ps) (followed m ps) (rank_at ps n) p.origin (names_before c ordered n p there closed) (λ i low high. followed_same k m i low (omega arith) (omega arith)))
      ∙ sym (followed_parts ps m n p there)

-- A WALK, FROM A FINISHED PLACE

module _ (s : FinishedAt) (p : Place) (here : slice_get (held s.table.now).places s.at ≡ Some p) where
  abbrev u : Table
  u = s.table.now

  abbrev n : ℕ
  n = s.at

  abbrev all : List Place
  all = (held u).places

  abbrev next : ℕ
  next = suc (held u).finished

  number : (0 < rank_at all n) × (rank_at all n < next)
  number = before_parts all next n s.finished

  before_here : names_finished_before all (rank_at all n) p.origin ≡ true
  before_here =
      let (q, there, closed) = rank_closed all n number.0 in
      let same : q ≡ p = some_same (sym there ∙ here) in
      names_before (held u) u.orderly n p here (subst (λ (r : Place). is_open r.rank ≡ false) same closed)

  -- what was finished before this place was finished
  before_next : (k : ℕ) → finished_before all (rank_at all n) k ≡ true → finished_before all next k ≡ true
  before_next k h =
      let (low, high) = before_parts all (rank_at all n) k h in
      let BelowNext = number.1 in
      before_of all next k low (omega arith)

  own_here : own_at all n ≡ own all p
  own_here = ap (λ (o : Option Place). elim o as (λ _. List Node) [ None ↦ [] | Some q ↦ own all q ]) here

  reading_here : reading_at all n ≡ own_at all n ++ below (reading_at all) p.origin
  reading_here =
      let (low, high) = number in
      let counted : done all ≡ (held u).finished = u.counted in
      let most = done_within all in
      followed_same (held u) u.orderly (length all) (suc (length all)) n low (omega arith) (omega arith)
      ∙ followed_parts all (length all) n p here
      ∙ ap (λ ns. ns ++ below (reading_at all) p.origin) (sym own_here)

  -- a place that the origin names was finished, and before this one
  pub record Child (k : ℕ) : Type 0 where
    pub closed : finished_before all next k ≡ true
    pub sooner : rank_at all k < rank_at all n

  child : (k : ℕ) → finished_before all (rank_at all n) k ≡ true → Child k
  child k h = record { closed = before_next k h; sooner = (before_parts all (rank_at all n) k h).1 }

  pub first_child : (r k : ℕ) → p.origin ≡ First r k → Child k
  first_child r k e = child k (rw e at before_here)

  pub next_children : (a k : ℕ) → p.origin ≡ Next a k → Child a × Child k
  next_children a k e =
      let both = and_parts (finished_before all (rank_at all n) a) (finished_before all (rank_at all n) k) (rw e at before_here) in
      (child a both.0, child k both.1)

  module _ (before middle : List Node) (filled : ℕ) where
    pub walks_none : Wrote (own_at all n) before middle filled None → Wrote (reading_at all n) before middle filled None
    walks_none h =
        subst (λ ns. Wrote ns before middle filled None) (sym reading_here) (wrote_none (own_at all n) (below (reading_at all) p.origin) before middle filled h)

    module _ (so_far : ℕ) (first : Wrote (own_at all n) before middle filled (Some so_far)) where
      module _ (after : List Node) where
        walks_below : (ns : List Node) (r : Option ℕ) → below (reading_at all) p.origin ≡ ns → Wrote ns middle after so_far r → Wrote (reading_at all n) before after filled r
        walks_below ns r e second =
            subst (λ ms. Wrote ms before after filled r) (sym (reading_here ∙ ap (λ ms. own_at all n ++ ms) e))
            (wrote_more (own_at all n) ns before middle filled so_far first after r second)

        pub walks_first : (rule k : ℕ) (r : Option ℕ) → p.origin ≡ First rule k → Wrote (reading_at all k) middle after so_far r → Wrote (reading_at all n) before after filled r
        walks_first rule k r e second = walks_below (reading_at all k) r (ap (below (reading_at all)) e) second

        module _ (a k : ℕ) (e : p.origin ≡ Next a k) where
          pub walks_active_none : Wrote (reading_at all a) middle after so_far None → Wrote (reading_at all n) before after filled None
          walks_active_none second =
              walks_below (reading_at all a ++ reading_at all k) None (ap (below (reading_at all)) e) (wrote_none (reading_at all a) (reading_at all k) middle after so_far second)

          pub walks_next : (later : List Node) (m : ℕ) (r : Option ℕ) → Wrote (reading_at all a) middle later so_far (Some m) → Wrote (reading_at all k) later after m r →
              Wrote (reading_at all n) before after filled r
          walks_next later m r second third =
              walks_below (reading_at all a ++ reading_at all k) r (ap (below (reading_at all)) e)
              (wrote_more (reading_at all a) (reading_at all k) middle later so_far m second after r third)
