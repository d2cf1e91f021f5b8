-- The arrivals at opening are exactly the words and the empty rules at every node. Assumes nothing.
use Rattle.std.proofs.Common.{◌≡◌, ℕ, zero, suc, ◌+◌, ◌<◌, ◌≤◌, ◌⊎◌, List, [], ◌∷◌, ◌++◌, Some, None, Option, sym, refl, ap, subst, inl, inr, arith}
use Rattle.std.proofs.lemmas.Bool.{cases_eq}
use Rattle.weighing.specs.Laws.{Weights}
use Rattle.grammar.specs.Rules.{Rule}
use Rattle.chart_model.specs.Task.{Task}
use Rattle.chart_model.specs.Plain.{arriving, gathered, word_brings, empty_brings, nodes_bring, first_arrivals}
use Rattle.chart_model.specs.Origins.{ByWord, ByEmpty}
use Rattle.chart_model.specs.declared.edge.Edge.{Edge}
use Rattle.chart_model.specs.declared.edge.Edge.TheVariants.{Passive}
use Rattle.chart_model.specs.declared.origin.Origin.TheVariants.{Word as FromWord, Empty}
use Rattle.chart_model.specs.declared.place.Arrival.{Arrival}
use Rattle.chart_model.proofs.Members.{In, in_either, none_some, at_nth, nth_at}
use Rattle.chart_model.proofs.Gathering.{Brings, brings_left, brings_right, SameArrival, some_arrival, gathered_from, gathered_all}

-- an empty rule brings something, and only an empty rule does
bare_rule : (ws : Weights) (i n : ℕ) (r : Rule) (a : Arrival) → empty_brings ws i n r ≡ Some a → (r.right ≡ []) × SameArrival (Passive r.left i i) (ws.weigh r.mark) (Empty n) a
bare_rule ws i n r a = go r.right refl
  where
    go : (xs : List ℕ) → r.right ≡ xs →
        elim xs as (λ _. Option Arrival) [ [] ↦ Some (arriving (Passive r.left i i) (ws.weigh r.mark) (Empty n)) | x ∷ ys ↦ None ] ≡ Some a →
        (r.right ≡ []) × SameArrival (Passive r.left i i) (ws.weigh r.mark) (Empty n) a
    go [] bare h = (bare, some_arrival (Passive r.left i i) (ws.weigh r.mark) (Empty n) a h)
    go (x ∷ ys) laden h = absurd (none_some h)

bare_brings : (ws : Weights) (i n : ℕ) (r : Rule) → r.right ≡ [] → empty_brings ws i n r ≡ Some (arriving (Passive r.left i i) (ws.weigh r.mark) (Empty n))
bare_brings ws i n r bare =
    ap (λ (xs : List ℕ). elim xs as (λ _. Option Arrival) [ [] ↦ Some (arriving (Passive r.left i i) (ws.weigh r.mark) (Empty n)) | x ∷ ys ↦ None ]) bare

nodes_from : (ws : Weights) (rules : List Rule) (i count : ℕ) (a : Arrival) → In a (nodes_bring ws rules i count) →
    (h : ℕ) × (h < i + count) × In a (gathered (empty_brings ws h) 0 rules)
nodes_from ws rules i zero a m = absurd m
nodes_from ws rules i (suc count) a m =
    go (nodes_from ws rules (suc i) count a) (in_either a (gathered (empty_brings ws i) 0 rules) (nodes_bring ws rules (suc i) count) m)
  where
    go : (In a (nodes_bring ws rules (suc i) count) → (h : ℕ) × (h < suc i + count) × In a (gathered (empty_brings ws h) 0 rules)) →
        In a (gathered (empty_brings ws i) 0 rules) ⊎ In a (nodes_bring ws rules (suc i) count) →
        (h : ℕ) × (h < i + suc count) × In a (gathered (empty_brings ws h) 0 rules)
    go later (inl j) = (i, omega arith, j)
    go later (inr j) = let f = later j in let b = f.1 in (f.0, omega arith, f.2)

nodes_all : (ws : Weights) (rules : List Rule) (i count h : ℕ) (e : Edge) (v : ℕ) → i ≤ h → h < i + count →
    Brings (gathered (empty_brings ws h) 0 rules) e v → Brings (nodes_bring ws rules i count) e v
nodes_all ws rules i zero h e v from to b = absurd (omega arith)
nodes_all ws rules i (suc count) h e v from to b = go (λ le. nodes_all ws rules (suc i) count h e v le (omega arith) b) (cases_eq h i)
  where
    go : (suc i ≤ h → Brings (nodes_bring ws rules (suc i) count) e v) → (h ≡ i) ⊎ (h ≡ i → ⊥) →
        Brings (gathered (empty_brings ws i) 0 rules ++ nodes_bring ws rules (suc i) count) e v
    go later (inl same) =
        brings_left (gathered (empty_brings ws i) 0 rules) (nodes_bring ws rules (suc i) count) e v
        (subst (λ j. Brings (gathered (empty_brings ws j) 0 rules) e v) same b)
    go later (inr other) = brings_right (gathered (empty_brings ws i) 0 rules) (nodes_bring ws rules (suc i) count) e v (later (omega arith))

-- the arrival is a word or an empty rule, and its origin says which
abbrev pub Opens : Task → Arrival → Type 0
Opens t a =
    ((n : ℕ) × ByWord t n a.edge a.weight × (a.origin ≡ FromWord n))
    ⊎ ((n : ℕ) × ByEmpty t n a.edge a.weight × (a.origin ≡ Empty n))

pub opening_from : (t : Task) (a : Arrival) → In a (first_arrivals t) → Opens t a
opening_from t a i =
    go (in_either a (gathered (word_brings t.weights) 0 t.words) (nodes_bring t.weights t.rules 0 (suc t.last)) i)
  where
    go : In a (gathered (word_brings t.weights) 0 t.words) ⊎ In a (nodes_bring t.weights t.rules 0 (suc t.last)) → Opens t a
    go (inl j) =
        let (n, w, at, brought) = gathered_from (word_brings t.weights) 0 t.words a j in
        let same = some_arrival (Passive w.symbol w.from w.to) (t.weights.weigh w.mark) (FromWord n) a brought in
        inl (n, record { heard = w; there = at_nth t.words n w at; edge = same.edge; weight = same.weight }, same.origin)
    go (inr j) =
        let (i, below, found) = nodes_from t.weights t.rules 0 (suc t.last) a j in
        let (n, r, at, brought) = gathered_from (empty_brings t.weights i) 0 t.rules a found in
        let (bare, same) = bare_rule t.weights i n r a brought in
        inr (n, record { by = r; node = i; there = at_nth t.rules n r at; bare = bare; within = omega arith; edge = same.edge; weight = same.weight }, same.origin)

pub opening_words : (t : Task) (n : ℕ) (e : Edge) (v : ℕ) → ByWord t n e v → Brings (first_arrivals t) e v
opening_words t n e v c =
    let w = c.heard in
    let a = arriving (Passive w.symbol w.from w.to) (t.weights.weigh w.mark) (FromWord n) in
    brings_left (gathered (word_brings t.weights) 0 t.words) (nodes_bring t.weights t.rules 0 (suc t.last)) e v
    (a, gathered_all (word_brings t.weights) 0 t.words a (n, w, nth_at t.words n w c.there, refl), sym c.edge, sym c.weight)

pub opening_empties : (t : Task) (n : ℕ) (e : Edge) (v : ℕ) → ByEmpty t n e v → Brings (first_arrivals t) e v
opening_empties t n e v c =
    let r = c.by in
    let i = c.node in
    let within = c.within in
    let a = arriving (Passive r.left i i) (t.weights.weigh r.mark) (Empty n) in
    brings_right (gathered (word_brings t.weights) 0 t.words) (nodes_bring t.weights t.rules 0 (suc t.last)) e v
    (nodes_all t.weights t.rules 0 (suc t.last) i e v (omega arith) (omega arith)
    (a, gathered_all (empty_brings t.weights i) 0 t.rules a (n, r, nth_at t.rules n r c.there, bare_brings t.weights i n r c.bare), sym c.edge, sym c.weight))
