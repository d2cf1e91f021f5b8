-- Derivation trees over the words and rules of a task, and their weights. Assumes nothing.
use Rattle.std.specs.Prelude.{◌≡◌, ℕ, ◌<◌, ◌≤◌, List, [], ◌∷◌, length, take, Some}
use Rattle.std.specs.List.{slice_get}
use Rattle.grammar.specs.Rules.{Rule}
use Rattle.lattice.specs.declared.word.Word.{Word}
use Rattle.chart_model.specs.Task.{Task}
use Rattle.chart_model.specs.declared.edge.Edge.{Edge}
use Rattle.chart_model.specs.declared.edge.Edge.TheVariants.{Passive, Active}

mutual
  -- `Tree t x i j`: derivations of x over the span [i, j]. A node is a word, without children, or a rule over a `Row`.
  pub data Tree (t : Task) : ℕ → ℕ → ℕ → Type 0 where
    word : (n : ℕ) (w : Word) → slice_get t.words n ≡ Some w → Tree t w.symbol w.from w.to
    rule : (n : ℕ) (r : Rule) {i j : ℕ} → slice_get t.rules n ≡ Some r → Row t r.right i j → Tree t r.left i j

  -- `Row t xs i j`: a tree for each symbol of xs, their spans tiling [i, j] in order; the empty row sits at a node.
  pub data Row (t : Task) : List ℕ → ℕ → ℕ → Type 0 where
    none : {i : ℕ} → i ≤ t.last → Row t [] i i
    more : {x : ℕ} {xs : List ℕ} {i j k : ℕ} → Tree t x i j → Row t xs j k → Row t (x ∷ xs) i k

-- weight (word) = weigh mark
-- weight (rule over c₁ .. cₙ) = join (.. (join (weigh mark) (weight c₁)) ..) (weight cₙ)
abbrev mutual
  pub tree_weight : {t : Task} {x i j : ℕ} → Tree t x i j → ℕ
  tree_weight {t} (word n w e) = t.weights.weigh w.mark
  tree_weight {t} (rule n r e row) = row_weight row (t.weights.weigh r.mark)

  pub row_weight : {t : Task} {xs : List ℕ} {i j : ℕ} → Row t xs i j → ℕ → ℕ
  row_weight {t} (none within) running = running
  row_weight {t} (more child rest) running = row_weight rest (t.weights.join running (tree_weight child))

-- derivations of an edge; an active edge is a dotted rule, 0 < k < length, and what stands before the dot is derived
abbrev pub Derives : Task → Edge → Type 0
Derives t (Passive x i j) = Tree t x i j
Derives t (Active n k i j) =
    (r : Rule) × (slice_get t.rules n ≡ Some r) × ((0 < k) × (k < length r.right)) × Row t (take k r.right) i j

abbrev pub weight_of : (t : Task) (e : Edge) → Derives t e → ℕ
weight_of t (Passive x i j) d = tree_weight d
weight_of t (Active n k i j) d = row_weight d.3 (t.weights.weigh d.0.mark)

-- the span of an edge lies in the lattice; it may be empty
abbrev pub LiesWithin : ℕ → Edge → Type 0
LiesWithin last (Passive x i j) = (i ≤ j) × (j ≤ last)
LiesWithin last (Active n k i j) = (i ≤ j) × (j ≤ last)
