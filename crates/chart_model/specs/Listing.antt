-- Derivations as lists of nodes, in pre-order. Assumes nothing.
use Rattle.std.specs.Prelude.{ℕ, List, [], ◌∷◌, ◌++◌}
use Rattle.chart_model.specs.Task.{Task}
use Rattle.chart_model.specs.Derivation.{Tree, Row, word, rule, none, more}
use Rattle.chart_model.specs.declared.edge.Edge.{Edge}
use Rattle.chart_model.specs.declared.edge.Edge.TheVariants.{Passive, Active}
use Rattle.chart_model.specs.declared.node.Kind.{Kind}
use Rattle.chart_model.specs.declared.node.Kind.TheVariants.{Word as WordNode, Rule as RuleNode}
use Rattle.chart_model.specs.declared.node.Node.{Node}

abbrev pub node : Kind → ℕ → ℕ → ℕ → Node
node k n i j = record { kind = k; number = n; from = i; to = j }

abbrev mutual
  pub tree_nodes : {t : Task} {x i j : ℕ} → Tree t x i j → List Node
  tree_nodes (word n w e) = node WordNode n w.from w.to ∷ []
  tree_nodes (rule n r {i} {j} e row) = node RuleNode n i j ∷ row_nodes row

  pub row_nodes : {t : Task} {xs : List ℕ} {i j : ℕ} → Row t xs i j → List Node
  row_nodes (none within) = []
  row_nodes (more child rest) = tree_nodes child ++ row_nodes rest

-- the nodes below an edge, under the node of its rule; an active edge adds no node
abbrev pub headed : Edge → ℕ → List Node → List Node
headed (Passive x i j) r below = node RuleNode r i j ∷ below
headed (Active m k i j) r below = below

-- the node of a word, which is a passive edge
abbrev pub word_node : Edge → ℕ → List Node
word_node (Passive x i j) n = node WordNode n i j ∷ []
word_node (Active m k i j) n = []
