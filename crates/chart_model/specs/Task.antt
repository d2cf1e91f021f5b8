-- Tasks: what a grammar, a lattice and a weighing mean together. Assumes nothing.
use Rattle.std.specs.Prelude.{ℕ, List}
use Rattle.weighing.specs.Laws.{Weights, Lawful}
use Rattle.grammar.specs.Rules as grammar
use Rattle.grammar.specs.Rules.{Rule}
use Rattle.lattice.specs.Words as lattice
use Rattle.lattice.specs.declared.word.Word.{Word}

-- a grammar's rules, a lattice's nodes and words, and a weighing's functions
pub record Task : Type 0 where
  pub rules : List Rule
  pub last : ℕ
  pub words : List Word
  pub weights : Weights

-- what implementations of the three traits prove
pub record Sound (t : Task) : Type 0 where
  pub grammar : grammar.Limits t.rules
  pub lattice : lattice.Limits t.last t.words
  pub weighing : Lawful t.weights
