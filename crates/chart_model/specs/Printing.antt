-- How a node of a reading is printed. Assumes nothing.
use Rattle.std.specs.Prelude.{ℕ, List, ◌++◌, codes, decimal}
use Rattle.chart_model.specs.declared.node.Kind.{Kind}
use Rattle.chart_model.specs.declared.node.Kind.TheVariants.{Word, Rule}
use Rattle.chart_model.specs.declared.node.Node.{Node}

abbrev pub kind_text : Kind → List ℕ
kind_text Word = codes "word"
kind_text Rule = codes "rule"

-- four fields and three spaces
abbrev pub node_text : Node → List ℕ
node_text n = kind_text n.kind ++ (codes " " ++ (decimal n.number ++ (codes " " ++ (decimal n.from ++ (codes " " ++ decimal n.to)))))
