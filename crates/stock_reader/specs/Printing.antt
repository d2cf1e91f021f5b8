-- What the program prints. Assumes nothing.
use Rattle.std.specs.Prelude.{ℕ, List, ◌∷◌, ◌++◌, codes, decimal}
use Rattle.std.specs.List.{flat_map}
use Rattle.chart_model.specs.Printing.{node_text}
use Rattle.chart_model.specs.declared.node.Node.{Node}
use Rattle.line_format.specs.Lines.{line_feed}
use Rattle.stock_reader.specs.declared.parse.Parse.{Parse}

-- a line for each node, a line feed before each
abbrev pub node_lines : List Node → List ℕ
node_lines ns = flat_map (λ n. line_feed ∷ node_text n) ns

-- a line for the weight, and then the nodes
abbrev pub parse_text : Parse → List ℕ
parse_text r = codes "weight " ++ (decimal r.weight ++ node_lines r.nodes.items)
