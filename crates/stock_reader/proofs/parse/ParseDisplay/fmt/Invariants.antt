use Rattle.std.proofs.Common.{◌++◌, take, codes, decimal}
use Rattle.std.specs.Fmt.{HasWritten, IsPlainFormatter}
use Rattle.stock_reader.specs.Printing.{node_lines}
use Rattle.stock_reader.proofs.parse.ParseDisplay.fmt.Given as goal

-- the weight, and the lines of the nodes so far
abbrev pub invariant-loop-node : goal.invariant-loop-node
invariant-loop-node g l =
    IsPlainFormatter l.fn.f → HasWritten g.W.Write.write_str_gives l.fn.f (codes "weight " ++ (decimal l.self.weight ++ node_lines (take l.node-index l.self.nodes.items))) l.f
