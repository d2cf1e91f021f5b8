use Rattle.std.proofs.Common.{suc, arith}
use Rattle.chart.specs.Charts.{held}
use Rattle.chart.proofs.Nodes.{nodes_more}
use Rattle.chart.proofs.setting.Setting.node_arrivals.Goals as goal

pub loop-node-preserved : goal.loop-node-preserved
loop-node-preserved g c =
    nodes_more (g.W.Weighing.weights c.args.self.now.weighing) (g.G.Grammar.rules c.args.self.now.grammar) (suc (g.L.Lattice.last c.args.self.now.lattice))
    c.loop-node.node (held c.loop-node.table) (held c.empty_arrivals.new.table) _ (omega arith) c.loop-node.invariant c.empty_arrivals.ensures
