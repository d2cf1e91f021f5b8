use Rattle.std.proofs.Common.{suc}
use Rattle.chart_model.specs.Plain.{nodes_bring, arrive_all}
use Rattle.chart.specs.Charts.{held}
use Rattle.chart.specs.View.{room}
use Rattle.chart.proofs.Nodes.{NodesLeft}
use Rattle.chart.proofs.setting.Setting.node_arrivals.Given as goal

abbrev pub invariant-loop-node : goal.invariant-loop-node
invariant-loop-node g l =
    let ws = g.W.Weighing.weights l.self.weighing in
    let rules = g.G.Grammar.rules l.self.grammar in
    let end = suc (g.L.Lattice.last l.self.lattice) in
    NodesLeft ws rules end l.node (held l.table) (arrive_all room ws.lighter (held l.initial.table) (nodes_bring ws rules 0 end))
