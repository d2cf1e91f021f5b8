-- The task of a chart, and the plain chart of a table. Assumes nothing.
use Rattle.weighing.specs.declared.Weighing.{Ghosts as WeighingGhosts}
use Rattle.grammar.specs.declared.Grammar.{Ghosts as GrammarGhosts}
use Rattle.lattice.specs.declared.Lattice.{Ghosts as LatticeGhosts}
use Rattle.chart_model.specs.Task.{Task}
use Rattle.chart_model.specs.Plain.{Chart}
use Rattle.chart.specs.declared.table.Table.{Table}
use Rattle.chart.specs.View.{view}

-- what a grammar, a lattice and a weighing mean together
abbrev pub task_of : {G L W : Type 0} → GrammarGhosts G → LatticeGhosts L → WeighingGhosts W → G → L → W → Task
task_of g l w grammar lattice weighing =
    record { rules = g.rules grammar; last = l.last lattice; words = l.words lattice; weights = w.weights weighing }

-- the plain chart that a table holds
abbrev pub held : Table → Chart
held t = view t.places
