-- What settings mean: a task. Assumes nothing.
use Rattle.weighing.specs.declared.Weighing.{Ghosts as WeighingGhosts}
use Rattle.grammar.specs.declared.Grammar.{Ghosts as GrammarGhosts}
use Rattle.lattice.specs.declared.Lattice.{Ghosts as LatticeGhosts}
use Rattle.chart_model.specs.Task.{Task}
use Rattle.chart.specs.declared.setting.Setting.{Setting}
use Rattle.chart.specs.Charts.{task_of}

module _ {G L W : Type 0} {g : GrammarGhosts G} {l : LatticeGhosts L} {w : WeighingGhosts W} where
  abbrev pub task : Setting G L W g l w → Task
  task s = task_of g l w s.grammar s.lattice s.weighing
