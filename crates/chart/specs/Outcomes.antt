-- What outcomes mean: a setting, its task, and a plain chart. Assumes nothing.
use Rattle.weighing.specs.declared.Weighing.{Ghosts as WeighingGhosts}
use Rattle.grammar.specs.declared.Grammar.{Ghosts as GrammarGhosts}
use Rattle.lattice.specs.declared.Lattice.{Ghosts as LatticeGhosts}
use Rattle.chart_model.specs.Task.{Task}
use Rattle.chart_model.specs.Plain.{Chart}
use Rattle.chart.specs.declared.setting.Setting.{Setting}
use Rattle.chart.specs.declared.outcome.Outcome.{Outcome}
use Rattle.chart.specs.Working as working

module _ {G L W : Type 0} {g : GrammarGhosts G} {l : LatticeGhosts L} {w : WeighingGhosts W} where
  abbrev pub setting_of : Outcome G L W g l w → Setting G L W g l w
  setting_of c = working.setting_of c.chart

  abbrev pub task : Outcome G L W g l w → Task
  task c = working.task c.chart

  abbrev pub chart : Outcome G L W g l w → Chart
  chart c = working.chart c.chart
