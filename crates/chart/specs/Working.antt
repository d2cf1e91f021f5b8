-- What working charts mean: a setting, its task, and a plain chart. Assumes nothing.
use Rattle.weighing.specs.declared.Weighing.{Ghosts as WeighingGhosts}
use Rattle.grammar.specs.declared.Grammar.{Ghosts as GrammarGhosts}
use Rattle.lattice.specs.declared.Lattice.{Ghosts as LatticeGhosts}
use Rattle.chart_model.specs.Task.{Task}
use Rattle.chart_model.specs.Plain.{Chart}
use Rattle.chart.specs.declared.setting.Setting.{Setting}
use Rattle.chart.specs.declared.working.WorkingChart.{WorkingChart}
use Rattle.chart.specs.Charts.{held}
use Rattle.chart.specs.Settings as settings

module _ {G L W : Type 0} {g : GrammarGhosts G} {l : LatticeGhosts L} {w : WeighingGhosts W} where
  abbrev pub setting_of : WorkingChart G L W g l w → Setting G L W g l w
  setting_of c = c.setting

  abbrev pub task : WorkingChart G L W g l w → Task
  task c = settings.task c.setting

  abbrev pub chart : WorkingChart G L W g l w → Chart
  chart c = held c.table
