-- What settled charts mean: a setting, its task, and a plain chart. Assumes nothing.
use Rattle.weighing.specs.declared.Weighing.{Ghosts as WeighingGhosts}
use Rattle.grammar.specs.declared.Grammar.{Ghosts as GrammarGhosts}
use Rattle.lattice.specs.declared.Lattice.{Ghosts as LatticeGhosts}
use Rattle.chart_model.specs.Task.{Task}
use Rattle.chart_model.specs.Plain.{Chart}
use Rattle.chart.specs.declared.setting.Setting.{Setting}
use Rattle.chart.specs.declared.settled.SettledChart.{SettledChart}
use Rattle.chart.specs.Working as working

module _ {G L W : Type 0} {g : GrammarGhosts G} {l : LatticeGhosts L} {w : WeighingGhosts W} where
  abbrev pub setting_of : SettledChart G L W g l w → Setting G L W g l w
  setting_of c = working.setting_of c.working

  abbrev pub task : SettledChart G L W g l w → Task
  task c = working.task c.working

  abbrev pub chart : SettledChart G L W g l w → Chart
  chart c = working.chart c.working
