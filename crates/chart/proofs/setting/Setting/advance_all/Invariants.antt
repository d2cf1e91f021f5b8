use Rattle.std.proofs.Common.{◌-◌}
use Rattle.chart.specs.Charts.{held}
use Rattle.chart.specs.Settings.{task}
use Rattle.chart.specs.View.{room}
use Rattle.chart.proofs.Settling.{Settles}
use Rattle.chart.proofs.setting.Setting.advance_all.Given as goal

abbrev pub invariant-loop : goal.invariant-loop
invariant-loop g l = Settles (task l.self) (held l.initial.table) (held l.table)

abbrev pub decreases-loop : goal.decreases-loop
decreases-loop g l = room - (held l.table).finished
