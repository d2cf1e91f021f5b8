use Rattle.chart_model.specs.Origins.{rank_at}
use Rattle.chart.specs.Charts.{held}
use Rattle.chart.proofs.walk.FinishedAt.+walk.Given as goal

abbrev pub decreases-walk : goal.decreases-walk
decreases-walk l = rank_at (held l.self.now.table.now).places l.self.now.at
