use Rattle.chart_model.proofs.Rerunning.{how_reachable, by_room}
use Rattle.chart_model.proofs.reachable_law.Goals as goal

pub returns : goal.returns
returns c = record { again = how_reachable; room = by_room }
