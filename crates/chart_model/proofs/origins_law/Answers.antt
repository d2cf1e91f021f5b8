use Rattle.chart_model.proofs.Founding.{founded_reachable}
use Rattle.chart_model.proofs.origins_law.Goals as goal

pub returns : goal.returns
returns c = λ t s d reachable. founded_reachable t s reachable
