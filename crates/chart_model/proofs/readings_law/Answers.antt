use Rattle.chart_model.proofs.Readings.{law_of_readings}
use Rattle.chart_model.proofs.readings_law.Goals as goal

pub returns : goal.returns
returns c = law_of_readings
