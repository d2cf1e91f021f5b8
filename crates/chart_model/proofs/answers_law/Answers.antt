use Rattle.chart_model.proofs.Saying.{law_of_answers}
use Rattle.chart_model.proofs.answers_law.Goals as goal

pub returns : goal.returns
returns c = law_of_answers
