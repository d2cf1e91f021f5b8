use Rattle.chart_model.proofs.Law.{law_of_the_lightest}
use Rattle.chart_model.proofs.lightest_law.Goals as goal

pub returns : goal.returns
returns c = law_of_the_lightest
