use Rattle.chart.proofs.run.run.Goals as goal

pub returns-clause-truth : goal.returns-clause-truth
returns-clause-truth g c = rw c.in-Some.is c.ask_all.ensures.truth

pub returns-clause-asked : goal.returns-clause-asked
returns-clause-asked g c = rw c.in-Some.is c.ask_all.ensures.asked
