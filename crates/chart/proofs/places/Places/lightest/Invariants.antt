use Rattle.std.proofs.Common.{◌≡◌, drop, fold}
use Rattle.std.specs.List.{enumerate_from}
use Rattle.chart_model.specs.Plain.{lightest_with, lightest_open}
use Rattle.chart.specs.View.{view}
use Rattle.chart.proofs.places.Places.lightest.Given as goal

-- the places that are left make the best so far the lightest of all
abbrev pub invariant-loop-at : goal.invariant-loop-at
invariant-loop-at g l =
    let lighter = (g.W.Weighing.weights l.weighing).lighter in
    let ps = (view l.self).places in
    fold (lightest_with lighter) l.best (enumerate_from l.at (drop l.at ps)) ≡ lightest_open lighter ps
