use Rattle.std.proofs.Common.{sym, ◌∙◌, arith}
use Rattle.std.proofs.lemmas.Bool.Decides.{nat_tests}
use Rattle.chart.proofs.Landing.{arrives_finished, arrives_lighter, arrives_heavier, arrives_new, arrives_full}
use Rattle.chart.proofs.places.Places.arrive.Goals as goal

pub returns-in-Some-clause-view : goal.returns-in-Some-clause-view
returns-in-Some-clause-view g c =
    let lighter = (g.W.Weighing.weights c.args.weighing.now).lighter in
    let found = c.in-Some.ensures in
    arrives_finished lighter c.args.arrival c.args.self.now c.if-self.false c.in-Some.at _ found.within found.place (sym c.is_open.ensures ∙ c.if-not-is_open.true)

pub returns-in-Some-2-clause-view : goal.returns-in-Some-2-clause-view
returns-in-Some-2-clause-view g c =
    let lighter = (g.W.Weighing.weights c.args.weighing.now).lighter in
    let found = c.in-Some.ensures in
    c.improve.ensures.view
    ∙ arrives_lighter lighter c.args.arrival c.args.self.now c.if-self.false c.in-Some.at _ found.within found.place (sym c.is_open.ensures ∙ c.if-not-is_open.false) (sym c.is_lighter.ensures ∙ c.if-is_lighter.true)

pub returns-in-Some-3-clause-view : goal.returns-in-Some-3-clause-view
returns-in-Some-3-clause-view g c =
    let lighter = (g.W.Weighing.weights c.args.weighing.now).lighter in
    let found = c.in-Some.ensures in
    arrives_heavier lighter c.args.arrival c.args.self.now c.if-self.false c.in-Some.at _ found.within found.place (sym c.is_lighter.ensures ∙ c.if-is_lighter.false)

pub returns-in-None-clause-view : goal.returns-in-None-clause-view
returns-in-None-clause-view g c =
    let lighter = (g.W.Weighing.weights c.args.weighing.now).lighter in
    arrives_full lighter c.args.arrival c.args.self.now c.if-self.false c.in-None.ensures.place (grind (arith, nat_tests))

pub returns-in-None-2-clause-view : goal.returns-in-None-2-clause-view
returns-in-None-2-clause-view g c =
    let lighter = (g.W.Weighing.weights c.args.weighing.now).lighter in
    c.put.ensures.view
    ∙ arrives_new lighter c.args.arrival c.args.self.now c.if-self.false c.in-None-2.ensures.place (grind (arith, nat_tests))
