use Rattle.std.proofs.Common.{ap}
use Rattle.chart_model.specs.Plain.{lightened}
use Rattle.chart.proofs.Writing.{wrote}
use Rattle.chart.proofs.places.Places.improve.Goals as goal

pub returns-clause-view : goal.returns-clause-view
returns-clause-view c =
    let p = c.args.self.now in
    ap (λ ps. record { places = ps; full = p.full; finished = p.finished }) (wrote (lightened c.args.arrival) _ p.taken c.args.at p.slots _ c.lighten.ensures)
