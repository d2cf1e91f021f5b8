use Rattle.std.proofs.Common.{suc, ap, add-one}
use Rattle.chart_model.specs.Plain.{finished_place}
use Rattle.chart.proofs.Writing.{wrote}
use Rattle.chart.proofs.places.Places.finish.Goals as goal

pub returns-clause-view : goal.returns-clause-view
returns-clause-view c =
    let p = c.args.self.now in
    let changed = rw add-one at c.finish.ensures in
    rw add-one (ap (λ ps. record { places = ps; full = p.full; finished = suc p.finished }) (wrote (finished_place (suc p.finished)) _ p.taken c.args.at p.slots _ changed))
