use Rattle.std.proofs.Common.{◌≡◌, ℕ, Option}
use Rattle.chart_model.specs.Plain.{arrive_all}
use Rattle.chart_model.specs.declared.place.Arrival.{Arrival}
use Rattle.chart.specs.Bringing.{brought, AnyBrought, Later}
use Rattle.chart.specs.Charts.{held}
use Rattle.chart.specs.View.{room}
use Rattle.chart.proofs.Rounds.{Rest}
use Rattle.chart.proofs.setting.Setting.bring_each.Given as goal

abbrev pub invariant-loop-n : goal.invariant-loop-n
invariant-loop-n g l =
    let ws = g.W.Weighing.weights l.self.weighing in
    let before = l.fn.table in
    record {
      later : Later ws (held before) (held l.table);
      rest : (f : ℕ → Option Arrival) → AnyBrought (goal.F-post g l.brings) ws l.count before (λ c n r. r ≡ f n) →
          Rest f ws l.count l.n (held l.table) (arrive_all room ws.lighter (held before) (brought f l.count));
    }
