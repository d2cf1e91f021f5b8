-- The premises of what arrives in a step are finished. Assumes nothing.
use Rattle.std.proofs.Common.{◌≡◌, ℕ, suc, Bool, true, Some, None, Option, sym, refl, subst}
use Rattle.std.specs.List.{slice_get}
use Rattle.weighing.specs.Laws.{Weights}
use Rattle.grammar.specs.Rules.{Rule}
use Rattle.chart_model.specs.Task.{Task}
use Rattle.chart_model.specs.Plain.{Chart, rule_brings, arrive}
use Rattle.chart_model.specs.Origins.{finished_before, names_finished_before}
use Rattle.chart_model.specs.declared.place.Arrival.{Arrival}
use Rattle.chart_model.specs.declared.place.Entry.{Entry}
use Rattle.chart_model.proofs.StepArrivals.{rule_brings_from}
use Rattle.chart_model.proofs.Arriving.{arrive_all_keep}
use Rattle.chart_model.proofs.Numbering.{count_arrive, before_arrive}
use Rattle.chart.specs.View.{room, IsFinished}
use Rattle.chart.specs.Bringing.{begun_rule, BringsFinished, Later}

-- the edge at a place stays finished
is_finished_arrive : (lighter : ℕ → ℕ → Bool) (n : ℕ) (c : Chart) (a : Arrival) → IsFinished c n → IsFinished (arrive room lighter c a) n
is_finished_arrive lighter n c a h =
    subst (λ m. finished_before (arrive room lighter c a).places (suc m) n ≡ true) (sym (count_arrive lighter a room c)) (before_arrive lighter a room c (suc c.finished) n h)

pub is_finished_later : (ws : Weights) (c d : Chart) (n : ℕ) → Later ws c d → IsFinished c n → IsFinished d n
is_finished_later ws c d n (as', h) finished =
    subst (λ x. IsFinished x n) (sym h) (arrive_all_keep room ws.lighter (λ x. IsFinished x n) as' (λ a _ x. is_finished_arrive ws.lighter n x a) c finished)

-- an origin that a rule brings names the finished edge alone
pub begun_finished : (t : Task) (s : Entry) (n : ℕ) (c : Chart) → IsFinished c s.at → BringsFinished c (begun_rule t s n)
begun_finished t s n c finished = go (slice_get t.rules n) refl
  where
    there : (r : Rule) → slice_get t.rules n ≡ Some r → (o : Option Arrival) → rule_brings t.weights s n r ≡ o → BringsFinished c o
    there r at None brings = tt
    there r at (Some a) brings =
        subst (λ o. names_finished_before c.places (suc c.finished) o ≡ true) (sym (rule_brings_from t s n r at a brings).1) finished

    go : (o : Option Rule) → slice_get t.rules n ≡ o → BringsFinished c (elim o as (λ _. Option Arrival) [ None ↦ None | Some r ↦ rule_brings t.weights s n r ])
    go None at = tt
    go (Some r) at = there r at (rule_brings t.weights s n r) refl
