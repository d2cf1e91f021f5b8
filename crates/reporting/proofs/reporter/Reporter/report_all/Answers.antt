use Rattle.std.proofs.Common.{sym, ◌∙◌, ap, take, ◌++◌, ◌∷◌, []}
use Rattle.std.proofs.lemmas.Fn.{FoldsTo-push}
use Rattle.std.proofs.lemmas.List.{take_more}
use Rattle.reporting.specs.Counting.{RowCounted}
use Rattle.reporting.proofs.reporter.Reporter.report_all.Goals as goal

-- one row more is asked, and its answer counted
pub loop-row-preserved : goal.loop-row-preserved
loop-row-preserved g c =
    let rows = c.args.rows.now in
    let before = take c.loop-row.row-index rows in
    let row = take_more rows c.loop-row.row-index c.row-item.result c.loop-row-test.true in
    rw (row ∙ ap (λ it. before ++ (it ∷ [])) (sym c.row-item.is))
    (FoldsTo-push (RowCounted g.T.Asks.answers) _ before _ c.row-item.result _ c.loop-row.invariant (c.ask.result, c.ask.ensures, c.in_ok-report.ensures))
