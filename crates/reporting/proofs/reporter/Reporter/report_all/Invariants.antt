use Rattle.std.proofs.Common.{take}
use Rattle.std.specs.List.{FoldsTo}
use Rattle.reporting.specs.Counting.{RowCounted}
use Rattle.reporting.proofs.reporter.Reporter.report_all.Given as goal

-- the rows so far are counted
abbrev pub invariant-loop-row : goal.invariant-loop-row
invariant-loop-row g l =
    FoldsTo (RowCounted g.T.Asks.answers) (l.initial.subject, l.initial.self.tally) (take l.row-index l.rows) (l.subject, l.self.tally)
