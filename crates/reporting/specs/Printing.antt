-- How cases and tallies are printed, each as a line without its line feed. Assumes nothing.
use Rattle.std.specs.Prelude.{ℕ, true, false, List, ◌++◌, Ok, Err, Result, codes, decimal}
use Rattle.records.specs.Printing.{refused_text}
use Rattle.reporting.specs.Answers.{right}
use Rattle.reporting.specs.declared.case.Case.{Case}
use Rattle.reporting.specs.declared.tally.Tally.{Tally}

abbrev pub answer_text : Result ℕ ℕ → List ℕ
answer_text (Ok value) = decimal value
answer_text (Err refusal) = refused_text refusal

-- theme and name
abbrev pub title : Case → List ℕ
title case = case.theme.now ++ (codes ": " ++ case.name.now)

-- the two answers are printed only if they differ
abbrev pub case_text : Case → List ℕ
case_text case =
    elim (right case) [
      | true ↦ codes "ok " ++ title case
      | false ↦ codes "WRONG " ++ (title case ++ (codes ": expected " ++ (answer_text case.expected ++ (codes ", got " ++ answer_text case.got))))
    ]

abbrev pub tally_text : Tally → List ℕ
tally_text tally = decimal tally.right ++ (codes " of " ++ (decimal tally.cases ++ codes " cases as they should be"))
