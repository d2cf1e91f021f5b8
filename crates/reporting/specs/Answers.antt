-- Which cases are right. Assumes nothing.
use Rattle.std.specs.Prelude.{ℕ, Bool, false, Ok, Err, Result, ◌==◌}
use Rattle.reporting.specs.declared.case.Case.{Case}

-- equal values, or equal refusals
abbrev pub same_answer : Result ℕ ℕ → Result ℕ ℕ → Bool
same_answer (Ok a) (Ok b) = a == b
same_answer (Err a) (Err b) = a == b
same_answer (Ok _) (Err _) = false
same_answer (Err _) (Ok _) = false

abbrev pub right : Case → Bool
right case = same_answer case.expected case.got
