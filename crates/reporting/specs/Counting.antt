-- How cases are counted. Assumes nothing.
use Rattle.std.specs.Prelude.{ℕ, Bool, Result, ◌≡◌, ◌+◌, ◌-◌, ◌^◌, min, true, false}
use Rattle.reporting.specs.Answers.{same_answer}
use Rattle.reporting.specs.declared.case.Case.{Case}
use Rattle.reporting.specs.declared.tally.Tally.{Tally}
use Rattle.reporting.specs.declared.reporter.Row.{Row}

-- a saturating count of 32 bits
abbrev pub one_more : ℕ → ℕ
one_more count = min (count + 1) (2 ^ 32 - 1)

-- the right ones after one case more
abbrev pub right_after : Bool → ℕ → ℕ
right_after is_right count = elim is_right [ true ↦ one_more count | false ↦ count ]

-- a tally after one expected and one actual answer
abbrev pub answered : Tally → Result ℕ ℕ → Result ℕ ℕ → Tally
answered tally expected got = record { cases = one_more tally.cases; right = right_after (same_answer expected got) tally.right }

-- a tally after a case
abbrev pub counted : Tally → Case → Tally
counted tally case = answered tally case.expected case.got

-- a row takes subject and tally on: it is asked, and its answer counted
abbrev pub RowCounted : {S T : Type 0} → (T → S → Result ℕ ℕ → S → Type 0) → S × Tally → Row T → S × Tally → Type 0
RowCounted answers before row after =
    (got : Result ℕ ℕ) × answers row.1 before.0 got after.0 × (after.1 ≡ answered before.1 row.2 got)
