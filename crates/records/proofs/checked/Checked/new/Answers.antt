use native.Mathlib.Omega.{arith}
use Rattle.records.proofs.checked.Checked.new.Goals as goal

-- what the check promises for each number of too many, at one of them
pub returns-clause-refused : goal.returns-clause-refused
returns-clause-refused g c = let e = c.in_ok-check_records.ensures.refused 0 in grind arith
