-- Which typed lines are refused, and by which number. Assumes nothing.
use Rattle.std.specs.Prelude.{ℕ, true, false, List, length, Some, None, Option, nat_le}
use Rattle.lattice.specs.Words.{greatest_node}
use Rattle.lattices.specs.declared.fault.TypedFault.{TypedFault}
use Rattle.lattices.specs.declared.fault.TypedFault.TheVariants.{TooLong}

abbrev pub typed_number : TypedFault → ℕ
typed_number TooLong = 4

-- 4 if its bytes pass the greatest node
abbrev pub typed_refusal : List ℕ → Option ℕ
typed_refusal bytes = elim (nat_le (length bytes) greatest_node) [ false ↦ Some 4 | true ↦ None ]
