-- The number and the place of a list's fault, and that a check refuses a list by them. Assumes nothing.
use Rattle.std.specs.Prelude.{◌≡◌, ℕ, List, Some, None, Option, Result}
use Rattle.std.specs.Option.{option_map}
use Rattle.std.specs.Result.{result_err}
use Rattle.records.specs.Lists.{list_refusal}
use Rattle.records.specs.declared.fault.ListFault.{ListFault}
use Rattle.records.specs.declared.fault.ListFault.TheVariants.{TooMany, At}

-- the number of the refusal, and the place of the record where one is at fault
abbrev pub number_and_place : {F : Type 0} → ℕ → (F → ℕ) → ListFault F → ℕ × Option ℕ
number_and_place too_many number TooMany = (too_many, None)
number_and_place too_many number (At at fault) = (number fault, Some at)

-- a check refuses a list just where the list has a refusal, and by its number and place
abbrev pub MatchesListRefusal : {X A F : Type 0} → ℕ → ℕ → (F → ℕ) → (X → Option ℕ) → List X → Result A (ListFault F) → Type 0
MatchesListRefusal most too_many number refusal xs result = option_map (number_and_place too_many number) (result_err result) ≡ list_refusal most too_many refusal xs
