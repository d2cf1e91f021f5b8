-- The numbers of the refusals of rules. Assumes nothing.
use Rattle.std.specs.Prelude.{ℕ, Option}
use Rattle.records.specs.declared.fault.ListFault.{ListFault}
use Rattle.records.specs.Faults.{number_and_place}
use Rattle.grammars.specs.declared.fault.RuleFault.{RuleFault}
use Rattle.grammars.specs.declared.fault.RuleFault.TheVariants.{TooLong}

abbrev pub rule_number : RuleFault → ℕ
rule_number TooLong = 5

-- the number for too many rules
abbrev pub too_many_rules : ℕ
too_many_rules = 6

-- the number of a list's refusal, and the place of the rule where one is at fault
abbrev pub grammar_number_and_place : ListFault RuleFault → ℕ × Option ℕ
grammar_number_and_place fault = number_and_place too_many_rules rule_number fault
