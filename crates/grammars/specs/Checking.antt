-- Which rules are refused, and by which number. Assumes nothing.
use Rattle.std.specs.Prelude.{◌≡◌, ℕ, true, false, List, Some, None, Option, Result, nat_le}
use Rattle.std.specs.Option.{option_map}
use Rattle.std.specs.Result.{result_err}
use Rattle.records.specs.Lists.{list_refusal}
use Rattle.records.specs.Faults.{MatchesListRefusal}
use Rattle.records.specs.declared.fault.ListFault.{ListFault}
use Rattle.grammars.specs.declared.rule.RuleRecord.{RuleRecord}
use Rattle.grammars.specs.declared.fault.RuleFault.{RuleFault}
use Rattle.grammars.specs.Faults.{too_many_rules, rule_number, grammar_number_and_place}
use Rattle.grammar.specs.Rules.{most_rules, most_symbols}

-- 5 if the rule is too long
abbrev pub rule_refusal : RuleRecord → Option ℕ
rule_refusal r = elim (nat_le r.length most_symbols) [ false ↦ Some 5 | true ↦ None ]

-- 6 for too many rules; else that of the first rule that is refused, with its place
abbrev pub rules_refusal : List RuleRecord → Option (ℕ × Option ℕ)
rules_refusal rs = list_refusal most_rules too_many_rules rule_refusal rs

-- the contract of `Checked`, read for rules
pub check_matches_rules : {A : Type 0} (xs : List RuleRecord) (r : Result A (ListFault RuleFault)) →
    MatchesListRefusal most_rules too_many_rules rule_number rule_refusal xs r →
    option_map grammar_number_and_place (result_err r) ≡ rules_refusal xs
check_matches_rules xs r tells = tells
