-- Rules in records, and that checked records make a grammar. Assumes nothing.
use Rattle.std.specs.Prelude.{◌≡◌, ◌^◌, ◌≤◌, Bool, true, ◌&&◌, List, map, length, take, nat_le, nat_lt}
use Rattle.std.proofs.Common.{arith, length-take}
use Rattle.std.proofs.lemmas.List.{length-map}
use Rattle.std.proofs.lemmas.Grind.{common_steps}
use Rattle.std.specs.List.{list_all}
use Rattle.records.proofs.Every.{every_map}
use Rattle.grammars.specs.declared.rule.RuleRecord.{RuleRecord}
use Rattle.grammar.specs.Rules.{Rule, most_rules, most_symbols, rule_within, Limits}

-- the symbols up to the length are the right side
abbrev pub rule_of : RuleRecord → Rule
rule_of r = record { left = r.left; right = take r.length r.symbols; mark = r.mark }

abbrev pub rules_of : List RuleRecord → List Rule
rules_of rs = map rule_of rs

-- what the check of a record shows; marks have 16 bits
abbrev pub record_within : RuleRecord → Bool
record_within r = nat_le r.length most_symbols && nat_lt r.mark (2 ^ 16)

abbrev pub records_within : List RuleRecord → Bool
records_within rs = list_all record_within rs

rule_limits : (r : RuleRecord) → record_within r ≡ true → rule_within (rule_of r) ≡ true
rule_limits r h = grind (arith, common_steps, length-take r.length r.symbols)

pub records_limits : (rs : List RuleRecord) → length rs ≤ most_rules → records_within rs ≡ true →
    Limits (rules_of rs)
records_limits rs few within =
    record {
      few = simp length-map few;
      within = every_map rule_of record_within rule_within rule_limits rs within;
    }
