-- Context-free rules with marks, and the limits of a grammar. Assumes nothing.
use Rattle.std.specs.Prelude.{◌≡◌, ℕ, ◌^◌, ◌≤◌, Bool, true, ◌&&◌, List, length, Some, None, Option, nat_le, nat_lt}
use Rattle.std.specs.List.{slice_get}
use Rattle.std.specs.Option.{option_map}
use Rattle.std.specs.List.{list_all}

-- left → right, at the cost of a mark
pub record Rule : Type 0 where
  pub left : ℕ
  pub right : List ℕ
  pub mark : ℕ

abbrev pub most_rules : ℕ
most_rules = 96

abbrev pub most_symbols : ℕ
most_symbols = 4

-- a rule of a grammar; marks have 16 bits
abbrev pub rule_within : Rule → Bool
rule_within r = nat_le (length r.right) most_symbols && nat_lt r.mark (2 ^ 16)

abbrev pub rules_within : List Rule → Bool
rules_within rs = list_all rule_within rs

-- what rules have to be to make a grammar
pub record Limits (rules : List Rule) : Type 0 where
  pub few : length rules ≤ most_rules
  pub within : rules_within rules ≡ true

-- the fields of rule n; none past the last rule
abbrev pub left_of : List Rule → ℕ → Option ℕ
left_of rules n = option_map (λ r. r.left) (slice_get rules n)

abbrev pub mark_of : List Rule → ℕ → Option ℕ
mark_of rules n = option_map (λ r. r.mark) (slice_get rules n)

abbrev pub length_of : List Rule → ℕ → Option ℕ
length_of rules n = option_map (λ r. length r.right) (slice_get rules n)

abbrev pub right_of : List Rule → ℕ → ℕ → Option ℕ
right_of rules n k = elim (slice_get rules n) [ None ↦ None | Some r ↦ slice_get r.right k ]
