-- Penalties: more doubt on the rules of one left symbol. Assumes nothing.
use Rattle.std.specs.Prelude.{◌≡◌, ◌≢◌, ℕ, ◌+◌, min, true, List, map, ◌==◌, if◌then◌else◌}
use Rattle.std.proofs.Common.{arith}
use Rattle.std.proofs.lemmas.List.{length-map}
use Rattle.std.proofs.lemmas.Grind.{common_steps}
use Rattle.records.proofs.Every.{every_map}
use Rattle.grammar.specs.Rules.{Rule, rule_within, Limits}

abbrev pub greatest_mark : ℕ
greatest_mark = 65535

-- saturating addition on the mark
abbrev pub add_penalty : ℕ → Rule → Rule
add_penalty penalty r = record r { mark = min (r.mark + penalty) greatest_mark }

-- a rule under a penalty on this symbol
abbrev pub penalized_rule : ℕ → ℕ → Rule → Rule
penalized_rule symbol penalty r = if r.left == symbol then add_penalty penalty r else r

abbrev pub penalized : ℕ → ℕ → List Rule → List Rule
penalized symbol penalty rules = map (penalized_rule symbol penalty) rules

-- two penalties on one symbol act as one: their saturating sum
abbrev pub AddsUp : ℕ → ℕ → List Rule → List Rule → Type 0
AddsUp symbol penalty with without =
    (more : ℕ) →
    penalized symbol more with ≡ penalized symbol (min (penalty + more) greatest_mark) without

-- penalties on different symbols commute
abbrev pub Commutes : ℕ → ℕ → List Rule → List Rule → Type 0
Commutes symbol penalty with without =
    (other more : ℕ) → (other ≢ symbol) →
    penalized other more with ≡ penalized symbol penalty (penalized other more without)

penalized_rule_within : (symbol penalty : ℕ) (r : Rule) → rule_within r ≡ true →
    rule_within (penalized_rule symbol penalty r) ≡ true
penalized_rule_within symbol penalty r h = grind (arith, common_steps)

pub penalized_limits : (symbol penalty : ℕ) (rules : List Rule) → Limits rules →
    Limits (penalized symbol penalty rules)
penalized_limits symbol penalty rules l =
    let within = penalized_rule_within symbol penalty in
    record {
      few = simp length-map l.few;
      within = every_map (penalized_rule symbol penalty) rule_within rule_within within rules l.within;
    }
