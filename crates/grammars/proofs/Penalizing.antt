-- Two penalties in a row, rule by rule. Assumes nothing.
use Rattle.std.proofs.Common.{◌≡◌, ℕ, ◌+◌, min, List, [], ◌∷◌, refl, arith}
use Rattle.std.specs.Prelude.{◌≢◌}
use Rattle.std.proofs.lemmas.Grind.{common_steps}
use Rattle.grammar.specs.Rules.{Rule}
use Rattle.grammars.specs.Penalties.{greatest_mark, penalized_rule, penalized, AddsUp, Commutes}

adds_at : (symbol first second : ℕ) (r : Rule) →
    penalized_rule symbol second (penalized_rule symbol first r) ≡ penalized_rule symbol (min (first + second) greatest_mark) r
adds_at symbol first second r = grind (arith, common_steps)

commutes_at : (symbol other penalty more : ℕ) → (other ≢ symbol) → (r : Rule) →
    penalized_rule other more (penalized_rule symbol penalty r) ≡ penalized_rule symbol penalty (penalized_rule other more r)
commutes_at symbol other penalty more apart r = grind (arith, common_steps)

pub penalties_add : (symbol penalty : ℕ) (rules : List Rule) →
    AddsUp symbol penalty (penalized symbol penalty rules) rules
penalties_add symbol penalty [] more = refl
penalties_add symbol penalty (r ∷ rules) more =
    cc (adds_at symbol penalty more r, penalties_add symbol penalty rules more)

pub penalties_commute : (symbol penalty : ℕ) (rules : List Rule) →
    Commutes symbol penalty (penalized symbol penalty rules) rules
penalties_commute symbol penalty [] other more apart = refl
penalties_commute symbol penalty (r ∷ rules) other more apart =
    cc (commutes_at symbol other penalty more apart r, penalties_commute symbol penalty rules other more apart)
