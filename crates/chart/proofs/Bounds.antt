-- What the limits of a grammar say of one symbol of a rule. Assumes nothing.
use Rattle.std.proofs.Common.{◌≡◌, ℕ, ◌^◌, ◌<◌, ltb, leb, List, length, Some, None, Option, refl, arith}
use Rattle.std.specs.List.{slice_get}
use Rattle.std.proofs.lemmas.Bool.{and_parts, leb-true}
use Rattle.records.proofs.Every.{every_nth}
use Rattle.grammar.specs.Rules.{Rule, Limits, most_symbols, rule_within, right_of}
use Rattle.chart_model.proofs.Members.{none_some, nth_below}

-- a right symbol stands among the first four
pub right_short : (rules : List Rule) → Limits rules → (n k y : ℕ) → right_of rules n k ≡ Some y → k < most_symbols
right_short rules limits n k y = go (slice_get rules n) refl
  where
    go : (o : Option Rule) → slice_get rules n ≡ o → elim o as (λ _. Option ℕ) [ None ↦ None | Some r ↦ slice_get r.right k ] ≡ Some y → k < most_symbols
    go None there h = absurd (none_some h)
    go (Some r) there h =
        let short = leb-true (length r.right) most_symbols (and_parts (leb (length r.right) most_symbols) (ltb r.mark (2 ^ 16)) (every_nth rule_within rules n r limits.within there)).0 in
        let below = nth_below r.right k y h in
        omega arith
