-- The front of an input that is read. Assumes nothing.
use Rattle.std.proofs.Common.{◌≡◌, ℕ, List, [], ◌++◌, take, Some, None, Option, IfSome, ap, ◌∙◌}
use Rattle.std.specs.Option.{option_map}

pub front_read : (known : Option (List ℕ)) (most : ℕ) (before after : List ℕ) → before ≡ [] → IfSome (option_map (take most) known) (λ bytes. after ≡ before ++ bytes) → IfSome known (λ bytes. after ≡ take most bytes)
front_read None most before after empty read = tt
front_read (Some bytes) most before after empty read = read ∙ ap (λ front. front ++ take most bytes) empty
