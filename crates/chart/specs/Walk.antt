-- The walk of a reading: which nodes it writes, and where in the caller's list. Assumes nothing.
use Rattle.std.specs.Prelude.{◌≡◌, ℕ, zero, suc, ◌+◌, ◌<◌, ◌≤◌, List, [], ◌∷◌, length, Some, None, Option, Result, MatchOption}
use Rattle.std.specs.List.{slice_get}
use Rattle.std.specs.Option.{option_map}
use Rattle.std.specs.Result.{result_ok}
use Rattle.chart_model.specs.Reading.{origin_nodes, overwritten, reading_at}
use Rattle.chart_model.specs.declared.node.Node.{Node}
use Rattle.chart_model.specs.declared.place.Place.{Place}
use Rattle.chart.specs.declared.listing.Listing.{Listing}
use Rattle.chart.specs.declared.walk.FinishedAt.{FinishedAt}
use Rattle.chart.specs.Charts.{held}

-- an edge's own node, none if it is active
abbrev pub own : List Place → Place → List Node
own ps p = origin_nodes ps (λ _. []) p.edge p.origin

abbrev pub own_at : List Place → ℕ → List Node
own_at ps n = elim (slice_get ps n) [ None ↦ [] | Some p ↦ own ps p ]

-- where a finished edge stands, its own node, and all its nodes
abbrev pub places_of : FinishedAt → List Place
places_of s = (held s.table.now).places

abbrev pub own_nodes : FinishedAt → List Node
own_nodes s = own_at (places_of s) s.at

abbrev pub all_nodes : FinishedAt → List Node
all_nodes s = reading_at (places_of s) s.at

-- nodes written over a list after its first n, cut where the list ends
abbrev pub overwritten_from : ℕ → List Node → List Node → List Node
overwritten_from zero ns before = overwritten ns before
overwritten_from (suc n) ns [] = []
overwritten_from (suc n) ns (b ∷ before) = b ∷ overwritten_from n ns before

-- how far the list is filled then; none if the nodes did not fit
abbrev pub Filled : List Node → ℕ → ℕ → Option ℕ → Type 0
Filled ns room filled r = MatchOption r (room < filled + length ns) (λ n. (n ≡ filled + length ns) × (n ≤ room))

-- these nodes were written after the first `filled`
abbrev pub Wrote : List Node → List Node → List Node → ℕ → Option ℕ → Type 0
Wrote ns before after filled r = (after ≡ overwritten_from filled ns before) × Filled ns (length before) filled r

-- n, unless the result is a refusal
abbrev pub filled_then : {E : Type 0} → ℕ → Result (Unit {0}) E → Option ℕ
filled_then n r = option_map (λ _. n) (result_ok r)

-- a listing has taken these nodes, or as many as fit
abbrev pub Lists : {E : Type 0} → List Node → Listing → Listing → Result (Unit {0}) E → Type 0
Lists ns before after r = Wrote ns before.nodes.now after.nodes.now before.filled (filled_then after.filled r)

-- the listing still borrows the same list
abbrev pub SameList : Listing → Listing → Type 0
SameList before after = after.nodes.ghost_name ≡ before.nodes.ghost_name
