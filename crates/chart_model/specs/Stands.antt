-- The law of the lightest: attainment, minimality and completeness of finished weights. Assumes nothing.
use Rattle.std.specs.Prelude.{◌≡◌, ℕ, ◌<◌, ◌≤◌, true, false, List, length, Some, None}
use Rattle.std.specs.List.{AllByRecursion, IsDistinct}
use Rattle.chart_model.specs.Task.{Task}
use Rattle.chart_model.specs.Derivation.{Derives, weight_of, LiesWithin}
use Rattle.chart_model.specs.Plain.{Chart, opened, step, stopped, settled, carried, same_edge}
use Rattle.chart_model.specs.declared.edge.Edge.{Edge}

-- the edge is finished at this weight
abbrev pub Carries : Chart → Edge → ℕ → Type 0
Carries c e w = carried e c.places ≡ Some w

-- the edge is open, or has no place in the chart
abbrev pub Unfinished : Chart → Edge → Type 0
Unfinished c e = carried e c.places ≡ None

-- the weight is attained: some derivation of the edge has it
abbrev pub Weighs : Task → Edge → ℕ → Type 0
Weighs t e w = (d : Derives t e) × (weight_of t e d ≡ w)

-- the weight is a lower bound of all derivations of the edge
abbrev pub NoneLighter : Task → Edge → ℕ → Type 0
NoneLighter t e w = (d : Derives t e) → t.weights.lighter (weight_of t e d) w ≡ false

-- what each chart says of derivations, settled or not, full or not
pub record Stands (t : Task) (c : Chart) : Type 0 where
  -- attainment and minimality: finished weights are the least of their edges' derivations
  pub derived : (e : Edge) (w : ℕ) → Carries c e w → Weighs t e w
  pub least : (e : Edge) (w : ℕ) → Carries c e w → NoneLighter t e w
  -- best first: derivations of any other edge weigh at least as much as every finished edge
  pub best_first : (e f : Edge) (w : ℕ) → Unfinished c e → Carries c f w → NoneLighter t e w

-- more than `most` edges are derivable: a list of distinct derivable edges is longer
abbrev pub EdgesExceed : Task → ℕ → Type 0
EdgesExceed t most = (es : List Edge) × IsDistinct same_edge es × AllByRecursion (Derives t) es × (most < length es)

-- what a settled chart of this capacity says besides: it is complete, unless derivable edges exceed the capacity
pub record Complete (t : Task) (capacity : ℕ) (c : Chart) : Type 0 where
  -- full if and only if they do
  pub full_exceeds : c.full ≡ true → EdgesExceed t capacity
  pub exceeding_full : EdgesExceed t capacity → c.full ≡ true
  -- completeness: if not full, it has finished whatever is derivable
  pub all_finished : c.full ≡ false → (e : Edge) → Derives t e → (w : ℕ) × Carries c e w

-- the reachable charts: openings and what steps make of them, refused steps included; each call has its own capacity
pub data Reachable (t : Task) : Chart → Type 0 where
  by_opening : (capacity : ℕ) → Reachable t (opened t capacity)
  by_step : (capacity : ℕ) {c : Chart} → Reachable t c → Reachable t (step t capacity c)

-- at most `capacity` places are taken, and all of them if the chart is full
pub record Fits (capacity : ℕ) (c : Chart) : Type 0 where
  pub within : length c.places ≤ capacity
  pub taken : c.full ≡ true → capacity ≤ length c.places

-- a reachable chart that fits the capacity and at which every step is refused
pub record Stopped (t : Task) (capacity : ℕ) (c : Chart) : Type 0 where
  pub reachable : Reachable t c
  pub fits : Fits capacity c
  pub stopped : stopped t c ≡ true

-- THE LAW, of one task; the crate proves it of every sound one
pub record LawOfTheLightest (t : Task) : Type 0 where
  -- every reachable chart
  pub stands : (c : Chart) → Reachable t c → Stands t c
  -- every chart at which steps stop, whatever the capacities before, if it fits this one
  pub complete : (capacity : ℕ) (c : Chart) → Stopped t capacity c → Complete t capacity c
  -- with one capacity at all calls a chart fits it
  pub opening_fits : (capacity : ℕ) → Fits capacity (opened t capacity)
  pub step_fits : (capacity : ℕ) (c : Chart) → Reachable t c → Fits capacity c → Fits capacity (step t capacity c)
  -- settling terminates: after `capacity` steps every further one is refused
  pub ends : (capacity : ℕ) (c : Chart) → Reachable t c → Fits capacity c → stopped t (settled t capacity c) ≡ true
  -- and stays among the reachable charts
  pub settling : (capacity : ℕ) (c : Chart) → Reachable t c → Reachable t (settled t capacity c)
  -- derivable edges lie in the lattice
  pub within : (e : Edge) → Derives t e → LiesWithin t.last e
