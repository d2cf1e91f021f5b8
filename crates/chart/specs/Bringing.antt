-- Arrivals by the numbers of words, rules and places, and what they leave of a table. Assumes nothing.
use Rattle.std.specs.Prelude.{◌≡◌, ℕ, suc, ◌<◌, List, Some, None, Option, IfSome}
use Rattle.std.specs.Borrow.{Bor}
use Rattle.std.specs.List.{slice_get, filter_map, range_with_len}
use Rattle.std.specs.Option.{option_map, option_or}
use Rattle.weighing.specs.Laws.{Weights}
use Rattle.grammar.specs.Rules.{Rule}
use Rattle.chart_model.specs.Task.{Task}
use Rattle.chart_model.specs.Plain.{Chart, arrive_all, gathered, rule_edge, word_brings, empty_brings, nodes_bring, rule_brings, takes, place_brings, arrivals}
use Rattle.chart_model.specs.declared.edge.Edge.{Edge}
use Rattle.chart_model.specs.declared.place.Arrival.{Arrival}
use Rattle.chart_model.specs.declared.place.Place.{Place}
use Rattle.chart_model.specs.declared.place.Entry.{Entry}
use Rattle.chart.specs.declared.table.Table.{Table}
use Rattle.chart.specs.View.{room, NamesFinished}
use Rattle.chart.specs.Charts.{held}

-- BY ONE NUMBER

-- the arrival of element n of a list; none past the end
abbrev pub brought_by : {X : Type 0} → (ℕ → X → Option Arrival) → List X → ℕ → Option Arrival
brought_by brings xs n = elim (slice_get xs n) [ None ↦ None | Some x ↦ brings n x ]

-- word number n
abbrev pub heard_word : Task → ℕ → Option Arrival
heard_word t n = brought_by (word_brings t.weights) t.words n

-- an empty rule, at node i
abbrev pub empty_rule : Task → ℕ → ℕ → Option Arrival
empty_rule t i n = brought_by (empty_brings t.weights i) t.rules n

-- the edge of rule n over the span [i, j], the dot after k symbols
abbrev pub rule_edge_of : List Rule → ℕ → ℕ → ℕ → ℕ → Option Edge
rule_edge_of rules n k i j = option_map (λ r. rule_edge n r k i j) (slice_get rules n)

-- the start of rule n with a finished edge
abbrev pub begun_rule : Task → Entry → ℕ → Option Arrival
begun_rule t s n = brought_by (rule_brings t.weights s) t.rules n

-- the fundamental rule: p active, q passive
abbrev pub joined : Task → Entry → Entry → Option Arrival
joined t p q = takes t.rules t.weights p q

-- either of the two active
abbrev pub met : Task → Entry → Entry → Option Arrival
met t p q = option_or (joined t p q) (joined t q p)

-- the same with the edge at place n, if that is finished
abbrev pub met_at : Task → Entry → List Place → ℕ → Option Arrival
met_at t s ps n = brought_by (place_brings t.rules t.weights s) ps n

-- AT A TABLE

-- a table before and after these arrivals, in order
abbrev pub Arrived : Weights → Table → List Arrival → Table → Type 0
Arrived ws before arrivals after = held after ≡ arrive_all room ws.lighter (held before) arrivals

abbrev pub WordsArrived : Task → Table → Table → Type 0
WordsArrived t before after = Arrived t.weights before (gathered (word_brings t.weights) 0 t.words) after

-- the empty rules, at node i
abbrev pub EmptiesArrived : Task → ℕ → Table → Table → Type 0
EmptiesArrived t i before after = Arrived t.weights before (gathered (empty_brings t.weights i) 0 t.rules) after

-- and at every node
abbrev pub NodesArrived : Task → Table → Table → Type 0
NodesArrived t before after = Arrived t.weights before (nodes_bring t.weights t.rules 0 (suc t.last)) after

-- the conclusions with a newly finished premise
abbrev pub FollowingArrived : Task → Entry → Table → Table → Type 0
FollowingArrived t s before after = Arrived t.weights before (arrivals t s (held before).places) after

-- BY ALL NUMBERS

-- the arrivals of the numbers below a count, in order
abbrev pub brought : (ℕ → Option Arrival) → ℕ → List Arrival
brought brings count = filter_map brings (range_with_len 0 count)

-- d is c after some arrivals
abbrev pub Later : Weights → Chart → Chart → Type 0
Later ws c d = (as' : List Arrival) × (d ≡ arrive_all room ws.lighter c as')

-- the premises of an arrival, if there is one, are finished
abbrev pub BringsFinished : Chart → Option Arrival → Type 0
BringsFinished c r = IfSome r (NamesFinished c)

-- of each arrival that a number below a count may bring, at the table as it is by then
abbrev pub AnyBrought : (Bor Table → ℕ → Option Arrival → Type 0) → Weights → ℕ → Table → (Chart → ℕ → Option Arrival → Type 0) → Type 0
AnyBrought brings ws count before Says =
    (t : Bor Table) (n : ℕ) (r : Option Arrival) → n < count → Later ws (held before) (held t.now) → brings t n r → Says (held t.now) n r

abbrev pub AllBringFinished : (Bor Table → ℕ → Option Arrival → Type 0) → Weights → ℕ → Table → Type 0
AllBringFinished brings ws count before = AnyBrought brings ws count before (λ c n r. BringsFinished c r)

-- where a function says what each number brings, just that has arrived
abbrev pub Brought : (Bor Table → ℕ → Option Arrival → Type 0) → Weights → ℕ → Table → Table → Type 0
Brought brings ws count before after =
    (f : ℕ → Option Arrival) → AnyBrought brings ws count before (λ c n r. r ≡ f n) → Arrived ws before (brought f count) after
