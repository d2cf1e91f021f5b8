-- The plain chart: best-first chart parsing as functions on lists of places. Assumes nothing.
use Rattle.std.specs.Prelude.{ℕ, zero, suc, Bool, true, false, ◌&&◌, ◌||◌, not, List, [], ◌∷◌, ◌++◌, length, count_by, fold, position, Some, None, Ok, Err, Option, Result, ◌==◌, nat_eq, nat_le, nat_lt}
use Rattle.std.specs.List.{slice_get, list_any, enumerate_from}
use Rattle.std.specs.Option.{ok_or, option_or, option_to_list, is_none}
use Rattle.weighing.specs.Laws.{Weights}
use Rattle.grammar.specs.Rules.{Rule}
use Rattle.lattice.specs.declared.word.Word.{Word}
use Rattle.chart_model.specs.Task.{Task}
use Rattle.chart_model.specs.declared.edge.Edge.{Edge}
use Rattle.chart_model.specs.declared.edge.Edge.TheVariants.{Passive, Active}
use Rattle.chart_model.specs.declared.origin.Origin.{Origin}
use Rattle.chart_model.specs.declared.origin.Origin.TheVariants.{Word as FromWord, Empty, First, Next}
use Rattle.chart_model.specs.declared.phrase.Phrase.{Phrase}
use Rattle.chart_model.specs.declared.place.Place.{Place}
use Rattle.chart_model.specs.declared.place.Arrival.{Arrival}
use Rattle.chart_model.specs.declared.place.Entry.{Entry}

-- places in the order of arrival, whether an edge was dropped for want of a place, and the count of finished edges
pub record Chart : Type 0 where
  pub places : List Place
  pub full : Bool
  pub finished : ℕ

abbrev pub same_edge : Edge → Edge → Bool
same_edge (Passive x i j) (Passive y k l) = x == y && (i == k && j == l)
same_edge (Passive x i j) (Active s m k l) = false
same_edge (Active r n i j) (Passive y k l) = false
same_edge (Active r n i j) (Active s m k l) = r == s && (n == m && (i == k && j == l))

-- on the agenda: not numbered in the order of finishing yet
abbrev pub is_open : Option ℕ → Bool
is_open rank = is_none rank

-- the count of finished places
abbrev pub done : List Place → ℕ
done ps = count_by (λ p. not (is_open p.rank)) ps

-- the place of an edge, from 0
abbrev pub place_of : Edge → List Place → Option ℕ
place_of e ps = position (λ p. same_edge p.edge e) ps

abbrev pub holds : Edge → List Place → Bool
holds e ps = list_any (λ p. same_edge p.edge e) ps

-- f applied at place n alone
abbrev pub modified : (Place → Place) → ℕ → List Place → List Place
modified f n [] = []
modified f zero (p ∷ ps) = f p ∷ ps
modified f (suc n) (p ∷ ps) = p ∷ modified f n ps

-- the arrivals that the elements of a list bring, in order; the first element has number n
abbrev pub gathered : {X : Type 0} → (ℕ → X → Option Arrival) → ℕ → List X → List Arrival
gathered brings n [] = []
gathered brings n (x ∷ xs) = option_to_list (brings n x) ++ gathered brings (suc n) xs

-- PLACES AND ARRIVALS

-- an inference: the edge is its conclusion, and the origin names its premises
abbrev pub arriving : Edge → ℕ → Origin → Arrival
arriving e w o = record { edge = e; weight = w; origin = o }

-- the place of an edge that arrives for the first time
abbrev pub fresh : Arrival → Place
fresh a = record { edge = a.edge; weight = a.weight; origin = a.origin; rank = None }

-- what stands where no edge is yet
abbrev pub unused : Place
unused = fresh (arriving (Passive 0 0 0) 0 (FromWord 0))

-- a decreased key: the inference is replaced by a lighter one
abbrev pub lightened : Arrival → Place → Place
lightened a p = record p { weight = a.weight; origin = a.origin }

-- finished, with this number in the order of finishing
abbrev pub finished_place : ℕ → Place → Place
finished_place number p = record p { rank = Some number }

-- the entry of place n
abbrev pub entry : ℕ → Place → Entry
entry n p = record { at = n; edge = p.edge; weight = p.weight }

-- the same, for a finished place only
abbrev pub finished_entry : ℕ → Place → Option Entry
finished_entry n p = elim p.rank [ None ↦ None | Some m ↦ Some (entry n p) ]

-- AN ARRIVAL

-- at its own place: decrease-key if it is open and the arrival lighter, else no change
abbrev pub improved : (ℕ → ℕ → Bool) → Arrival → Place → Place
improved lighter a p = elim (is_open p.rank && lighter a.weight p.weight) [ true ↦ lightened a p | false ↦ p ]

-- insert or decrease-key
abbrev pub placed : (ℕ → ℕ → Bool) → Arrival → List Place → List Place
placed lighter a [] = fresh a ∷ []
placed lighter a (p ∷ ps) = elim (same_edge p.edge a.edge) [ true ↦ improved lighter a p ∷ ps | false ↦ p ∷ placed lighter a ps ]

-- a new edge beyond the capacity is dropped, and makes the chart full; a full chart takes no arrival
abbrev pub arrive : ℕ → (ℕ → ℕ → Bool) → Chart → Arrival → Chart
arrive capacity lighter c a =
    elim c.full [
      | true ↦ c
      | false ↦ elim (holds a.edge c.places || nat_lt (length c.places) capacity) [
        | true ↦ record { places = placed lighter a c.places; full = false; finished = c.finished }
        | false ↦ record { places = c.places; full = true; finished = c.finished }
      ]
    ]

abbrev pub arrive_all : ℕ → (ℕ → ℕ → Bool) → Chart → List Arrival → Chart
arrive_all capacity lighter c as' = fold (arrive capacity lighter) c as'

-- OPENING

-- word n is an axiom
abbrev pub word_brings : Weights → ℕ → Word → Option Arrival
word_brings ws n w = Some (arriving (Passive w.symbol w.from w.to) (ws.weigh w.mark) (FromWord n))

-- an empty rule n is an axiom at each node i
abbrev pub empty_brings : Weights → ℕ → ℕ → Rule → Option Arrival
empty_brings ws i n r =
    elim r.right [ [] ↦ Some (arriving (Passive r.left i i) (ws.weigh r.mark) (Empty n)) | x ∷ xs ↦ None ]

-- the same at `count` nodes, the first of them i
abbrev pub nodes_bring : Weights → List Rule → ℕ → ℕ → List Arrival
nodes_bring ws rules i zero = []
nodes_bring ws rules i (suc count) = gathered (empty_brings ws i) 0 rules ++ nodes_bring ws rules (suc i) count

-- all axioms: words, then empty rules, sorted by node and then by rule
abbrev pub first_arrivals : Task → List Arrival
first_arrivals t = gathered (word_brings t.weights) 0 t.words ++ nodes_bring t.weights t.rules 0 (suc t.last)

-- the empty chart
abbrev pub blank : Chart
blank = record { places = []; full = false; finished = 0 }

abbrev pub opened : Task → ℕ → Chart
opened t capacity = arrive_all capacity t.weights.lighter blank (first_arrivals t)

-- A STEP

-- the lighter of two open edges, the former in a tie
abbrev pub lighter_of : (ℕ → ℕ → Bool) → Option Entry → Entry → Option Entry
lighter_of lighter None s = Some s
lighter_of lighter (Some best) s = elim (lighter s.weight best.weight) [ true ↦ Some s | false ↦ Some best ]

-- the lightest so far, after one place more
abbrev pub lightest_with : (ℕ → ℕ → Bool) → Option Entry → ℕ × Place → Option Entry
lightest_with lighter best (n, p) = elim (is_open p.rank) [ true ↦ lighter_of lighter best (entry n p) | false ↦ best ]

-- the head of the agenda; ties go to the place with the lower number
abbrev pub lightest_open : (ℕ → ℕ → Bool) → List Place → Option Entry
lightest_open lighter ps = fold (lightest_with lighter) None (enumerate_from 0 ps)

-- place n finished
abbrev pub finish : ℕ → ℕ → List Place → List Place
finish number n ps = modified (finished_place number) n ps

-- the edge of rule n over [i, j], the dot after k symbols: active, or passive once the dot is at the end
abbrev pub rule_edge : ℕ → Rule → ℕ → ℕ → ℕ → Edge
rule_edge n r k i j = elim (k == length r.right) [ true ↦ Passive r.left i j | false ↦ Active n k i j ]

-- x follows the dot
abbrev pub wants : List ℕ → ℕ → ℕ → Bool
wants right k x = elim (slice_get right k) [ None ↦ false | Some y ↦ nat_eq y x ]

-- bottom-up rule start: the premise is x[i, j], of weight w at place b
abbrev pub rule_takes : Weights → ℕ → Rule → ℕ → ℕ → ℕ → ℕ → ℕ → Option Arrival
rule_takes ws n r b x i j w =
    elim (wants r.right 0 x) [
      | true ↦ Some (arriving (rule_edge n r 1 i j) (ws.join (ws.weigh r.mark) w) (First n b))
      | false ↦ None
    ]

-- the start of rule n with a finished edge, if that is its first child
abbrev pub rule_brings : Weights → Entry → ℕ → Rule → Option Arrival
rule_brings ws s n r = elim s.edge [ Passive x i j ↦ rule_takes ws n r s.at x i j s.weight | Active m k i j ↦ None ]

-- fundamental rule: the premises are rule n from h, the dot after k symbols (weight u, place a), and x up to l (w, b)
abbrev pub active_takes : Weights → ℕ → Rule → ℕ → ℕ → ℕ → ℕ → ℕ → ℕ → ℕ → ℕ → Option Arrival
active_takes ws n r k h a u b x l w =
    elim (wants r.right k x) [ true ↦ Some (arriving (rule_edge n r (suc k) h l) (ws.join u w) (Next a b)) | false ↦ None ]

-- the same for two edges, the first active, the second its passive neighbour
abbrev pub edge_takes : List Rule → Weights → ℕ → ℕ → Edge → ℕ → ℕ → Edge → Option Arrival
edge_takes rules ws a u (Passive y i j) b w e = None
edge_takes rules ws a u (Active n k h g) b w (Active m q i j) = None
edge_takes rules ws a u (Active n k h g) b w (Passive x i j) =
    elim (g == i) [ true ↦ elim (slice_get rules n) [ None ↦ None | Some r ↦ active_takes ws n r k h a u b x j w ] | false ↦ None ]

abbrev pub takes : List Rule → Weights → Entry → Entry → Option Arrival
takes rules ws p q = edge_takes rules ws p.at p.weight p.edge q.at q.weight q.edge

-- the fundamental rule between a finished edge and that at place n, either of which may be the active one
abbrev pub place_brings : List Rule → Weights → Entry → ℕ → Place → Option Arrival
place_brings rules ws s n p = elim (finished_entry n p) [ None ↦ None | Some q ↦ option_or (takes rules ws q s) (takes rules ws s q) ]

-- the conclusions with a newly finished premise: rule starts by rule, then the fundamental rule by place
abbrev pub arrivals : Task → Entry → List Place → List Arrival
arrivals t s ps = gathered (rule_brings t.weights s) 0 t.rules ++ gathered (place_brings t.rules t.weights s) 0 ps

-- place n finished, its conclusions still to come
abbrev pub finishing : Chart → ℕ → Chart
finishing c n = record { places = finish (suc c.finished) n c.places; full = c.full; finished = suc c.finished }

-- and its conclusions arrived
abbrev pub completed : Task → ℕ → Chart → Entry → Chart
completed t capacity c s = let d = finishing c s.at in arrive_all capacity t.weights.lighter d (arrivals t s d.places)

-- the count of finished edges; 10 if the chart is full
abbrev pub count_unless_full : Chart → Result ℕ ℕ
count_unless_full c = elim c.full [ true ↦ Err 10 | false ↦ Ok c.finished ]

-- pop the lightest and infer; nothing happens if the chart is full or the agenda empty
abbrev pub step : Task → ℕ → Chart → Chart
step t capacity c =
    elim c.full [
      | true ↦ c
      | false ↦ elim (lightest_open t.weights.lighter c.places) [ None ↦ c | Some s ↦ completed t capacity c s ]
    ]

-- the count after the step; 10 if the chart is full before or after it, 11 if the agenda is empty
abbrev pub step_answer : Task → ℕ → Chart → Result ℕ ℕ
step_answer t capacity c =
    elim c.full [
      | true ↦ Err 10
      | false ↦ elim (lightest_open t.weights.lighter c.places) [ None ↦ Err 11 | Some s ↦ count_unless_full (completed t capacity c s) ]
    ]

-- opaque: a literal number of steps would unfold in every proof that sees it
unfoldable pub steps : Task → ℕ → ℕ → Chart → Chart
steps t capacity zero c = c
steps t capacity (suc n) c = steps t capacity n (step t capacity c)

-- SETTLING

-- full, or with an empty agenda: every step is refused
abbrev pub stopped : Task → Chart → Bool
stopped t c = c.full || is_none (lightest_open t.weights.lighter c.places)

-- the number by which it refuses
abbrev pub stop_number : Chart → ℕ
stop_number c = elim c.full [ true ↦ 10 | false ↦ 11 ]

-- `capacity` steps, which are enough: each that is not refused finishes an edge, and refused ones are harmless
abbrev pub settled : Task → ℕ → Chart → Chart
settled t capacity c = steps t capacity capacity c

-- QUESTIONS

-- the weight of an edge, if it is finished
abbrev pub carried : Edge → List Place → Option ℕ
carried e [] = None
carried e (p ∷ ps) =
    elim (same_edge p.edge e) [ true ↦ elim (is_open p.rank) [ true ↦ None | false ↦ Some p.weight ] | false ↦ carried e ps ]

-- a phrase as a passive edge
abbrev pub edge_of : Phrase → Edge
edge_of p = Passive p.symbol p.from p.to

-- from ≤ to ≤ last
abbrev pub is_within : ℕ → Phrase → Bool
is_within last p = nat_le p.from p.to && nat_le p.to last

-- what a working chart answers: a weight, 7 (no such span), or 8 (not finished)
abbrev pub working_answer : Task → Chart → Phrase → Result ℕ ℕ
working_answer t c p = elim (is_within t.last p) [ true ↦ ok_or (carried (edge_of p) c.places) 8 | false ↦ Err 7 ]

-- in place of 8, a settled chart refuses by 10 (full) or 9 (no derivation)
abbrev pub missing_number : Chart → ℕ
missing_number c = elim c.full [ true ↦ 10 | false ↦ 9 ]

-- what it answers: a weight, 7, 9 or 10
abbrev pub settled_answer : Task → Chart → Phrase → Result ℕ ℕ
settled_answer t c p = elim (is_within t.last p) [ true ↦ ok_or (carried (edge_of p) c.places) (missing_number c) | false ↦ Err 7 ]
