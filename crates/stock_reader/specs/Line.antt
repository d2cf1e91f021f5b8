-- The answer to a text, stage by stage: its form, its words, its derivations. Assumes nothing.
use Rattle.std.specs.Prelude.{◌≡◌, ⊤, ℕ, ◌<◌, ◌↔◌, ◌⊎◌, true, false, List, length, Some, None, Option, Ok, Err, Result, nat_le}
use Rattle.std.specs.Result.{result_map_both}
use Rattle.weighings.specs.Weighings.{sum_weights}
use Rattle.grammars.specs.Count.{line, count_rules}
use Rattle.lattice.specs.declared.word.Word.{Word}
use Rattle.lattice.specs.Checking.{words_refusal}
use Rattle.lattice.specs.Faults.{lattice_number_and_place}
use Rattle.lattices.specs.Heard.{largest_end}
use Rattle.line_format.specs.Faults.{form_number}
use Rattle.line_format.specs.Lines.{text_words}
use Rattle.chart_model.specs.Task.{Task}
use Rattle.chart_model.specs.Derivation.{tree_weight, Derives}
use Rattle.chart_model.specs.Listing.{tree_nodes}
use Rattle.chart_model.specs.Plain.{Chart as PlainChart, edge_of, settled_answer}
use Rattle.chart_model.specs.Reading.{reading}
use Rattle.chart_model.specs.Saying.{TreeOf}
use Rattle.chart_model.specs.Stands.{Unfinished, NoneLighter, EdgesExceed}
use Rattle.chart_model.specs.declared.edge.Edge.{Edge}
use Rattle.chart_model.specs.declared.node.Node.{Node}
use Rattle.chart_model.specs.declared.phrase.Phrase.{Phrase}
use Rattle.chart.specs.Saying.{whole}
use Rattle.chart.specs.View.{room}
use Rattle.stock_reader.specs.declared.parse.Parse.{Parse}
use Rattle.stock_reader.specs.declared.refusal.Refusal.{Refusal}
use Rattle.stock_reader.specs.declared.refusal.Refusal.TheVariants.{Form, Lattice, Chart}

-- words, read by the stock counts and sums
abbrev pub line_task : List Word → Task
line_task ws = record { rules = count_rules; last = largest_end ws; words = ws; weights = sum_weights }

-- the symbol of a line, from node 0 to the last
abbrev pub line_phrase : List Word → Phrase
line_phrase ws = record { symbol = line; from = 0; to = largest_end ws }

abbrev pub whole_line : List Word → Edge
whole_line ws = edge_of (line_phrase ws)

-- their settled chart
abbrev pub line_chart : List Word → PlainChart
line_chart ws = whole (line_task ws)

-- the most nodes of a reading
abbrev pub most_nodes : ℕ
most_nodes = 256

-- a parse by its fields
abbrev pub WeightAndNodes : Type 0
WeightAndNodes = ℕ × List Node

abbrev pub weight_and_nodes : Parse → WeightAndNodes
weight_and_nodes r = (r.weight, r.nodes.items)

-- an answer, its refusal by number
abbrev pub line_by_number : {E : Type 0} → (E → ℕ) → Result Parse E → Result WeightAndNodes ℕ
line_by_number number result = result_map_both weight_and_nodes number result

-- the parse of this weight and these nodes; 12 if they are too many
abbrev pub fitting : ℕ → List Node → Result WeightAndNodes ℕ
fitting w ns = elim (nat_le (length ns) most_nodes) [ true ↦ Ok (w, ns) | false ↦ Err 12 ]

-- the answer to words that make a lattice
abbrev pub line_parse : List Word → Result WeightAndNodes ℕ
line_parse ws =
    elim (settled_answer (line_task ws) (line_chart ws) (line_phrase ws)) [
      | Ok w ↦ fitting w (reading (line_chart ws).places (whole_line ws))
      | Err number ↦ Err number
    ]

-- the answer to any words
abbrev pub words_parse : List Word → Result WeightAndNodes ℕ
words_parse ws = elim (words_refusal ws) [ None ↦ line_parse ws | Some refusal ↦ Err refusal.0 ]

-- the answer to any text
abbrev pub text_parse : List ℕ → Result WeightAndNodes ℕ
text_parse text = elim (text_words text) [ Ok ws ↦ words_parse ws | Err number ↦ Err number ]

-- of the words of a text, if it is of the form
abbrev pub WritesWords : List ℕ → (List Word → Type 0) → Type 0
WritesWords text So = (ws : List Word) → text_words text ≡ Ok ws → So ws

-- of them, if they make a lattice
abbrev pub WritesLattice : List ℕ → (List Word → Type 0) → Type 0
WritesLattice text So = WritesWords text (λ ws. words_refusal ws ≡ None → So ws)

-- WHAT AN ANSWER SAYS OF DERIVATIONS

abbrev pub LineTree : List Word → Type 0
LineTree ws = TreeOf (line_task ws) (line_phrase ws)

-- what the answer to words that make a lattice says
pub record LineSays (ws : List Word) (answer : Result WeightAndNodes ℕ) : Type 0 where
  -- a parse is a derivation of this weight, with these nodes; and no other is lighter
  pub read : (w : ℕ) (ns : List Node) → answer ≡ Ok (w, ns) →
      (d : LineTree ws) × (tree_weight d ≡ w) × (tree_nodes d ≡ ns) × NoneLighter (line_task ws) (whole_line ws) w
  -- 12: the lightest derivation has too many nodes
  pub too_long : answer ≡ Err 12 →
      (d : LineTree ws) × NoneLighter (line_task ws) (whole_line ws) (tree_weight d) × (most_nodes < length (tree_nodes d))
  -- 9 ⇔ no derivation, and derivable edges do not exceed the room
  pub no_derivation : (answer ≡ Err 9) ↔ ((Derives (line_task ws) (whole_line ws) → ⊥) × (EdgesExceed (line_task ws) room → ⊥))
  -- 10 ⇔ not finished, and derivable edges exceed the room
  pub full : (answer ≡ Err 10) ↔ (Unfinished (line_chart ws) (whole_line ws) × EdgesExceed (line_task ws) room)
  -- and no other number
  pub refusals : (number : ℕ) → answer ≡ Err number → (number ≡ 9) ⊎ ((number ≡ 10) ⊎ (number ≡ 12))

-- WHICH STAGE REFUSES

-- the form, by this number
abbrev pub RefusesForm : Result Parse Refusal → ℕ → Type 0
RefusesForm (Err (Form fault)) number = form_number fault ≡ number
RefusesForm (Err (Lattice fault)) number = ⊥
RefusesForm (Err (Chart refusal)) number = ⊥
RefusesForm (Ok r) number = ⊥

-- the words, by this number and place
abbrev pub RefusesWords : Result Parse Refusal → ℕ × Option ℕ → Type 0
RefusesWords (Err (Lattice fault)) refusal = lattice_number_and_place fault ≡ refusal
RefusesWords (Err (Form fault)) refusal = ⊥
RefusesWords (Err (Chart other)) refusal = ⊥
RefusesWords (Ok r) refusal = ⊥

-- neither: it is the chart that answers
abbrev pub Charted : Result Parse Refusal → Type 0
Charted (Ok r) = ⊤
Charted (Err (Chart refusal)) = ⊤
Charted (Err (Form fault)) = ⊥
Charted (Err (Lattice fault)) = ⊥
