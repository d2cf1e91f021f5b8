-- Answers of a chart that is opened and settled in one call. Assumes nothing.
use Rattle.std.specs.Prelude.{◌≡◌, ℕ, List, Ok, Err, Result, IfOk}
use Rattle.std.specs.Result.{result_map_both}
use Rattle.chart_model.specs.Task.{Task}
use Rattle.chart_model.specs.Plain.{Chart, opened, settled, settled_answer}
use Rattle.chart_model.specs.Reading.{reading_answer, reading_list}
use Rattle.chart_model.specs.Saying.{SettledSays, Written}
use Rattle.chart_model.specs.declared.node.Node.{Node}
use Rattle.chart_model.specs.declared.phrase.Phrase.{Phrase}
use Rattle.chart.specs.declared.read.Listed.{Listed}
use Rattle.chart.specs.View.{room}

-- the chart that is opened and settled
abbrev pub whole : Task → Chart
whole t = settled t room (opened t room)

-- WEIGHED

abbrev pub weigh_answer : Task → Phrase → Result ℕ ℕ
weigh_answer t p = settled_answer t (whole t) p

abbrev pub WeighedSays : Task → Phrase → Result ℕ ℕ → Type 0
WeighedSays t p answer = SettledSays t room (whole t) p answer

-- READ

-- the weight beside the number of nodes
abbrev pub beside : ℕ → Result ℕ ℕ → Result Listed ℕ
beside w r = result_map_both (λ n. record { weight = w; nodes = n }) (λ e. e) r

-- the number of nodes alone
abbrev pub nodes_of : Result Listed ℕ → Result ℕ ℕ
nodes_of answer = result_map_both (λ (l : Listed). l.nodes) (λ e. e) answer

-- a settled chart's reading, with the weight beside it
abbrev pub listed_answer : Task → Chart → Phrase → ℕ → Result Listed ℕ
listed_answer t c p most = elim (settled_answer t c p) [ Ok w ↦ beside w (reading_answer t c p most) | Err number ↦ Err number ]

abbrev pub read_answer : Task → Phrase → ℕ → Result Listed ℕ
read_answer t p most = listed_answer t (whole t) p most

abbrev pub read_list : Task → Phrase → List Node → List Node
read_list t p before = reading_list t (whole t) p before

-- what it says: all that the answer to the question says, what was written, and that both name one weight
abbrev pub ListedSays : Task → Chart → Phrase → List Node → List Node → Result Listed ℕ → Type 0
ListedSays t c p before after answer =
    (asked : Result ℕ ℕ) × SettledSays t room c p asked × Written t p before after asked (nodes_of answer) × IfOk answer (λ l. asked ≡ Ok l.weight)

abbrev pub ReadSays : Task → Phrase → List Node → List Node → Result Listed ℕ → Type 0
ReadSays t p before after answer = ListedSays t (whole t) p before after answer
