-- Worked cases: small tasks, and what a chart of 1,024 places makes of them. Assumes nothing.
use Rattle.std.specs.Prelude.{◌≡◌, ℕ, ◌≤◌, List, [], ◌∷◌, length, map, Ok, Err, Result, refl}
use Rattle.std.proofs.Common.{lit≤}
use Rattle.weighing.specs.Laws.{Weights}
use Rattle.weighings.specs.Weighings.{sum_weights, worst_weights, chance_weights}
use Rattle.grammar.specs.Rules.{Rule}
use Rattle.grammars.specs.Count.{line, part, num, gap, one, two, box, open_word, rewrites, count_rules}
use Rattle.grammars.specs.Penalties.{penalized}
use Rattle.lattice.specs.declared.word.Word.{Word}
use Rattle.lattices.specs.Heard.{largest_end}
use Rattle.lattices.specs.Typed.{typed_words}
use Rattle.chart_model.specs.Task.{Task}
use Rattle.chart_model.specs.Derivation.{Tree, word, rule, none, more, tree_weight}
use Rattle.chart_model.specs.Listing.{node, tree_nodes}
use Rattle.chart_model.specs.Plain.{Chart, opened, step_answer, steps, settled, edge_of, working_answer, settled_answer}
use Rattle.chart_model.specs.Reading.{reading}
use Rattle.chart_model.specs.declared.node.Kind.TheVariants.{Word as Heard, Rule as ByRule}
use Rattle.chart_model.specs.declared.node.Node.{Node}
use Rattle.chart_model.specs.declared.origin.Origin.{Origin}
use Rattle.chart_model.specs.declared.origin.Origin.TheVariants.{Word as FromWord, First}
use Rattle.chart_model.specs.declared.phrase.Phrase.{Phrase}

-- TASKS

abbrev pub heard : ℕ → ℕ → ℕ → ℕ → Word
heard from to symbol mark = record { from = from; to = to; symbol = symbol; mark = mark }

abbrev pub over_words : List Rule → List Word → Weights → Task
over_words rules words weights =
    record { rules = rules; last = largest_end words; words = words; weights = weights }

abbrev pub over_bytes : List Rule → List ℕ → Weights → Task
over_bytes rules bytes weights =
    record { rules = rules; last = length bytes; words = typed_words bytes; weights = weights }

-- "two box open one"
abbrev pub two_boxes : List Rule → Weights → Task
two_boxes rules weights =
    over_words rules (heard 0 1 two 10 ∷ heard 1 2 box 20 ∷ heard 2 3 open_word 30 ∷ heard 3 4 one 40 ∷ []) weights

abbrev pub no_words : Task
no_words = over_words count_rules [] sum_weights

-- a symbol that derives itself
abbrev pub round : Task
round =
    over_words (rewrites 5 (5 ∷ []) 0 ∷ rewrites 5 (9 ∷ []) 7 ∷ []) (heard 0 1 9 5 ∷ []) sum_weights

-- a symbol of two empty ones
abbrev pub two_empties : Task
two_empties =
    over_bytes (rewrites 5 (6 ∷ 6 ∷ []) 1 ∷ rewrites 6 [] 2 ∷ []) [] sum_weights

-- one word heard twice, with these marks
abbrev pub echo : ℕ → ℕ → Task
echo first second = over_words [] (heard 0 1 9 first ∷ heard 0 1 9 second ∷ []) sum_weights

-- a phrase
abbrev pub about : ℕ → ℕ → ℕ → Phrase
about symbol from to = record { symbol = symbol; from = from; to = to }

-- DERIVATIONS of "two box open one" by the stock counts, with doubts added up

abbrev pub count_line : Task
count_line = two_boxes count_rules sum_weights

-- "two", "one", and the empty gap between two parts
abbrev number_two : Tree count_line num 0 1
number_two = rule 7 _ refl (more (word 0 _ refl) (none (lit≤ tt)))

abbrev number_one : Tree count_line num 3 4
number_one = rule 6 _ refl (more (word 3 _ refl) (none (lit≤ tt)))

abbrev gap_at : (i : ℕ) → i ≤ 4 → Tree count_line gap i i
gap_at i within = rule 9 _ refl (none within)

-- a line of two parts, with the empty gap between them
abbrev two_parts : {i : ℕ} → i ≤ 4 → Tree count_line part 0 i → Tree count_line part i 4 → Tree count_line line 0 4
two_parts {i} within first second =
    rule 1 _ refl (more (rule 0 _ refl (more first (none within))) (more (gap_at i within) (more second (none (lit≤ tt)))))

-- two boxes, and an open one
abbrev pub one_open : Tree count_line line 0 4
one_open =
    two_parts (lit≤ tt)
    (rule 2 _ refl (more number_two (more (word 1 _ refl) (none (lit≤ tt)))))
    (rule 3 _ refl (more (word 2 _ refl) (more number_one (none (lit≤ tt)))))

-- its rival: two open boxes, and one more
abbrev pub two_open : Tree count_line line 0 4
two_open =
    two_parts (lit≤ tt)
    (rule 4 _ refl (more number_two (more (word 1 _ refl) (more (word 2 _ refl) (none (lit≤ tt))))))
    (rule 5 _ refl (more number_one (none (lit≤ tt))))

-- CASES

pub data Case : Type 0 where
  -- what a settled chart answers about a phrase
  settles : Task → Phrase → Result ℕ ℕ → Case
  -- the nodes of its reading
  reads : Task → Phrase → List Node → Case
  -- what a working chart answers after so many steps
  works : Task → ℕ → Phrase → Result ℕ ℕ → Case
  -- what the step after so many answers
  steps_on : Task → ℕ → Result ℕ ℕ → Case
  -- the origins in a settled chart, place by place
  comes_from : Task → List Origin → Case
  -- what a derivation weighs
  weighs : {t : Task} {x i j : ℕ} → Tree t x i j → ℕ → Case
  -- what a weight is
  amounts : ℕ → ℕ → Case

abbrev pub room : ℕ
room = 1024

-- the chart of a task after so many steps, and settled
abbrev pub after : Task → ℕ → Chart
after t n = steps t room n (opened t room)

abbrev pub final_chart : Task → Chart
final_chart t = settled t room (opened t room)

abbrev pub ComesOut : Case → Type 0
ComesOut (settles t p answer) = settled_answer t (final_chart t) p ≡ answer
ComesOut (reads t p nodes) = reading (final_chart t).places (edge_of p) ≡ nodes
ComesOut (works t n p answer) = working_answer t (after t n) p ≡ answer
ComesOut (steps_on t n answer) = step_answer t room (after t n) ≡ answer
ComesOut (comes_from t origins) = map (λ p. p.origin) (final_chart t).places ≡ origins
ComesOut (weighs derivation weight) = tree_weight derivation ≡ weight
ComesOut (amounts a b) = a ≡ b

abbrev pub cases : List Case
cases =
    -- two boxes, open one: the lighter of two derivations
    settles count_line (about line 0 4) (Ok 109)
    ∷ weighs one_open 109
    ∷ weighs two_open 117
    ∷ reads count_line (about line 0 4) (tree_nodes one_open)
    ∷ reads count_line (about line 0 4) (
    node ByRule 1 0 4 ∷ node ByRule 0 0 2 ∷ node ByRule 2 0 2 ∷ node ByRule 7 0 1
    ∷ node Heard 0 0 1 ∷ node Heard 1 1 2 ∷ node ByRule 9 2 2 ∷ node ByRule 3 2 4
    ∷ node Heard 2 2 3 ∷ node ByRule 6 3 4 ∷ node Heard 3 3 4 ∷ [])
    -- by the worst mark alone
    ∷ settles (two_boxes count_rules worst_weights) (about line 0 4) (Ok 40)
    -- by the chance that all marks leave
    ∷ settles (two_boxes count_rules chance_weights) (about line 0 4) (Ok 2143914145)
    -- with a penalty of 20 on each of two parts
    ∷ settles (two_boxes (penalized part 20 count_rules) sum_weights) (about line 0 4) (Ok 149)
    -- without words: the empty gap, but no line; after one step nothing is open
    ∷ settles no_words (about gap 0 0) (Ok 0)
    ∷ settles no_words (about line 0 0) (Err 9)
    ∷ steps_on no_words 0 (Ok 1)
    ∷ steps_on no_words 1 (Err 11)
    -- the cycle never pays: 5 comes by its second rule, from the word
    ∷ settles round (about 5 0 1) (Ok 12)
    ∷ comes_from round (FromWord 0 ∷ First 1 0 ∷ [])
    ∷ reads round (about 5 0 1) (node ByRule 1 0 1 ∷ node Heard 0 0 1 ∷ [])
    -- the empty symbol, the rule with the first of the two, and then the symbol of both
    ∷ works two_empties 2 (about 5 0 0) (Err 8)
    ∷ works two_empties 3 (about 5 0 0) (Ok 5)
    ∷ reads two_empties (about 5 0 0) (node ByRule 0 0 0 ∷ node ByRule 1 0 0 ∷ node ByRule 1 0 0 ∷ [])
    -- the lighter word wins, and in a tie the first
    ∷ settles (echo 9 4) (about 9 0 1) (Ok 4)
    ∷ comes_from (echo 9 4) (FromWord 1 ∷ [])
    ∷ reads (echo 9 4) (about 9 0 1) (node Heard 1 0 1 ∷ [])
    ∷ settles (echo 4 4) (about 9 0 1) (Ok 4)
    ∷ comes_from (echo 4 4) (FromWord 0 ∷ [])
    ∷ reads (echo 4 4) (about 9 0 1) (node Heard 0 0 1 ∷ [])
    -- half a chance, half of a half, and next to none twice
    ∷ amounts (chance_weights.weigh 32768) 1073741824
    ∷ amounts (chance_weights.join 1073741824 1073741824) 536870912
    ∷ amounts (chance_weights.join (chance_weights.weigh 65535) (chance_weights.weigh 65535)) 0
    ∷ []
