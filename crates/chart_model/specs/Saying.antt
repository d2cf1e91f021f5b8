-- What each answer of a chart says of derivations: weights and refusals by number. Assumes nothing.
use Rattle.std.specs.Prelude.{◌≡◌, ℕ, ◌<◌, ◌≤◌, ◌↔◌, ◌⊎◌, List, ◌++◌, length, take, drop, Ok, Err, Result}
use Rattle.chart_model.specs.Task.{Task}
use Rattle.chart_model.specs.Derivation.{Derives, LiesWithin, Tree, tree_weight}
use Rattle.chart_model.specs.Listing.{tree_nodes}
use Rattle.chart_model.specs.Plain.{Chart, edge_of, working_answer, settled_answer}
use Rattle.chart_model.specs.Stands.{Carries, Unfinished, Weighs, NoneLighter, EdgesExceed, Reachable, Stopped}
use Rattle.chart_model.specs.Reading.{reading_answer, reading_list}
use Rattle.chart_model.specs.declared.node.Node.{Node}
use Rattle.chart_model.specs.declared.phrase.Phrase.{Phrase}

-- QUESTIONS

-- the span of the phrase is one of the lattice
abbrev pub Lies : Task → Phrase → Type 0
Lies t p = LiesWithin t.last (edge_of p)

-- what any chart's answer to a question says
pub record QuestionSays (t : Task) (c : Chart) (p : Phrase) (answer : Result ℕ ℕ) : Type 0 where
  -- 7 ⇔ no such span
  pub span : (answer ≡ Err 7) ↔ (Lies t p → ⊥)
  -- a weight ⇔ finished at that weight
  pub finished : (w : ℕ) → (answer ≡ Ok w) ↔ Carries c (edge_of p) w
  -- which is attained, and the least
  pub derived : (w : ℕ) → answer ≡ Ok w → Weighs t (edge_of p) w
  pub least : (w : ℕ) → answer ≡ Ok w → NoneLighter t (edge_of p) w

-- what a working chart's answer says besides
pub record WorkingSays (t : Task) (c : Chart) (p : Phrase) (answer : Result ℕ ℕ) : Type 0 where
  pub question : QuestionSays t c p answer
  -- 8 ⇔ in the lattice, and not finished
  pub not_finished : (answer ≡ Err 8) ↔ (Lies t p × Unfinished c (edge_of p))
  -- and no other number
  pub refusals : (number : ℕ) → answer ≡ Err number → (number ≡ 7) ⊎ (number ≡ 8)

-- what the answer of a settled chart of this capacity says besides
pub record SettledSays (t : Task) (capacity : ℕ) (c : Chart) (p : Phrase) (answer : Result ℕ ℕ) : Type 0 where
  pub question : QuestionSays t c p answer
  -- 10 ⇔ in the lattice, not finished, and derivable edges exceed the capacity
  pub full : (answer ≡ Err 10) ↔ (Lies t p × Unfinished c (edge_of p) × EdgesExceed t capacity)
  -- 9 ⇔ in the lattice, not derivable, and derivable edges do not exceed it
  pub no_derivation : (answer ≡ Err 9) ↔ (Lies t p × (EdgesExceed t capacity → ⊥) × (Derives t (edge_of p) → ⊥))
  -- and no other number
  pub refusals : (number : ℕ) → answer ≡ Err number → (number ≡ 7) ⊎ ((number ≡ 9) ⊎ (number ≡ 10))

-- READINGS

-- a derivation of a phrase
abbrev pub TreeOf : Task → Phrase → Type 0
TreeOf t p = Tree t p.symbol p.from p.to

-- the list begins with all n nodes of the derivation, and is as it was after them
abbrev pub AllListed : {t : Task} {p : Phrase} → TreeOf t p → List Node → List Node → ℕ → Type 0
AllListed d before after n = (n ≡ length (tree_nodes d)) × (n ≤ length before) × (after ≡ tree_nodes d ++ drop n before)

-- the list is too short, and holds as many of the nodes as fit
abbrev pub FirstListed : {t : Task} {p : Phrase} → TreeOf t p → List Node → List Node → Type 0
FirstListed d before after = (length before < length (tree_nodes d)) × (after ≡ take (length before) (tree_nodes d))

-- what a reading answers and leaves: where a question answers `Ok w`, a derivation of weight w, whole or cut (12);
-- where it is refused, the same refusal and an untouched list
abbrev pub Written : (t : Task) (p : Phrase) → List Node → List Node → Result ℕ ℕ → Result ℕ ℕ → Type 0
Written t p before after (Ok w) (Ok n) = (d : TreeOf t p) × (tree_weight d ≡ w) × AllListed d before after n
Written t p before after (Ok w) (Err number) = (d : TreeOf t p) × (tree_weight d ≡ w) × FirstListed d before after × (number ≡ 12)
Written t p before after (Err refusal) answer = (answer ≡ Err refusal) × (after ≡ before)

-- what a settled chart's reading says: all that the answer to the question says, and what was written
abbrev pub ReadingSays : Task → ℕ → Chart → Phrase → List Node → List Node → Result ℕ ℕ → Type 0
ReadingSays t capacity c p before after answer = (asked : Result ℕ ℕ) × SettledSays t capacity c p asked × Written t p before after asked answer

-- THE LAW OF ANSWERS: every answer of a reachable chart means what is said above
pub record LawOfAnswers (t : Task) : Type 0 where
  pub working : (c : Chart) → Reachable t c → (p : Phrase) → WorkingSays t c p (working_answer t c p)
  -- of a settled chart
  pub settled : (capacity : ℕ) (c : Chart) → Stopped t capacity c → (p : Phrase) →
      SettledSays t capacity c p (settled_answer t c p)
  -- into any list
  pub read : (capacity : ℕ) (c : Chart) → Stopped t capacity c → (p : Phrase) (before : List Node) →
      ReadingSays t capacity c p before (reading_list t c p before) (reading_answer t c p (length before))
