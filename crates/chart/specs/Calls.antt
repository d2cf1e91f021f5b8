-- Lists of calls: their answers, the chart that they leave, and what the answers say of derivations. Assumes nothing.
use Rattle.std.specs.Prelude.{◌≡◌, ⊤, ℕ, Bool, true, false, List, [], ◌∷◌, fold, ◌⊎◌, Some, None, Ok, Option, Result}
use Rattle.std.specs.List.{AllByRecursion, AllZip}
use Rattle.std.specs.Borrow.{MutBor}
use Rattle.std.proofs.Common.{inl, inr}
use Rattle.chart_model.specs.Task.{Task}
use Rattle.chart_model.specs.Plain.{Chart, edge_of, opened, step, step_answer, settled, working_answer, settled_answer}
use Rattle.chart_model.specs.Stands.{Weighs, NoneLighter}
use Rattle.chart_model.specs.Saying.{SettledSays}
use Rattle.chart_model.specs.declared.phrase.Phrase.{Phrase}
use Rattle.chart.specs.declared.refusal.StepRefusal.{StepRefusal}
use Rattle.chart.specs.declared.refusal.QuestionRefusal.{QuestionRefusal}
use Rattle.chart.specs.declared.refusal.SettledRefusal.{SettledRefusal}
use Rattle.chart.specs.declared.call.Call.{Call}
use Rattle.chart.specs.declared.call.Call.TheVariants.{Step, Question as Asks}
use Rattle.chart.specs.declared.call.Question.{Question}
use Rattle.chart.specs.Refusals.{step_number, question_number, settled_number, by_number}
use Rattle.chart.specs.View.{room}

-- a question to a settled chart
abbrev pub FinalQuestion : Type 0
FinalQuestion = Question SettledRefusal

-- IN TURN

-- element by element, one list has become the other, while `next` moves the state on
abbrev pub InTurn : {X C : Type 0} → (C → X → C) → (C → X → X → Type 0) → C → List X → List X → Type 0
InTurn next becomes c [] [] = ⊤
InTurn next becomes c [] (y ∷ ys) = ⊥
InTurn next becomes c (x ∷ xs) [] = ⊥
InTurn next becomes c (x ∷ xs) (y ∷ ys) = becomes c x y × InTurn next becomes (next c x) xs ys

-- CALLS AND ANSWERS

-- only a step moves a chart on
abbrev pub after_call : Task → Chart → Call → Chart
after_call t c (Step a) = step t room c
after_call t c (Asks q) = c

abbrev pub after_calls : Task → Chart → List Call → Chart
after_calls t c calls = fold (after_call t) c calls

-- the question, now with its answer, whose refusal has the right number
abbrev pub Answered : {E : Type 0} → (E → ℕ) → (Phrase → Result ℕ ℕ) → Question E → Question E → Type 0
Answered {E = E} number answer q asked =
    (r : Result ℕ E) × (asked ≡ record { phrase = q.phrase; answer = Some r }) × (by_number number r ≡ answer q.phrase)

-- the call, now with the answer of this chart
abbrev pub Made : Task → Chart → Call → Call → Type 0
Made t c (Step a) made = (r : Result ℕ StepRefusal) × (made ≡ Step (Some r)) × (by_number step_number r ≡ step_answer t room c)
Made t c (Asks q) made = (asked : Question QuestionRefusal) × (made ≡ Asks asked) × Answered question_number (working_answer t c) q asked

-- all calls in turn, the first at this chart
abbrev pub AllMade : Task → Chart → List Call → List Call → Type 0
AllMade t c calls made = InTurn (after_call t) (Made t) c calls made

-- the question, now with the answer of this settled chart
abbrev pub Asked : Task → Chart → FinalQuestion → FinalQuestion → Type 0
Asked t c q made = Answered settled_number (settled_answer t c) q made

abbrev pub AllAsked : Task → Chart → List FinalQuestion → List FinalQuestion → Type 0
AllAsked t c questions made = AllZip (Asked t c) questions made

-- what a run leaves
abbrev pub run_chart : Task → List Call → Bool → Chart
run_chart t calls settles =
    let c = after_calls t (opened t room) calls in
    elim settles [ true ↦ settled t room c | false ↦ c ]

-- of lent questions, before and after, if any are lent
abbrev pub Lent : (List FinalQuestion → List FinalQuestion → Type 0) → Option (MutBor (List FinalQuestion)) →
    Unit {0} ⊎ ((MutBor (List FinalQuestion) × Unit {0}) ⊎ ⊥) → Type 0
Lent So None left = Unit {0}
Lent So (Some before) (inr (inl after)) = So before.now after.0.now
Lent So (Some before) _ = ⊥

-- WHAT THE ANSWERS SAY OF DERIVATIONS

-- an answered weight is attained, and the least
abbrev pub AnswersLightest : Task → Call → Type 0
AnswersLightest t (Step a) = ⊤
AnswersLightest t (Asks q) = (w : ℕ) → q.answer ≡ Some (Ok w) → Weighs t (edge_of q.phrase) w × NoneLighter t (edge_of q.phrase) w

abbrev pub AllLightest : Task → List Call → Type 0
AllLightest t calls = AllByRecursion (AnswersLightest t) calls

-- an answer of the settled chart means what `SettledSays` defines
abbrev pub AnswersTruly : Task → Chart → FinalQuestion → Type 0
AnswersTruly t c q = (r : Result ℕ SettledRefusal) → q.answer ≡ Some r → SettledSays t room c q.phrase (by_number settled_number r)

abbrev pub AllTrue : Task → Chart → List FinalQuestion → Type 0
AllTrue t c questions = AllByRecursion (AnswersTruly t c) questions
