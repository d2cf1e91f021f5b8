-- The numbers of a chart's refusals. Assumes nothing.
use Rattle.std.specs.Prelude.{ℕ, Result}
use Rattle.std.specs.Result.{result_map_both}
use Rattle.chart.specs.declared.refusal.StepRefusal.{StepRefusal}
use Rattle.chart.specs.declared.refusal.StepRefusal.TheVariants as Step
use Rattle.chart.specs.declared.refusal.QuestionRefusal.{QuestionRefusal}
use Rattle.chart.specs.declared.refusal.QuestionRefusal.TheVariants as Question
use Rattle.chart.specs.declared.refusal.SettledRefusal.{SettledRefusal}
use Rattle.chart.specs.declared.refusal.SettledRefusal.TheVariants as Settled
use Rattle.chart.specs.declared.refusal.ReadingRefusal.{ReadingRefusal}
use Rattle.chart.specs.declared.refusal.ReadingRefusal.TheVariants as Reading

abbrev pub step_number : StepRefusal → ℕ
step_number Step.Full = 10
step_number Step.NothingOpen = 11

abbrev pub question_number : QuestionRefusal → ℕ
question_number Question.NoSpan = 7
question_number Question.NotFinished = 8

abbrev pub settled_number : SettledRefusal → ℕ
settled_number Settled.NoSpan = 7
settled_number Settled.NoDerivation = 9
settled_number Settled.Full = 10

abbrev pub reading_number : ReadingRefusal → ℕ
reading_number (Reading.Unanswered refusal) = settled_number refusal
reading_number Reading.TooShort = 12

-- a question's refusal as a reading's
abbrev pub as_reading : SettledRefusal → ReadingRefusal
as_reading refusal = Reading.Unanswered refusal

-- an answer with the number of its refusal
abbrev pub by_number : {A E : Type 0} → (E → ℕ) → Result A E → Result A ℕ
by_number number r = result_map_both (λ a. a) number r
