-- What holds of each call of a run, gathered call by call. Assumes nothing.
use Rattle.std.proofs.Common.{◌≡◌, ℕ, ◌+◌, ◌<◌, List, [], ◌∷◌, ◌++◌, length, Some, Result, take, set, sym, subst}
use Rattle.std.specs.List.{AllByRecursion}
use Rattle.std.proofs.lemmas.List.{take_more_set}
use Rattle.chart_model.specs.Task.{Task}
use Rattle.chart_model.specs.Plain.{Chart}
use Rattle.chart_model.specs.Saying.{SettledSays}
use Rattle.chart_model.specs.declared.phrase.Phrase.{Phrase}
use Rattle.chart.specs.Calls.{FinalQuestion, AnswersTruly, AllTrue}
use Rattle.chart.specs.Refusals.{settled_number, by_number}
use Rattle.chart.specs.View.{room}
use Rattle.chart.specs.declared.refusal.SettledRefusal.{SettledRefusal}

-- one element more
all_more : {X : Type 0} (P : X → Type 0) (xs : List X) (x : X) → AllByRecursion P xs → P x → AllByRecursion P (xs ++ x ∷ [])
all_more P [] x all one = (one, tt)
all_more P (y ∷ xs) x (first, all) one = (first, all_more P xs x all one)

pub all_next : {X : Type 0} (P : X → Type 0) (xs : List X) (i : ℕ) (x : X) → i < length xs →
    AllByRecursion P (take i xs) → P x → AllByRecursion P (take (i + 1) (set xs i x))
all_next P xs i x within all one = subst (AllByRecursion P) (sym (take_more_set xs i x within)) (all_more P (take i xs) x all one)

-- one question more, truly answered
pub truth_next : (t : Task) (c : Chart) (questions : List FinalQuestion) (i : ℕ) (p : Phrase) (r : Result ℕ SettledRefusal) → i < length questions →
    AllTrue t c (take i questions) → SettledSays t room c p (by_number settled_number r) →
    AllTrue t c (take (i + 1) (set questions i (record { phrase = p; answer = Some r })))
truth_next t c questions i p r within so_far says = all_next (AnswersTruly t c) questions i (record { phrase = p; answer = Some r }) within so_far one
  where
    one : AnswersTruly t c (record { phrase = p; answer = Some r })
    one a e = let same : r ≡ a = cc in subst (λ (x : Result ℕ SettledRefusal). SettledSays t room c p (by_number settled_number x)) same says
