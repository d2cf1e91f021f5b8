-- One step, by whether the chart is full and what is found lightest. Assumes nothing.
use Rattle.std.proofs.Common.{◌≡◌, ℕ, Bool, true, false, None, Some, Ok, Err, Option, Result, sym, refl, ap, ◌∙◌}
use Rattle.chart_model.specs.Task.{Task}
use Rattle.chart_model.specs.Plain.{Chart, lightest_open, completed, count_unless_full, step, step_answer}
use Rattle.chart_model.specs.declared.place.Entry.{Entry}
use Rattle.chart.specs.View.{room}

-- where edges are counted the chart is not full
pub count_unless_full_ok : (c : Chart) (n : ℕ) → Ok n ≡ count_unless_full c → c.full ≡ false
count_unless_full_ok c n e = go c.full e
  where
    go : (b : Bool) → Ok n ≡ elim b as (λ _. Result ℕ ℕ) [ true ↦ Err 10 | false ↦ Ok c.finished ] → b ≡ false
    go true e = cc
    go false e = refl

pub count_unless_full_err : (c : Chart) (n : ℕ) → Err n ≡ count_unless_full c → c.full ≡ true
count_unless_full_err c n e = go c.full e
  where
    go : (b : Bool) → Err n ≡ elim b as (λ _. Result ℕ ℕ) [ true ↦ Err 10 | false ↦ Ok c.finished ] → b ≡ true
    go true e = refl
    go false e = cc

module _ (t : Task) (c : Chart) where
  -- what a step leaves and answers
  pub record Steps (d : Chart) (answer : Result ℕ ℕ) : Type 0 where
    pub leaves : step t room c ≡ d
    pub answers : step_answer t room c ≡ answer

  abbrev moved : Bool → Option Entry → Chart
  moved b o = elim b as (λ _. Chart) [ true ↦ c | false ↦ elim o as (λ _. Chart) [ None ↦ c | Some s ↦ completed t room c s ] ]

  abbrev replied : Bool → Option Entry → Result ℕ ℕ
  replied b o = elim b as (λ _. Result ℕ ℕ) [ true ↦ Err 10 | false ↦ elim o as (λ _. Result ℕ ℕ) [ None ↦ Err 11 | Some s ↦ count_unless_full (completed t room c s) ] ]

  abbrev lightest : Option Entry
  lightest = lightest_open t.weights.lighter c.places

  pub full_steps : c.full ≡ true → Steps c (count_unless_full c)
  full_steps full =
      record {
        leaves = ap (λ b. moved b lightest) full;
        answers = ap (λ b. replied b lightest) full ∙ sym (ap (λ b. elim b as (λ _. Result ℕ ℕ) [ true ↦ Err 10 | false ↦ Ok c.finished ]) full);
      }

  steps_by : c.full ≡ false → (o : Option Entry) → o ≡ lightest → Steps (moved false o) (replied false o)
  steps_by unfilled o found =
      record {
        leaves = ap (λ b. moved b lightest) unfilled ∙ ap (moved false) (sym found);
        answers = ap (λ b. replied b lightest) unfilled ∙ ap (replied false) (sym found);
      }

  pub none_steps : c.full ≡ false → None ≡ lightest → Steps c (Err 11)
  none_steps unfilled found = steps_by unfilled None found

  pub some_steps : c.full ≡ false → (s : Entry) → Some s ≡ lightest → Steps (completed t room c s) (count_unless_full (completed t room c s))
  some_steps unfilled s found = steps_by unfilled (Some s) found
