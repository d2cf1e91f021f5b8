-- Steps until one is refused. Assumes nothing.
use Rattle.std.proofs.Common.{◌≡◌, ℕ, zero, suc, ◌+◌, ◌≤◌, Bool, true, false, ◌||◌, ◌⊎◌, Some, None, Ok, Err, Option, Result, is_none, is_ok, sym, refl, ap, ◌∙◌, inl, inr, arith}
use Rattle.std.proofs.lemmas.Bool.{true≢false, false≢true}
use Rattle.chart_model.specs.Task.{Task}
use Rattle.chart_model.specs.Plain.{Chart, finishing, arrivals, lightest_open, count_unless_full, step, step_answer, steps, stopped, settled}
use Rattle.chart_model.specs.declared.place.Entry.{Entry}
use Rattle.chart_model.proofs.Arriving.{arrive_all_count}
use Rattle.chart.specs.Refusals.{step_number, by_number}
use Rattle.chart.specs.View.{room}
use Rattle.chart.specs.declared.refusal.StepRefusal.{StepRefusal}
use Rattle.chart.proofs.Advancing.{full_steps, none_steps, some_steps, count_unless_full_err}

-- an answer by number is a count of edges, or the number of a refusal
pub by_number_ok : (r : Result ℕ StepRefusal) (answer : Result ℕ ℕ) → is_ok r ≡ true → by_number step_number r ≡ answer → (n : ℕ) × (Ok n ≡ answer)
by_number_ok (Ok n) answer ok said = (n, said)
by_number_ok (Err e) answer ok said = absurd (false≢true ok)

pub by_number_err : (r : Result ℕ StepRefusal) (answer : Result ℕ ℕ) → is_ok r ≡ false → by_number step_number r ≡ answer → (n : ℕ) × (Err n ≡ answer)
by_number_err (Ok n) answer err said = absurd (true≢false err)
by_number_err (Err e) answer err said = (step_number e, said)

module _ (t : Task) where
  -- a stopped chart is refused a step, which changes nothing
  record Idle (c : Chart) : Type 0 where
    pub stopped : stopped t c ≡ true
    pub same : step t room c ≡ c
    pub number : ℕ
    pub refused : step_answer t room c ≡ Err number

  -- a step of any other finishes one edge more, and is refused if the chart is full then
  record Busy (c : Chart) : Type 0 where
    pub stopped : stopped t c ≡ false
    pub more : (step t room c).finished ≡ suc c.finished
    pub answers : step_answer t room c ≡ count_unless_full (step t room c)

  full_stopped : (c : Chart) → c.full ≡ true → stopped t c ≡ true
  full_stopped c full = ap (λ b. b || is_none (lightest_open t.weights.lighter c.places)) full

  ways : (c : Chart) → Idle c ⊎ Busy c
  ways c = go c.full refl
    where
      found : c.full ≡ false → (o : Option Entry) → lightest_open t.weights.lighter c.places ≡ o → stopped t c ≡ is_none o
      found unfilled o is = ap (λ b. b || is_none (lightest_open t.weights.lighter c.places)) unfilled ∙ ap is_none is

      either : c.full ≡ false → (o : Option Entry) → lightest_open t.weights.lighter c.places ≡ o → Idle c ⊎ Busy c
      either unfilled None is =
          let it = none_steps t c unfilled (sym is) in
          inl (record { stopped = found unfilled None is; same = it.leaves; number = 11; refused = it.answers })
      either unfilled (Some s) is =
          let it = some_steps t c unfilled s (sym is) in
          let d = finishing c s.at in
          inr (record {
            stopped = found unfilled (Some s) is;
            more = ap (λ (x : Chart). x.finished) it.leaves ∙ arrive_all_count room t.weights.lighter (arrivals t s d.places) d;
            answers = it.answers ∙ ap count_unless_full (sym it.leaves);
          })

      go : (b : Bool) → c.full ≡ b → Idle c ⊎ Busy c
      go true full =
          let it = full_steps t c full in
          inl (record {
            stopped = full_stopped c full;
            same = it.leaves;
            number = 10;
            refused = it.answers ∙ ap (λ b. elim b as (λ _. Result ℕ ℕ) [ true ↦ Err 10 | false ↦ Ok c.finished ]) full;
          })
      go false unfilled = either unfilled (lightest_open t.weights.lighter c.places) refl

  stays : (c : Chart) → stopped t c ≡ true → step t room c ≡ c
  stays c h = go (ways c)
    where
      go : Idle c ⊎ Busy c → step t room c ≡ c
      go (inl idle) = idle.same
      go (inr busy) = absurd (false≢true (sym busy.stopped ∙ h))

  stay : (n : ℕ) (c : Chart) → stopped t c ≡ true → steps t room n c ≡ c
  unfolding steps
  stay zero c h = refl
  stay (suc n) c h = ap (steps t room n) (stays c h) ∙ stay n c h

  one_more : (n : ℕ) (c : Chart) → steps t room (suc n) c ≡ steps t room n (step t room c)
  unfolding steps
  one_more n c = refl

  -- a step that is not refused finishes one edge more
  pub goes_on : (c d : Chart) (n : ℕ) → d ≡ step t room c → Ok n ≡ step_answer t room c → d.finished ≡ suc c.finished
  goes_on c d n next answer = go (ways c)
    where
      go : Idle c ⊎ Busy c → d.finished ≡ suc c.finished
      go (inl idle) = let refused = idle.refused in cc
      go (inr busy) = ap (λ (x : Chart). x.finished) next ∙ busy.more

  -- what a refused step leaves is stopped; it changed nothing, or finished one edge more
  ends : (c d : Chart) (n : ℕ) → d ≡ step t room c → Err n ≡ step_answer t room c → (stopped t d ≡ true) × ((d ≡ c) ⊎ (d.finished ≡ suc c.finished))
  ends c d n next answer = go (ways c)
    where
      go : Idle c ⊎ Busy c → (stopped t d ≡ true) × ((d ≡ c) ⊎ (d.finished ≡ suc c.finished))
      go (inl idle) = (ap (stopped t) (next ∙ idle.same) ∙ idle.stopped, inl (next ∙ idle.same))
      go (inr busy) =
          let full = count_unless_full_err (step t room c) n (answer ∙ busy.answers) in
          (ap (stopped t) next ∙ full_stopped (step t room c) full, inr (ap (λ (x : Chart). x.finished) next ∙ busy.more))

  -- with so many steps still to take, the settled chart is the same
  pub record Settles (before c : Chart) : Type 0 where
    pub left : ℕ
    pub sum : left + c.finished ≡ room + before.finished
    pub gives : steps t room left c ≡ settled t room before

  module _ (before c d : Chart) (so_far : Settles before c) (next : d ≡ step t room c) (most : d.finished ≤ room) where
    one_less : d.finished ≡ suc c.finished → Settles before d
    one_less more = go so_far.left so_far.sum so_far.gives
      where
        go : (left : ℕ) → left + c.finished ≡ room + before.finished → steps t room left c ≡ settled t room before → Settles before d
        go zero sum gives = absurd (omega arith)
        go (suc n) sum gives = record { left = n; sum = omega arith; gives = ap (steps t room n) next ∙ sym (one_more n c) ∙ gives }

    pub settles_on : (n : ℕ) → Ok n ≡ step_answer t room c → Settles before d
    settles_on n answer = one_less (goes_on c d n next answer)

    pub settles_at : (n : ℕ) → Err n ≡ step_answer t room c → (d ≡ settled t room before) × (stopped t d ≡ true)
    settles_at n answer = let (halted, how) = ends c d n next answer in (go halted how, halted)
      where
        there : stopped t d ≡ true → Settles before d → d ≡ settled t room before
        there halted it = sym (stay it.left d halted) ∙ it.gives

        go : stopped t d ≡ true → (d ≡ c) ⊎ (d.finished ≡ suc c.finished) → d ≡ settled t room before
        go halted (inl same) = sym (stay so_far.left d halted) ∙ ap (steps t room so_far.left) same ∙ so_far.gives
        go halted (inr more) = there halted (one_less more)
