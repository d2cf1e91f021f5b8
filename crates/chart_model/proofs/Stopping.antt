-- A chart keeps to its capacity, and stops by as many steps. Assumes nothing.
use Rattle.std.proofs.Common.{◌≡◌, ℕ, zero, suc, ◌+◌, ◌≤◌, Bool, true, false, ◌||◌, ◌⊎◌, length, Some, None, Err, Option, Result, is_none, sym, refl, ap, ◌∙◌, subst, inl, inr, arith}
use Rattle.std.proofs.lemmas.Bool.{true≢false, false≢true}
use Rattle.chart_model.specs.Task.{Task, Sound}
use Rattle.chart_model.specs.Plain.{Chart, is_open, entry, blank, first_arrivals, lightest_open, arrivals, finishing, completed, count_unless_full, step, step_answer, steps, stopped, stop_number, opened, done}
use Rattle.chart_model.specs.Stands.{Fits}
use Rattle.chart_model.specs.declared.place.Place.{Place}
use Rattle.chart_model.specs.declared.place.Entry.{Entry}
use Rattle.chart_model.proofs.Members.{In, nth_in}
use Rattle.chart_model.proofs.Done.{open_left}
use Rattle.chart_model.proofs.Arriving.{arrive_all_done, arrive_all_fits}
use Rattle.chart_model.proofs.Lightest.{Finds, lightest_finds, lightest_stands}
use Rattle.chart_model.proofs.Finishing.{finish_length, finish_done}
use Rattle.chart_model.proofs.Invariant.{Inv, inv_coded}
use Rattle.chart_model.proofs.Stepping.{Chosen, step_cases, inv_step}

-- CAPACITY

pub fits_opened : (t : Task) (capacity : ℕ) → Fits capacity (opened t capacity)
fits_opened t capacity =
    arrive_all_fits capacity t.weights.lighter (first_arrivals t) blank
    (record { within = omega arith; taken = λ f. absurd (true≢false (sym f)) })

pub fits_step : (t : Task) → Sound t → (capacity : ℕ) (c : Chart) → Inv t c → Fits capacity c → Fits capacity (step t capacity c)
fits_step t s capacity c inv fits =
    step_cases t s capacity c (inv_coded t s c inv) (Fits capacity) (λ _. fits)
    (λ n p chosen.
    arrive_all_fits capacity t.weights.lighter (arrivals t (entry n p) (finishing c n).places) (finishing c n)
    (record {
      within = subst (λ m. m ≤ capacity) (sym (finish_length (suc c.finished) n c.places)) fits.within;
      taken = λ f. absurd (true≢false (sym f ∙ chosen.not_full));
    }))

pub fits_steps : (t : Task) → Sound t → (capacity n : ℕ) (c : Chart) → Inv t c → Fits capacity c → Fits capacity (steps t capacity n c)
unfolding steps
fits_steps t s capacity zero c inv fits = fits
fits_steps t s capacity (suc n) c inv fits =
    fits_steps t s capacity n (step t capacity c) (inv_step t s capacity c inv) (fits_step t s capacity c inv fits)

-- STOPPING

-- nothing is open
abbrev pub Closed : Chart → Type 0
Closed c = (q : Place) → In q c.places → is_open q.rank ≡ false

pub stopped_means : (t : Task) → Sound t → (c : Chart) → Inv t c → stopped t c ≡ true → (c.full ≡ true) ⊎ Closed c
stopped_means t s c inv = go c.full refl
  where
    found : (o : Option Entry) → Finds t.weights s.weighing c.places (inv_coded t s c inv) o → is_none o ≡ true → (c.full ≡ true) ⊎ Closed c
    found None h e = inr h
    found (Some k) h e = absurd (false≢true e)

    go : (b : Bool) → c.full ≡ b → (b || is_none (lightest_open t.weights.lighter c.places)) ≡ true → (c.full ≡ true) ⊎ Closed c
    go true f e = inl f
    go false f e = found (lightest_open t.weights.lighter c.places) (lightest_finds t.weights s.weighing c.places (inv_coded t s c inv)) e

-- where nothing is open, none is found
none_found : (lighter : ℕ → ℕ → Bool) (c : Chart) → Closed c → is_none (lightest_open lighter c.places) ≡ true
none_found lighter c closed = go (lightest_open lighter c.places) refl
  where
    go : (o : Option Entry) → lightest_open lighter c.places ≡ o → is_none o ≡ true
    go None e = refl
    go (Some s) e =
        let it = lightest_stands lighter c.places s e in
        absurd (true≢false (sym it.still_open ∙ closed it.place (nth_in c.places s.at it.place it.there)))

pub means_stopped : (t : Task) (c : Chart) → (c.full ≡ true) ⊎ Closed c → stopped t c ≡ true
means_stopped t c (inl f) = ap (λ b. b || is_none (lightest_open t.weights.lighter c.places)) f
means_stopped t c (inr closed) = go c.full
  where
    go : (b : Bool) → (b || is_none (lightest_open t.weights.lighter c.places)) ≡ true
    go true = refl
    go false = none_found t.weights.lighter c closed

-- it refuses a step, by the same number as a step does
pub stopped_refuses : (t : Task) (capacity : ℕ) (c : Chart) → stopped t c ≡ true → step_answer t capacity c ≡ Err (stop_number c)
stopped_refuses t capacity c = go c.full (lightest_open t.weights.lighter c.places)
  where
    go : (b : Bool) (o : Option Entry) → (b || is_none o) ≡ true →
        elim b as (λ _. Result ℕ ℕ) [ true ↦ Err 10 | false ↦ elim o as (λ _. Result ℕ ℕ) [ None ↦ Err 11 | Some s ↦ count_unless_full (completed t capacity c s) ] ]
        ≡ Err (elim b as (λ _. ℕ) [ true ↦ 10 | false ↦ 11 ])
    go true o h = refl
    go false None h = refl
    go false (Some s) h = absurd (false≢true h)

chosen_goes_on : (t : Task) (s : Sound t) (c : Chart) → Inv t c → (n : ℕ) (p : Place) → Chosen t c n p → stopped t c ≡ true → ⊥
chosen_goes_on t s c inv n p chosen h = go (stopped_means t s c inv h)
  where
    go : (c.full ≡ true) ⊎ Closed c → ⊥
    go (inl f) = true≢false (sym f ∙ chosen.not_full)
    go (inr closed) = true≢false (sym chosen.still_open ∙ closed p (nth_in c.places n p chosen.there))

-- a stopped chart stays as it is
pub stopped_step : (t : Task) → Sound t → (capacity : ℕ) (c : Chart) → Inv t c → stopped t c ≡ true → step t capacity c ≡ c
stopped_step t s capacity c inv h =
    step_cases t s capacity c (inv_coded t s c inv) (λ d. d ≡ c) (λ _. refl) (λ n p chosen. absurd (chosen_goes_on t s c inv n p chosen h))

pub stopped_steps : (t : Task) → Sound t → (capacity n : ℕ) (c : Chart) → Inv t c → stopped t c ≡ true → stopped t (steps t capacity n c) ≡ true
unfolding steps
stopped_steps t s capacity zero c inv h = h
stopped_steps t s capacity (suc n) c inv h =
    stopped_steps t s capacity n (step t capacity c) (inv_step t s capacity c inv)
    (subst (λ d. stopped t d ≡ true) (sym (stopped_step t s capacity c inv h)) h)

-- a step of any other finishes one more edge
step_done : (t : Task) → Sound t → (capacity : ℕ) (c : Chart) → Inv t c →
    (stopped t c ≡ true) ⊎ (done (step t capacity c).places ≡ suc (done c.places))
step_done t s capacity c inv =
    step_cases t s capacity c (inv_coded t s c inv) (λ d. (stopped t c ≡ true) ⊎ (done d.places ≡ suc (done c.places)))
    (λ quiet. inl (means_stopped t c quiet))
    (λ n p chosen. inr (
    arrive_all_done capacity t.weights.lighter (arrivals t (entry n p) (finishing c n).places) (finishing c n)
    ∙ finish_done (suc c.finished) n c.places p chosen.there chosen.still_open))

steps_done : (t : Task) → Sound t → (capacity n : ℕ) (c : Chart) → Inv t c →
    (stopped t (steps t capacity n c) ≡ true) ⊎ (n + done c.places ≤ done (steps t capacity n c).places)
unfolding steps
steps_done t s capacity zero c inv = inr (omega arith)
steps_done t s capacity (suc n) c inv =
    go (step_done t s capacity c inv) (steps_done t s capacity n (step t capacity c) (inv_step t s capacity c inv))
  where
    go : (stopped t c ≡ true) ⊎ (done (step t capacity c).places ≡ suc (done c.places)) →
        (stopped t (steps t capacity n (step t capacity c)) ≡ true) ⊎ (n + done (step t capacity c).places ≤ done (steps t capacity n (step t capacity c)).places) →
        (stopped t (steps t capacity n (step t capacity c)) ≡ true) ⊎ (suc n + done c.places ≤ done (steps t capacity n (step t capacity c)).places)
    go (inl h) later = inl (stopped_steps t s capacity (suc n) c inv h)
    go (inr h) (inl later) = inl later
    go (inr one_more) (inr later) = inr (omega arith)

-- where as many edges are finished as there are places, nothing is open
done_closed : (c : Chart) → length c.places ≤ done c.places → Closed c
done_closed c full q i = go (is_open q.rank) refl
  where
    go : (b : Bool) → is_open q.rank ≡ b → b ≡ false
    go true queued = let left = open_left c.places q i queued in absurd (omega arith)
    go false closed = refl

pub stops : (t : Task) → Sound t → (capacity : ℕ) (c : Chart) → Inv t c → Fits capacity c → stopped t (steps t capacity capacity c) ≡ true
stops t s capacity c inv fits = go (steps_done t s capacity capacity c inv)
  where
    all : capacity + done c.places ≤ done (steps t capacity capacity c).places → length (steps t capacity capacity c).places ≤ done (steps t capacity capacity c).places
    all h = let kept = (fits_steps t s capacity capacity c inv fits).within in omega arith

    go : (stopped t (steps t capacity capacity c) ≡ true) ⊎ (capacity + done c.places ≤ done (steps t capacity capacity c).places) →
        stopped t (steps t capacity capacity c) ≡ true
    go (inl h) = h
    go (inr h) = means_stopped t (steps t capacity capacity c) (inr (done_closed (steps t capacity capacity c) (all h)))
