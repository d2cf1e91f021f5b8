-- What holds of a chart after opening and after every step, whatever the capacity of each. Assumes nothing.
use Rattle.std.proofs.Common.{◌≡◌, ℕ, true, false, ◌⊎◌, List, sym, subst₂, inl, inr}
use Rattle.std.proofs.lemmas.Bool.{true≢false}
use Rattle.weighing.specs.Laws.{Code}
use Rattle.chart_model.specs.Task.{Task, Sound}
use Rattle.chart_model.specs.Plain.{Chart, is_open, blank, first_arrivals, opened}
use Rattle.chart_model.specs.Stands.{Weighs}
use Rattle.chart_model.specs.Origins.{ByWord, ByEmpty, Begins, Joined, AtPlace}
use Rattle.chart_model.specs.declared.edge.Edge.{Edge}
use Rattle.chart_model.specs.declared.place.Arrival.{Arrival}
use Rattle.chart_model.specs.declared.place.Place.{Place}
use Rattle.chart_model.specs.declared.place.Entry.{Entry}
use Rattle.chart_model.proofs.AtMost.{AtMost}
use Rattle.chart_model.proofs.Members.{In, nth_in}
use Rattle.chart_model.proofs.Derivations.{weighs_code}
use Rattle.chart_model.proofs.Conclusions.{word_weighs, empty_weighs}
use Rattle.chart_model.proofs.Placing.{Brought, apart}
use Rattle.chart_model.proofs.Arriving.{Answered, Coded, Refused, arrive_all_from, arrive_all_finished, arrive_all_apart, arrive_all_refused, arrive_all_answers}
use Rattle.chart_model.proofs.Gathering.{Brings}
use Rattle.chart_model.proofs.OpeningArrivals.{Opens, opening_from, opening_words, opening_empties}

pub record Inv (t : Task) (c : Chart) : Type 0 where
  -- each place has a derivation of its weight
  pub sound : (p : Place) → In p c.places → Weighs t p.edge p.weight
  -- no edge has two places
  pub distinct : apart c.places
  -- no finished edge is heavier than an open one
  pub ordered : (p q : Place) → In p c.places → In q c.places → is_open p.rank ≡ false → is_open q.rank ≡ true →
      AtMost t.weights p.weight q.weight
  -- all that follows from words, empty rules and finished edges is answered
  pub words : (n : ℕ) (e : Edge) (v : ℕ) → ByWord t n e v → Answered t.weights c e v
  pub empties : (n : ℕ) (e : Edge) (v : ℕ) → ByEmpty t n e v → Answered t.weights c e v
  pub firsts : (q : Entry) → AtPlace c.places q → (n : ℕ) (e : Edge) (v : ℕ) → Begins t q n e v → Answered t.weights c e v
  pub nexts : (p q : Entry) → AtPlace c.places p → AtPlace c.places q → (e : Edge) (v : ℕ) → Joined t p q e v → Answered t.weights c e v
  -- what a full chart refused has a derivation and no place
  pub refused : Refused t c

-- the weights of the places are codes
pub inv_coded : (t : Task) (s : Sound t) (c : Chart) → Inv t c → Coded c.places
inv_coded t s c inv p i = weighs_code t s p.edge p.weight (inv.sound p i)

-- if all arrivals are answered, what one of them brings is
pub brings_answered : (t : Task) (c : Chart) (as' : List Arrival) →
    ((a : Arrival) → In a as' → Answered t.weights c a.edge a.weight) → (e : Edge) (v : ℕ) → Brings as' e v → Answered t.weights c e v
brings_answered t c as' all e v b = subst₂ (Answered t.weights c) b.2 b.3 (all b.0 b.1)

-- a place that an arrival left has a derivation of its weight if the arrival has
pub brought_weighs : (t : Task) (a : Arrival) (p : Place) → Brought a p → Weighs t a.edge a.weight → Weighs t p.edge p.weight
brought_weighs t a p b d = subst₂ (Weighs t) (sym b.1) (sym b.2) d

module _ (t : Task) (s : Sound t) (capacity : ℕ) where
  opens_weighs : (a : Arrival) → Opens t a → Weighs t a.edge a.weight
  opens_weighs a (inl (n, by, origin)) = word_weighs t s n a.edge a.weight by
  opens_weighs a (inr (n, by, origin)) = empty_weighs t s n a.edge a.weight by

  opening_weighs : (a : Arrival) → In a (first_arrivals t) → Weighs t a.edge a.weight
  opening_weighs a i = opens_weighs a (opening_from t a i)

  opening_code : (a : Arrival) → In a (first_arrivals t) → Code a.weight
  opening_code a i = weighs_code t s a.edge a.weight (opening_weighs a i)

  opening_answered : (a : Arrival) → In a (first_arrivals t) → Answered t.weights (opened t capacity) a.edge a.weight
  opening_answered a i =
      arrive_all_answers capacity t.weights s.weighing (first_arrivals t) opening_code blank (λ p j. absurd j) a i (λ p j _. absurd j)

  none_finished : (p : Place) → In p (opened t capacity).places → is_open p.rank ≡ false → ⊥
  none_finished p i closed = arrive_all_finished capacity t.weights.lighter (first_arrivals t) blank p i closed

  none_entry : (q : Entry) → AtPlace (opened t capacity).places q → ⊥
  none_entry q at = none_finished at.place (nth_in (opened t capacity).places q.at at.place at.there) at.closed

  opening_sound : (p : Place) → ⊥ ⊎ ((a : Arrival) × In a (first_arrivals t) × Brought a p) → Weighs t p.edge p.weight
  opening_sound p (inl j) = absurd j
  opening_sound p (inr f) = brought_weighs t f.0 p f.2 (opening_weighs f.0 f.1)

  pub inv_opened : Inv t (opened t capacity)
  inv_opened =
      record {
        sound = λ p i. opening_sound p (arrive_all_from capacity t.weights.lighter (first_arrivals t) blank p i);
        distinct = arrive_all_apart capacity t.weights.lighter (first_arrivals t) blank tt;
        ordered = λ p q i j closed _. absurd (none_finished p i closed);
        words = λ n e v w. brings_answered t (opened t capacity) (first_arrivals t) opening_answered e v (opening_words t n e v w);
        empties = λ n e v w. brings_answered t (opened t capacity) (first_arrivals t) opening_answered e v (opening_empties t n e v w);
        firsts = λ q at _ _ _ _. absurd (none_entry q at);
        nexts = λ p q at _ _ _ _. absurd (none_entry p at);
        refused = arrive_all_refused capacity t.weights.lighter t (first_arrivals t) (λ a i. (opening_weighs a i).0) blank (λ f. absurd (true≢false (sym f)));
      }
