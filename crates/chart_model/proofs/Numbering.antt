-- An arrival, and the finishing of an open edge, keep origins in the order of finishing. Assumes nothing.
use Rattle.std.proofs.Common.{◌≡◌, ℕ, zero, suc, ◌<◌, ◌≤◌, Bool, true, false, ◌&&◌, ltb, leb, ◌⊎◌, List, [], ◌∷◌, length, Some, None, Option, sym, refl, ap, ◌∙◌, subst, inl, inr, arith}
use Rattle.std.specs.List.{slice_get}
use Rattle.std.proofs.lemmas.Bool.{true≢false, false≢true, and_parts, and_from, ltb-true, lt-ltb, leb-true, le-leb}
use Rattle.chart_model.specs.Plain.{Chart, is_open, finished_place, finish, finishing, improved, placed, arrive, arrive_all}
use Rattle.chart_model.specs.Origins.{rank_of, rank_at, finished_before, names_finished_before, due, numbered, place_orderly, orderly}
use Rattle.chart_model.specs.declared.origin.Origin.{Origin}
use Rattle.chart_model.specs.declared.origin.Origin.TheVariants.{Word as FromWord, Empty, First, Next}
use Rattle.chart_model.specs.declared.place.Arrival.{Arrival}
use Rattle.chart_model.specs.declared.place.Place.{Place}
use Rattle.chart_model.proofs.Members.{In, none_some, some_same, nth_in, every_in, every_from}
use Rattle.chart_model.proofs.Placing.{Brought, improved_cases, placed_cases}
use Rattle.chart_model.proofs.Arriving.{arrive_cases, arrive_from}
use Rattle.chart_model.proofs.Finishing.{finish_from}

pub before_parts : (ps : List Place) (limit n : ℕ) → finished_before ps limit n ≡ true → (0 < rank_at ps n) × (rank_at ps n < limit)
before_parts ps limit n h =
    let both = and_parts (ltb 0 (rank_at ps n)) (ltb (rank_at ps n) limit) h in
    (ltb-true 0 (rank_at ps n) both.0, ltb-true (rank_at ps n) limit both.1)

pub before_of : (ps : List Place) (limit n : ℕ) → 0 < rank_at ps n → rank_at ps n < limit → finished_before ps limit n ≡ true
before_of ps limit n low high =
    and_from (ltb 0 (rank_at ps n)) (ltb (rank_at ps n) limit) (lt-ltb 0 (rank_at ps n) low) (lt-ltb (rank_at ps n) limit high)

-- only places have numbers
pub rank_within : (ps : List Place) (n : ℕ) → 0 < rank_at ps n → n < length ps
rank_within [] n some = absurd (omega arith)
rank_within (p ∷ ps) zero some = omega arith
rank_within (p ∷ ps) (suc n) some = let below = rank_within ps n some in omega arith

-- and only finished ones
pub rank_closed : (ps : List Place) (n : ℕ) → 0 < rank_at ps n → (p : Place) × (slice_get ps n ≡ Some p) × (is_open p.rank ≡ false)
rank_closed [] n some = absurd (omega arith)
rank_closed (p ∷ ps) zero some = (p, refl, closed p.rank some)
  where
    closed : (s : Option ℕ) → 0 < rank_of s → is_open s ≡ false
    closed None some = absurd (omega arith)
    closed (Some m) some = refl
rank_closed (p ∷ ps) (suc n) some = rank_closed ps n some

-- what was finished before a limit among some places was so before another limit among others
module _ (ps qs : List Place) (low high : ℕ) (each : (n : ℕ) → finished_before ps low n ≡ true → finished_before qs high n ≡ true) where
  pub names_kept : (o : Origin) → names_finished_before ps low o ≡ true → names_finished_before qs high o ≡ true
  names_kept (FromWord n) h = refl
  names_kept (Empty n) h = refl
  names_kept (First n b) h = each b h
  names_kept (Next a b) h =
      let both = and_parts (finished_before ps low a) (finished_before ps low b) h in
      and_from (finished_before qs high a) (finished_before qs high b) (each a both.0) (each b both.1)

-- AN ARRIVAL

module _ (lighter : ℕ → ℕ → Bool) (a : Arrival) where
  rank_improved : (p : Place) → rank_of (improved lighter a p).rank ≡ rank_of p.rank
  rank_improved p = improved_cases lighter a p (λ q. rank_of q.rank ≡ rank_of p.rank) (λ _ _. refl) (λ _. refl)

  rank_placed : (ps : List Place) (n : ℕ) → rank_at (placed lighter a ps) n ≡ rank_at ps n
  rank_placed [] zero = refl
  rank_placed [] (suc n) = refl
  rank_placed (p ∷ ps) zero =
      placed_cases lighter a p ps (λ qs. rank_at qs 0 ≡ rank_of p.rank) (λ _. rank_improved p) (λ _. refl)
  rank_placed (p ∷ ps) (suc n) =
      placed_cases lighter a p ps (λ qs. rank_at qs (suc n) ≡ rank_at ps n) (λ _. refl) (λ _. rank_placed ps n)

  module _ (capacity : ℕ) (c : Chart) where
    pub number_arrive : (n : ℕ) → rank_at (arrive capacity lighter c a).places n ≡ rank_at c.places n
    number_arrive n =
        arrive_cases capacity lighter c a (λ d. rank_at d.places n ≡ rank_at c.places n)
        (λ _. refl) (λ _ _. rank_placed c.places n) (λ _ _ _. refl)

    pub count_arrive : (arrive capacity lighter c a).finished ≡ c.finished
    count_arrive = arrive_cases capacity lighter c a (λ d. d.finished ≡ c.finished) (λ _. refl) (λ _ _. refl) (λ _ _ _. refl)

    pub before_arrive : (limit n : ℕ) → finished_before c.places limit n ≡ true → finished_before (arrive capacity lighter c a).places limit n ≡ true
    before_arrive limit n h = subst (λ m. (ltb 0 m && ltb m limit) ≡ true) (sym (number_arrive n)) h

    abbrev Ordered : ℕ → Option ℕ → Origin → Type 0
    Ordered finished s o = (numbered finished s && names_finished_before (arrive capacity lighter c a).places (due finished s) o) ≡ true

    pub names_still : (limit : ℕ) (o : Origin) → names_finished_before c.places limit o ≡ true → names_finished_before (arrive capacity lighter c a).places limit o ≡ true
    names_still limit = names_kept c.places (arrive capacity lighter c a).places limit limit (before_arrive limit)

    -- an orderly place stays so
    kept : (p : Place) → place_orderly c p ≡ true → Ordered c.finished p.rank p.origin
    kept p h =
        let both = and_parts (numbered c.finished p.rank) (names_finished_before c.places (due c.finished p.rank) p.origin) h in
        and_from (numbered c.finished p.rank) (names_finished_before (arrive capacity lighter c a).places (due c.finished p.rank) p.origin)
        both.0 (names_still (due c.finished p.rank) p.origin both.1)

    -- an open place whose premises are finished is orderly
    new : (s : Option ℕ) → is_open s ≡ true → (o : Origin) → names_finished_before c.places (suc c.finished) o ≡ true → Ordered c.finished s o
    new None h o names = names_still (suc c.finished) o names
    new (Some m) h o names = absurd (false≢true h)

    pub orderly_arrive : orderly c ≡ true → names_finished_before c.places (suc c.finished) a.origin ≡ true → orderly (arrive capacity lighter c a) ≡ true
    orderly_arrive h names =
        every_from (place_orderly (arrive capacity lighter c a)) (arrive capacity lighter c a).places
        (λ p i. subst (λ m. Ordered m p.rank p.origin) (sym count_arrive) (go p (arrive_from capacity lighter c a p i)))
      where
        go : (p : Place) → In p c.places ⊎ Brought a p → Ordered c.finished p.rank p.origin
        go p (inl j) = kept p (every_in (place_orderly c) c.places h p j)
        go p (inr b) = new p.rank b.0 p.origin (subst (λ o. names_finished_before c.places (suc c.finished) o ≡ true) (sym b.3) names)

-- arrivals with finished premises
abbrev pub AllNameFinished : Chart → List Arrival → Type 0
AllNameFinished c as' = (a : Arrival) → In a as' → names_finished_before c.places (suc c.finished) a.origin ≡ true

pub arrive_all_orderly : (capacity : ℕ) (lighter : ℕ → ℕ → Bool) (as' : List Arrival) (c : Chart) → orderly c ≡ true → AllNameFinished c as' → orderly (arrive_all capacity lighter c as') ≡ true
arrive_all_orderly capacity lighter [] c h names = h
arrive_all_orderly capacity lighter (a ∷ later) c h names =
    arrive_all_orderly capacity lighter later (arrive capacity lighter c a) (orderly_arrive lighter a capacity c h (names a (inl refl)))
    (λ b i.
    subst (λ m. names_finished_before (arrive capacity lighter c a).places (suc m) b.origin ≡ true) (sym (count_arrive lighter a capacity c))
    (names_still lighter a capacity c (suc c.finished) b.origin (names b (inr i))))

-- FINISHING

open_number : (s : Option ℕ) → is_open s ≡ true → rank_of s ≡ 0
open_number None h = refl
open_number (Some m) h = absurd (false≢true h)

open_due : (finished : ℕ) (s : Option ℕ) → is_open s ≡ true → due finished s ≡ suc finished
open_due finished None h = refl
open_due finished (Some m) h = absurd (false≢true h)

-- finishing an open edge gives it its number, and changes no other
pub number_finished : (m n : ℕ) (ps : List Place) (p : Place) → slice_get ps n ≡ Some p → rank_at (finish m n ps) n ≡ m
number_finished m n [] p e = absurd (none_some e)
number_finished m zero (q ∷ ps) p e = refl
number_finished m (suc n) (q ∷ ps) p e = number_finished m n ps p e

rank_kept : (m n k : ℕ) (ps : List Place) (p : Place) → slice_get ps n ≡ Some p → is_open p.rank ≡ true → 0 < rank_at ps k → rank_at (finish m n ps) k ≡ rank_at ps k
rank_kept m n k [] p e queued some = absurd (none_some e)
rank_kept m zero zero (q ∷ ps) p e queued some =
    let none : rank_of q.rank ≡ 0 = open_number q.rank (ap (λ (r : Place). is_open r.rank) (some_same e) ∙ queued) in
    absurd (omega arith)
rank_kept m zero (suc k) (q ∷ ps) p e queued some = refl
rank_kept m (suc n) zero (q ∷ ps) p e queued some = refl
rank_kept m (suc n) (suc k) (q ∷ ps) p e queued some = rank_kept m n k ps p e queued some

module _ (c : Chart) (n : ℕ) (p : Place) (there : slice_get c.places n ≡ Some p) (queued : is_open p.rank ≡ true) where
  pub before_finish : (low high k : ℕ) → low ≤ high → finished_before c.places low k ≡ true → finished_before (finishing c n).places high k ≡ true
  before_finish low high k more h =
      let (some, below) = before_parts c.places low k h in
      let same = rank_kept (suc c.finished) n k c.places p there queued some in
      before_of (finishing c n).places high k (omega arith) (omega arith)

  -- the edge just finished
  pub before_now : finished_before (finishing c n).places (suc (suc c.finished)) n ≡ true
  before_now =
      let same = number_finished (suc c.finished) n c.places p there in
      before_of (finishing c n).places (suc (suc c.finished)) n (omega arith) (omega arith)

  due_more : (s : Option ℕ) → due c.finished s ≤ due (suc c.finished) s
  due_more None = omega arith
  due_more (Some m) = omega arith

  numbered_more : (s : Option ℕ) → numbered c.finished s ≡ true → numbered (suc c.finished) s ≡ true
  numbered_more None h = refl
  numbered_more (Some m) h =
      let both = and_parts (ltb 0 m) (leb m c.finished) h in
      let most = leb-true m c.finished both.1 in
      and_from (ltb 0 m) (leb m (suc c.finished)) both.0 (le-leb m (suc c.finished) (omega arith))

  names_later : (low high : ℕ) → low ≤ high → (o : Origin) → names_finished_before c.places low o ≡ true → names_finished_before (finishing c n).places high o ≡ true
  names_later low high more = names_kept c.places (finishing c n).places low high (λ k. before_finish low high k more)

  kept_later : (q : Place) → place_orderly c q ≡ true → place_orderly (finishing c n) q ≡ true
  kept_later q h =
      let s = q.rank in
      let both = and_parts (numbered c.finished s) (names_finished_before c.places (due c.finished s) q.origin) h in
      and_from (numbered (suc c.finished) s) (names_finished_before (finishing c n).places (due (suc c.finished) s) q.origin)
      (numbered_more s both.0) (names_later (due c.finished s) (due (suc c.finished) s) (due_more s) q.origin both.1)

  finished_place_later : place_orderly c p ≡ true → place_orderly (finishing c n) (finished_place (suc c.finished) p) ≡ true
  finished_place_later h =
      let s = p.rank in
      let names = (and_parts (numbered c.finished s) (names_finished_before c.places (due c.finished s) p.origin) h).1 in
      let same = open_due c.finished s queued in
      and_from (ltb 0 (suc c.finished) && leb (suc c.finished) (suc c.finished)) (names_finished_before (finishing c n).places (suc c.finished) p.origin)
      (and_from (ltb 0 (suc c.finished)) (leb (suc c.finished) (suc c.finished)) (lt-ltb 0 (suc c.finished) (omega arith)) (le-leb (suc c.finished) (suc c.finished) (omega arith)))
      (names_later (due c.finished s) (suc c.finished) (omega arith) p.origin names)

  pub orderly_finish : orderly c ≡ true → orderly (finishing c n) ≡ true
  orderly_finish h =
      every_from (place_orderly (finishing c n)) (finishing c n).places (λ q i. go q (finish_from (suc c.finished) n c.places p there q i))
    where
      was : (q : Place) → In q c.places → place_orderly c q ≡ true
      was = every_in (place_orderly c) c.places h

      go : (q : Place) → In q c.places ⊎ (finished_place (suc c.finished) p ≡ q) → place_orderly (finishing c n) q ≡ true
      go q (inl j) = kept_later q (was q j)
      go q (inr e) = subst (λ r. place_orderly (finishing c n) r ≡ true) e (finished_place_later (was p (nth_in c.places n p there)))

-- FINISHED PLACES

rank_nth : (ps : List Place) (n : ℕ) (p : Place) → slice_get ps n ≡ Some p → rank_at ps n ≡ rank_of p.rank
rank_nth [] n p e = absurd (none_some e)
rank_nth (q ∷ ps) zero p e = ap (λ (r : Place). rank_of r.rank) (some_same e)
rank_nth (q ∷ ps) (suc n) p e = rank_nth ps n p e

module _ (c : Chart) (ordered : orderly c ≡ true) (n : ℕ) (p : Place) (there : slice_get c.places n ≡ Some p) (closed : is_open p.rank ≡ false) where
  place_orderly_parts : (numbered c.finished p.rank ≡ true) × (names_finished_before c.places (due c.finished p.rank) p.origin ≡ true)
  place_orderly_parts =
      and_parts (numbered c.finished p.rank) (names_finished_before c.places (due c.finished p.rank) p.origin)
      (every_in (place_orderly c) c.places ordered p (nth_in c.places n p there))

  -- a finished place has a number that has been given
  pub closed_before : finished_before c.places (suc c.finished) n ≡ true
  closed_before =
      let same = rank_nth c.places n p there in
      let (low, high) = given p.rank closed place_orderly_parts.0 in
      before_of c.places (suc c.finished) n (omega arith) (omega arith)
    where
      given : (s : Option ℕ) → is_open s ≡ false → numbered c.finished s ≡ true → (0 < rank_of s) × (rank_of s < suc c.finished)
      given None closed h = absurd (true≢false closed)
      given (Some m) closed h =
          let both = and_parts (ltb 0 m) (leb m c.finished) h in
          let most = leb-true m c.finished both.1 in
          (ltb-true 0 m both.0, omega arith)

  -- and its origin names only places with lower numbers
  pub names_before : names_finished_before c.places (rank_at c.places n) p.origin ≡ true
  names_before =
      subst (λ m. names_finished_before c.places m p.origin ≡ true) (finished_due p.rank closed ∙ sym (rank_nth c.places n p there)) place_orderly_parts.1
    where
      finished_due : (s : Option ℕ) → is_open s ≡ false → due c.finished s ≡ rank_of s
      finished_due None closed = absurd (true≢false closed)
      finished_due (Some m) closed = refl
