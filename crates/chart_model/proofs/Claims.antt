-- Every derivation is answered for: its edge is finished and no heavier, or the derivation is no lighter than
-- an open edge, or than all finished ones of a full chart. Assumes nothing.
use Rattle.std.proofs.Common.{◌≡◌, ℕ, zero, suc, ◌<◌, ◌≤◌, min, true, false, ◌⊎◌, List, [], ◌∷◌, length, take, Some, sym, refl, ap, ◌∙◌, subst, inl, inr, arith, length-take}
use Rattle.weighing.specs.Laws.{Code}
use Rattle.grammar.specs.Rules.{Rule}
use Rattle.std.specs.List.{slice_get}
use Rattle.chart_model.specs.Task.{Task, Sound}
use Rattle.chart_model.specs.Derivation.{Tree, Row, word, rule, none, more, tree_weight, row_weight, Derives, weight_of}
use Rattle.chart_model.specs.Plain.{Chart, is_open, rule_edge}
use Rattle.chart_model.specs.declared.edge.Edge.{Edge}
use Rattle.chart_model.specs.declared.edge.Edge.TheVariants.{Passive, Active}
use Rattle.chart_model.specs.declared.place.Place.{Place}
use Rattle.std.proofs.lemmas.Bool.{cases_Bool}
use Rattle.std.proofs.lemmas.List.{take_all}
use Rattle.chart_model.proofs.AtMost.{AtMost, at_most_refl, at_most_trans, at_most_left, at_most_right, at_most_join}
use Rattle.chart_model.proofs.Members.{In, nth_below}
use Rattle.chart_model.proofs.Derivations.{rule_code, tree_code, row_end}
use Rattle.chart_model.proofs.Conclusions.{rule_edge_active, rule_edge_passive}
use Rattle.chart_model.proofs.Placing.{Beyond}
use Rattle.chart_model.proofs.Arriving.{Answered}
use Rattle.chart_model.specs.Origins.{AtPlace}
use Rattle.chart_model.proofs.StepArrivals.{in_place}
use Rattle.chart_model.proofs.Invariant.{Inv}

-- the edge is finished, and no heavier
abbrev pub Done : Task → Chart → Edge → ℕ → Type 0
Done t c e v = (p : Place) × In p c.places × (p.edge ≡ e) × (is_open p.rank ≡ false) × AtMost t.weights p.weight v

-- some open edge is no heavier, or the chart is full and no finished edge is
abbrev pub Late : Task → Chart → ℕ → Type 0
Late t c v =
    ((q : Place) × In q c.places × (is_open q.rank ≡ true) × AtMost t.weights q.weight v)
    ⊎ ((c.full ≡ true) × Beyond t.weights c.places v)

abbrev pub Claim : Task → Chart → Edge → ℕ → Type 0
Claim t c e v = Done t c e v ⊎ Late t c v

-- the symbols are those of the right side from number k on
abbrev Spells : List ℕ → ℕ → List ℕ → Type 0
Spells right k [] = Unit {0}
Spells right k (x ∷ xs) = (slice_get right k ≡ Some x) × Spells right (suc k) xs

-- the number after those symbols
abbrev past : ℕ → List ℕ → ℕ
past k [] = k
past k (x ∷ xs) = past (suc k) xs

spells_later : (y : ℕ) (right : List ℕ) (k : ℕ) (xs : List ℕ) → Spells right k xs → Spells (y ∷ right) (suc k) xs
spells_later y right k [] h = tt
spells_later y right k (x ∷ xs) h = (h.0, spells_later y right (suc k) xs h.1)

spells_take : (k : ℕ) (right : List ℕ) → Spells right 0 (take k right)
spells_take zero right = tt
spells_take (suc k) [] = tt
spells_take (suc k) (x ∷ right) = (refl, spells_later x right 0 (take k right) (spells_take k right))

past_suc : (k : ℕ) (xs : List ℕ) → past (suc k) xs ≡ suc (past k xs)
past_suc k [] = refl
past_suc k (x ∷ xs) = past_suc (suc k) xs

past_length : (xs : List ℕ) → past 0 xs ≡ length xs
past_length [] = refl
past_length (x ∷ xs) = past_suc 0 xs ∙ ap suc (past_length xs)

no_symbols : (xs : List ℕ) → 0 ≡ length xs → xs ≡ []
no_symbols [] h = refl
no_symbols (x ∷ xs) h = absurd (omega arith)

module _ (t : Task) (s : Sound t) (c : Chart) (inv : Inv t c) where
  late_up : (v w : ℕ) → AtMost t.weights v w → Late t c v → Late t c w
  late_up v w le (inl f) = inl (f.0, f.1, f.2, at_most_trans t.weights s.weighing f.0.weight v w f.3 le)
  late_up v w le (inr f) = inr (f.0, λ p i closed. at_most_trans t.weights s.weighing p.weight v w (f.1 p i closed) le)

  claim_up : (e : Edge) (v w : ℕ) → AtMost t.weights v w → Claim t c e v → Claim t c e w
  claim_up e v w le (inl f) = inl (f.0, f.1, f.2, f.3, at_most_trans t.weights s.weighing f.0.weight v w f.4 le)
  claim_up e v w le (inr f) = inr (late_up v w le f)

  answered_claim : (e : Edge) (v : ℕ) → Answered t.weights c e v → Claim t c e v
  answered_claim e v (inl f) = go (cases_Bool (is_open f.0.rank))
    where
      go : (is_open f.0.rank ≡ true) ⊎ (is_open f.0.rank ≡ false) → Claim t c e v
      go (inl queued) = inr (inl (f.0, f.1, queued, f.3))
      go (inr closed) = inl (f.0, f.1, f.2, closed, f.3)
  answered_claim e v (inr f) = inr (inr f)

  -- a finished edge stands at some place
  done_at : (e : Edge) (v : ℕ) (f : Done t c e v) → (n : ℕ) × AtPlace c.places (record { at = n; edge = e; weight = f.0.weight })
  done_at e v f = in_place c.places f.0 f.1 f.3 (record { at = 0; edge = e; weight = f.0.weight }) f.2 refl

  claim_first : (n : ℕ) (r : Rule) (x i j w : ℕ) → slice_get t.rules n ≡ Some r → slice_get r.right 0 ≡ Some x → Code w →
      Claim t c (Passive x i j) w → Claim t c (rule_edge n r 1 i j) (t.weights.join (t.weights.weigh r.mark) w)
  claim_first n r x i j w e begins code (inl f) =
      let own = t.weights.weigh r.mark in
      let v = f.0.weight in
      let own_code = rule_code t s n r e in
      let (m, at) = done_at (Passive x i j) w f in
      claim_up (rule_edge n r 1 i j) (t.weights.join own v) (t.weights.join own w)
      (at_most_join t.weights s.weighing own own v w (at_most_refl t.weights s.weighing own own_code) f.4)
      (answered_claim (rule_edge n r 1 i j) (t.weights.join own v)
      (inv.firsts (record { at = m; edge = Passive x i j; weight = v }) at n (rule_edge n r 1 i j) (t.weights.join own v)
      (record { symbol = x; from = i; to = j; passive = refl; conclusion = record { by = r; there = e; begins = begins; edge = refl; weight = refl } })))
  claim_first n r x i j w e begins code (inr late) =
      let own = t.weights.weigh r.mark in
      inr (late_up w (t.weights.join own w) (at_most_right t.weights s.weighing own w (rule_code t s n r e) code) late)

  claim_next : (n : ℕ) (r : Rule) (k h g u x l w : ℕ) → slice_get t.rules n ≡ Some r → slice_get r.right k ≡ Some x → Code u → Code w →
      Claim t c (Active n k h g) u → Claim t c (Passive x g l) w → Claim t c (rule_edge n r (suc k) h l) (t.weights.join u w)
  claim_next n r k h g u x l w e wanted cu cw (inl a) (inl b) =
      let p = a.0.weight in
      let q = b.0.weight in
      let (m, at) = done_at (Active n k h g) u a in
      let (o, there) = done_at (Passive x g l) w b in
      claim_up (rule_edge n r (suc k) h l) (t.weights.join p q) (t.weights.join u w)
      (at_most_join t.weights s.weighing p u q w a.4 b.4)
      (answered_claim (rule_edge n r (suc k) h l) (t.weights.join p q)
      (inv.nexts (record { at = m; edge = Active n k h g; weight = p }) (record { at = o; edge = Passive x g l; weight = q }) at there (rule_edge n r (suc k) h l) (t.weights.join p q)
      (record {
        rule = n;
        seen = k;
        start = h;
        meeting = g;
        symbol = x;
        to = l;
        active = refl;
        passive = refl;
        conclusion = record { by = r; there = e; wanted = wanted; edge = refl; weight = refl };
      })))
  claim_next n r k h g u x l w e wanted cu cw (inl a) (inr late) =
      inr (late_up w (t.weights.join u w) (at_most_right t.weights s.weighing u w cu cw) late)
  claim_next n r k h g u x l w e wanted cu cw (inr late) b =
      inr (late_up u (t.weights.join u w) (at_most_left t.weights s.weighing u w cu cw) late)

  -- rule n has come from h to i by its first k symbols, at weight u
  abbrev Sofar : ℕ → Rule → ℕ → ℕ → ℕ → ℕ → Type 0
  Sofar n r h zero i u = (i ≡ h) × (u ≡ t.weights.weigh r.mark)
  Sofar n r h (suc k) i u = Claim t c (rule_edge n r (suc k) h i) u

  sofar_more : (n : ℕ) (r : Rule) (h k i u x j w : ℕ) → slice_get t.rules n ≡ Some r → slice_get r.right k ≡ Some x → Code u → Code w →
      Sofar n r h k i u → Claim t c (Passive x i j) w → Sofar n r h (suc k) j (t.weights.join u w)
  sofar_more n r h zero i u x j w e begins cu cw (at_start, own) child =
      subst (λ v. Claim t c (rule_edge n r 1 h j) (t.weights.join v w)) (sym own)
      (claim_first n r x h j w e begins cw (subst (λ m. Claim t c (Passive x m j) w) at_start child))
  sofar_more n r h (suc k) i u x j w e wanted cu cw sofar child =
      claim_next n r (suc k) h i u x j w e wanted cu cw
      (subst (λ f. Claim t c f u) (rule_edge_active n r (suc k) h i (nth_below r.right (suc k) x wanted)) sofar) child

  -- at the end of the right side the rule has reached its left symbol
  sofar_whole : (n : ℕ) (r : Rule) (h m j v : ℕ) → slice_get t.rules n ≡ Some r → m ≡ length r.right → j ≤ t.last →
      Sofar n r h m j v → Claim t c (Passive r.left h j) v
  sofar_whole n r h zero j v e whole within (at_start, own) =
      answered_claim (Passive r.left h j) v
      (inv.empties n (Passive r.left h j) v
      (record {
        by = r;
        node = j;
        there = e;
        bare = no_symbols r.right whole;
        within = within;
        edge = ap (λ z. Passive r.left z j) (sym at_start);
        weight = own;
      }))
  sofar_whole n r h (suc m) j v e whole within sofar = subst (λ f. Claim t c f v) (rule_edge_passive n r (suc m) h j whole) sofar

  sofar_part : (n : ℕ) (r : Rule) (h m k j v : ℕ) → m ≡ suc k → suc k < length r.right → Sofar n r h m j v → Claim t c (Active n (suc k) h j) v
  sofar_part n r h m k j v same below sofar =
      subst (λ f. Claim t c f v) (rule_edge_active n r (suc k) h j below) (subst (λ z. Sofar n r h z j v) same sofar)

  mutual
    claim_tree : {x i j : ℕ} (d : Tree t x i j) → Claim t c (Passive x i j) (tree_weight d)
    claim_tree (word n w e) =
        answered_claim (Passive w.symbol w.from w.to) (t.weights.weigh w.mark)
        (inv.words n (Passive w.symbol w.from w.to) (t.weights.weigh w.mark) (record { heard = w; there = e; edge = refl; weight = refl }))
    claim_tree (rule n r {i} {j} e row) =
        sofar_whole n r i (past 0 r.right) j (row_weight row (t.weights.weigh r.mark)) e (past_length r.right) (row_end t s row)
        (claim_row row n r i 0 (t.weights.weigh r.mark) e (rule_code t s n r e)
        (subst (Spells r.right 0) (take_all (length r.right) r.right (omega arith)) (spells_take (length r.right) r.right)) (refl, refl))

    claim_row : {xs : List ℕ} {i j : ℕ} (row : Row t xs i j) (n : ℕ) (r : Rule) (h k u : ℕ) → slice_get t.rules n ≡ Some r → Code u →
        Spells r.right k xs → Sofar n r h k i u → Sofar n r h (past k xs) j (row_weight row u)
    claim_row (none within) n r h k u e cu spells sofar = sofar
    claim_row (more {x = x} {i = i} {j = m} child rest) n r h k u e cu spells sofar =
        claim_row rest n r h (suc k) (t.weights.join u (tree_weight child)) e (s.weighing.joins_code u (tree_weight child) cu (tree_code t s child)) spells.1
        (sofar_more n r h k i u x m (tree_weight child) e spells.0 cu (tree_code t s child) sofar (claim_tree child))

  pub claim_edge : (e : Edge) (d : Derives t e) → Claim t c e (weight_of t e d)
  claim_edge (Passive x i j) d = claim_tree d
  claim_edge (Active n zero i j) (r, e, (some, below), row) = absurd (omega arith)
  claim_edge (Active n (suc k) i j) (r, e, (some, below), row) =
      let taken : length (take (suc k) r.right) ≡ min (suc k) (length r.right) = length-take (suc k) r.right in
      let counted : past 0 (take (suc k) r.right) ≡ length (take (suc k) r.right) = past_length (take (suc k) r.right) in
      sofar_part n r i (past 0 (take (suc k) r.right)) k j (row_weight row (t.weights.weigh r.mark)) (omega arith) below
      (claim_row row n r i 0 (t.weights.weigh r.mark) e (rule_code t s n r e) (spells_take (suc k) r.right) (refl, refl))

  -- what comes late comes after every finished edge
  pub late_beyond : (v : ℕ) → Late t c v → Beyond t.weights c.places v
  late_beyond v (inl f) p i closed =
      at_most_trans t.weights s.weighing p.weight f.0.weight v (inv.ordered p f.0 i f.1 closed f.2) f.3
  late_beyond v (inr f) p i closed = f.1 p i closed
