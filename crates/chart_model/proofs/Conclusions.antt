-- What follows from words, empty rules and finished edges: derivations, with their weights and nodes, and no gain.
-- Assumes nothing.
use Rattle.std.proofs.Common.{◌≡◌, ℕ, suc, ◌<◌, Bool, true, false, eqb, List, [], ◌∷◌, ◌++◌, length, Some, None, Option, sym, refl, ap, ◌∙◌, subst, subst₂, arith}
use Rattle.std.specs.List.{slice_get}
use Rattle.std.proofs.lemmas.Bool.{false≢true, eqb-true, eq-eqb}
use Rattle.weighing.specs.Laws.{Code}
use Rattle.grammar.specs.Rules.{Rule}
use Rattle.chart_model.specs.Task.{Task, Sound}
use Rattle.chart_model.specs.Derivation.{word, rule, none}
use Rattle.chart_model.specs.Listing.{node, headed, word_node}
use Rattle.chart_model.specs.Plain.{rule_edge, wants}
use Rattle.chart_model.specs.Stands.{Weighs}
use Rattle.chart_model.specs.Origins.{ByWord, ByEmpty, ByFirst, ByNext}
use Rattle.chart_model.specs.declared.node.Kind.TheVariants.{Rule as RuleNode}
use Rattle.chart_model.specs.declared.node.Node.{Node}
use Rattle.chart_model.specs.declared.edge.Edge.{Edge}
use Rattle.chart_model.specs.declared.edge.Edge.TheVariants.{Passive, Active}
use Rattle.chart_model.proofs.AtMost.{AtMost, at_most_left, at_most_right}
use Rattle.chart_model.proofs.Members.{some_same, nth_below}
use Rattle.chart_model.proofs.Derivations.{Reads, RuleReads, Rows, Begun, nodes_of, weighs_reads, reads_weighs, rule_code, begun_first, begun_more, begun_rule_edge}

pub wants_true : (right : List ℕ) (k x : ℕ) → wants right k x ≡ true → slice_get right k ≡ Some x
wants_true right k x = go (slice_get right k)
  where
    go : (o : Option ℕ) → elim o as (λ _. Bool) [ None ↦ false | Some y ↦ eqb y x ] ≡ true → o ≡ Some x
    go None h = absurd (false≢true h)
    go (Some y) h = ap (λ z. Some z) (eqb-true y x h)

pub wants_from : (right : List ℕ) (k x : ℕ) → slice_get right k ≡ Some x → wants right k x ≡ true
wants_from right k x e =
    subst (λ (o : Option ℕ). elim o as (λ _. Bool) [ None ↦ false | Some y ↦ eqb y x ] ≡ true) (sym e) (eq-eqb x x refl)

-- a rule with symbols left is not at its end
pub rule_edge_active : (n : ℕ) (r : Rule) (k i j : ℕ) → k < length r.right → rule_edge n r k i j ≡ Active n k i j
rule_edge_active n r k i j below = go (eqb k (length r.right)) refl
  where
    go : (b : Bool) → eqb k (length r.right) ≡ b → elim b as (λ _. Edge) [ true ↦ Passive r.left i j | false ↦ Active n k i j ] ≡ Active n k i j
    go true h = let same = eqb-true k (length r.right) h in absurd (omega arith)
    go false h = refl

pub rule_edge_passive : (n : ℕ) (r : Rule) (k i j : ℕ) → k ≡ length r.right → rule_edge n r k i j ≡ Passive r.left i j
rule_edge_passive n r k i j e =
    ap (λ b. elim b as (λ _. Edge) [ true ↦ Passive r.left i j | false ↦ Active n k i j ]) (eq-eqb k (length r.right) e)

module _ (t : Task) (s : Sound t) where
  pub word_reads : (n : ℕ) (e : Edge) (v : ℕ) → ByWord t n e v → Reads t e v (word_node e n)
  word_reads n e v c = subst₂ (λ f u. Reads t f u (word_node f n)) (sym c.edge) (sym c.weight) (word n c.heard c.there, refl, refl)

  pub empty_reads : (n : ℕ) (e : Edge) (v : ℕ) → ByEmpty t n e v → RuleReads t n [] e v
  empty_reads n e v c =
      let r = c.by in let i = c.node in
      let row = subst (λ xs. Rows t r xs i i (t.weights.weigh r.mark) []) (sym c.bare) (none c.within, refl, refl) in
      subst₂ (RuleReads t n []) (sym c.edge) (sym c.weight) (rule n r c.there row.0, row.1, ap (λ ns. node RuleNode n i i ∷ ns) row.2)

  pub first_reads : (n x i j w : ℕ) (ns : List Node) (e : Edge) (v : ℕ) → Reads t (Passive x i j) w ns → ByFirst t n x i j w e v → RuleReads t n ns e v
  first_reads n x i j w ns e v d c =
      let r = c.by in
      let within : 0 < length r.right = nth_below r.right 0 x c.begins in
      subst₂ (RuleReads t n ns) (sym c.edge) (sym c.weight)
      (begun_rule_edge t s n r 1 i j (t.weights.join (t.weights.weigh r.mark) w) ns c.there (omega arith) within
      (begun_first t s r x i j w ns c.begins d))

  pub next_reads : (n k h g u x l w : ℕ) (ms ns : List Node) (e : Edge) (v : ℕ) →
      Reads t (Active n k h g) u ms → Reads t (Passive x g l) w ns → ByNext t n k h u x l w e v → RuleReads t n (ms ++ ns) e v
  next_reads n k h g u x l w ms ns e v a d c =
      let r = c.by in
      let within : k < length r.right = nth_below r.right k x c.wanted in
      let same : a.0.0 ≡ r = some_same (sym a.0.1 ∙ c.there) in
      let begun : Begun t r k h g u ms = subst (λ (q : Rule). Begun t q k h g u ms) same (a.0.3, a.1, a.2) in
      subst₂ (RuleReads t n (ms ++ ns)) (sym c.edge) (sym c.weight)
      (begun_rule_edge t s n r (suc k) h l (t.weights.join u w) (ms ++ ns) c.there (omega arith) within
      (begun_more t s r k x h g l u w ms ns c.wanted begun d))

  pub word_weighs : (n : ℕ) (e : Edge) (v : ℕ) → ByWord t n e v → Weighs t e v
  word_weighs n e v c = reads_weighs t e v (word_node e n) (word_reads n e v c)

  pub empty_weighs : (n : ℕ) (e : Edge) (v : ℕ) → ByEmpty t n e v → Weighs t e v
  empty_weighs n e v c = reads_weighs t e v (headed e n []) (empty_reads n e v c)

  pub first_weighs : (n x i j w : ℕ) (e : Edge) (v : ℕ) → Weighs t (Passive x i j) w → ByFirst t n x i j w e v → Weighs t e v
  first_weighs n x i j w e v d c =
      let ns = nodes_of t (Passive x i j) d.0 in
      reads_weighs t e v (headed e n ns) (first_reads n x i j w ns e v (weighs_reads t (Passive x i j) w d) c)

  pub next_weighs : (n k h g u x l w : ℕ) (e : Edge) (v : ℕ) →
      Weighs t (Active n k h g) u → Weighs t (Passive x g l) w → ByNext t n k h u x l w e v → Weighs t e v
  next_weighs n k h g u x l w e v a d c =
      let ms = nodes_of t (Active n k h g) a.0 in
      let ns = nodes_of t (Passive x g l) d.0 in
      reads_weighs t e v (headed e n (ms ++ ns))
      (next_reads n k h g u x l w ms ns e v (weighs_reads t (Active n k h g) u a) (weighs_reads t (Passive x g l) w d) c)

  -- a conclusion is no lighter than what it follows from
  pub first_no_gain : (n x i j w : ℕ) (e : Edge) (v : ℕ) → Code w → ByFirst t n x i j w e v → AtMost t.weights w v
  first_no_gain n x i j w e v code c =
      let own = t.weights.weigh c.by.mark in
      subst (AtMost t.weights w) (sym c.weight) (at_most_right t.weights s.weighing own w (rule_code t s n c.by c.there) code)

  pub next_no_gain_active : (n k h u x l w : ℕ) (e : Edge) (v : ℕ) → Code u → Code w → ByNext t n k h u x l w e v → AtMost t.weights u v
  next_no_gain_active n k h u x l w e v cu cw c = subst (AtMost t.weights u) (sym c.weight) (at_most_left t.weights s.weighing u w cu cw)

  pub next_no_gain_child : (n k h u x l w : ℕ) (e : Edge) (v : ℕ) → Code u → Code w → ByNext t n k h u x l w e v → AtMost t.weights w v
  next_no_gain_child n k h u x l w e v cu cw c = subst (AtMost t.weights w) (sym c.weight) (at_most_right t.weights s.weighing u w cu cw)
