-- Derivations weigh codes and lie within the lattice, and grow by one child at the end, in weight and in nodes.
-- Assumes nothing.
use Rattle.std.proofs.Common.{◌≡◌, ℕ, suc, ◌^◌, ◌<◌, ◌≤◌, Bool, true, false, eqb, ltb, leb, List, [], ◌∷◌, ◌++◌, length, take, Some, sym, refl, ap, ◌∙◌, subst, append_assoc, append-nil, le_trans, le_refl, arith}
use Rattle.std.specs.List.{slice_get}
use Rattle.std.proofs.lemmas.Bool.{and_parts, ltb-true, eqb-true, eqb-false}
use Rattle.std.proofs.lemmas.List.{take_all}
use Rattle.records.proofs.Every.{every_nth}
use Rattle.weighing.specs.Laws.{Code, Mark}
use Rattle.grammar.specs.Rules.{Rule, most_symbols, rule_within}
use Rattle.lattice.specs.Words.{word_within, WordLimits, word_limits}
use Rattle.lattice.specs.declared.word.Word.{Word}
use Rattle.chart_model.specs.Task.{Task, Sound}
use Rattle.chart_model.specs.Derivation.{Tree, Row, word, rule, none, more, tree_weight, row_weight, Derives, weight_of, LiesWithin}
use Rattle.chart_model.specs.Listing.{node, tree_nodes, row_nodes, headed}
use Rattle.chart_model.specs.Plain.{rule_edge}
use Rattle.chart_model.specs.Stands.{Weighs}
use Rattle.chart_model.specs.declared.node.Kind.TheVariants.{Rule as RuleNode}
use Rattle.chart_model.specs.declared.node.Node.{Node}
use Rattle.chart_model.specs.declared.edge.Edge.{Edge}
use Rattle.chart_model.specs.declared.edge.Edge.TheVariants.{Passive, Active}
use Rattle.chart_model.proofs.Members.{take_one_more}

-- the nodes of a derivation; an active edge has none of its own
abbrev pub nodes_of : (t : Task) (e : Edge) → Derives t e → List Node
nodes_of t (Passive x i j) d = tree_nodes d
nodes_of t (Active n k i j) d = row_nodes d.3

-- the edge has a derivation of this weight and with these nodes
abbrev pub Reads : Task → Edge → ℕ → List Node → Type 0
Reads t e v ns = (d : Derives t e) × (weight_of t e d ≡ v) × (nodes_of t e d ≡ ns)

pub weighs_reads : (t : Task) (e : Edge) (v : ℕ) (d : Weighs t e v) → Reads t e v (nodes_of t e d.0)
weighs_reads t e v d = (d.0, d.1, refl)

pub reads_weighs : (t : Task) (e : Edge) (v : ℕ) (ns : List Node) → Reads t e v ns → Weighs t e v
reads_weighs t e v ns d = (d.0, d.1)

-- the same, where the nodes are those below rule n
abbrev pub RuleReads : Task → ℕ → List Node → Edge → ℕ → Type 0
RuleReads t n ns e v = Reads t e v (headed e n ns)

-- the symbols are derived over the span, with this weight from the rule's mark on, and with these nodes
abbrev pub Rows : Task → Rule → List ℕ → ℕ → ℕ → ℕ → List Node → Type 0
Rows t r xs i j v ns = (row : Row t xs i j) × (row_weight row (t.weights.weigh r.mark) ≡ v) × (row_nodes row ≡ ns)

-- the same for the symbols before the dot, which stands after k of them
abbrev pub Begun : Task → Rule → ℕ → ℕ → ℕ → ℕ → List Node → Type 0
Begun t r k i j v ns = Rows t r (take k r.right) i j v ns

-- THE LIMITS OF A TASK

module _ (t : Task) (s : Sound t) where
  word_of : (n : ℕ) (w : Word) → slice_get t.words n ≡ Some w → WordLimits t.last w
  word_of n w e = word_limits t.last w (every_nth (word_within t.last) t.words n w s.lattice.within e)

  rule_mark : (n : ℕ) (r : Rule) → slice_get t.rules n ≡ Some r → Mark r.mark
  rule_mark n r e =
      ltb-true r.mark (2 ^ 16) (and_parts (leb (length r.right) most_symbols) (ltb r.mark (2 ^ 16)) (every_nth rule_within t.rules n r s.grammar.within e)).1

  -- WEIGHTS ARE CODES

  pub rule_code : (n : ℕ) (r : Rule) → slice_get t.rules n ≡ Some r → Code (t.weights.weigh r.mark)
  rule_code n r e = s.weighing.weighs_code r.mark (rule_mark n r e)

  mutual
    pub tree_code : {x i j : ℕ} (d : Tree t x i j) → Code (tree_weight d)
    tree_code (word n w e) = s.weighing.weighs_code w.mark (word_of n w e).marked
    tree_code (rule n r e row) = row_code row (t.weights.weigh r.mark) (rule_code n r e)

    pub row_code : {xs : List ℕ} {i j : ℕ} (d : Row t xs i j) (u : ℕ) → Code u → Code (row_weight d u)
    row_code (none within) u cu = cu
    row_code (more child rest) u cu =
        row_code rest (t.weights.join u (tree_weight child)) (s.weighing.joins_code u (tree_weight child) cu (tree_code child))

  pub weight_code : (e : Edge) (d : Derives t e) → Code (weight_of t e d)
  weight_code (Passive x i j) d = tree_code d
  weight_code (Active n k i j) d = row_code d.3 (t.weights.weigh d.0.mark) (rule_code n d.0 d.1)

  pub weighs_code : (e : Edge) (v : ℕ) → Weighs t e v → Code v
  weighs_code e v d = subst Code d.1 (weight_code e d.0)

  -- SPANS LIE WITHIN THE LATTICE

  pub row_end : {xs : List ℕ} {i j : ℕ} → Row t xs i j → j ≤ t.last
  row_end (none within) = within
  row_end (more child rest) = row_end rest

  pub tree_end : {x i j : ℕ} → Tree t x i j → j ≤ t.last
  tree_end (word n w e) = (word_of n w e).ends
  tree_end (rule n r e row) = row_end row

  mutual
    tree_forward : {x i j : ℕ} → Tree t x i j → i ≤ j
    tree_forward (word n w e) = (word_of n w e).ordered
    tree_forward (rule n r e row) = row_forward row

    row_forward : {xs : List ℕ} {i j : ℕ} → Row t xs i j → i ≤ j
    row_forward (none {i} within) = le_refl i
    row_forward (more child rest) = le_trans (tree_forward child) (row_forward rest)

  pub lies_within : (e : Edge) → Derives t e → LiesWithin t.last e
  lies_within (Passive x i j) d = (tree_forward d, tree_end d)
  lies_within (Active n k i j) d = (row_forward d.3, row_end d.3)

  -- ONE CHILD MORE

  row_more : {xs : List ℕ} {i j : ℕ} (row : Row t xs i j) (x k : ℕ) (child : Tree t x j k) →
      (longer : Row t (xs ++ (x ∷ [])) i k) × ((u : ℕ) → row_weight longer u ≡ t.weights.join (row_weight row u) (tree_weight child))
      × (row_nodes longer ≡ row_nodes row ++ tree_nodes child)
  row_more (none within) x k child = (more child (none (tree_end child)), λ u. refl, append-nil (tree_nodes child))
  row_more (more first rest) x k child =
      let after = row_more rest x k child in (
        more first after.0,
        λ u. after.1 (t.weights.join u (tree_weight first)),
        ap (λ ns. tree_nodes first ++ ns) after.2 ∙ sym (append_assoc (tree_nodes first) (row_nodes rest) (tree_nodes child)),
      )

  pub begun_first : (r : Rule) (x i j w : ℕ) (ns : List Node) → slice_get r.right 0 ≡ Some x → Reads t (Passive x i j) w ns →
      Begun t r 1 i j (t.weights.join (t.weights.weigh r.mark) w) ns
  begun_first r x i j w ns e d =
      subst (λ xs. Rows t r xs i j (t.weights.join (t.weights.weigh r.mark) w) ns) (sym (take_one_more r.right 0 x e)) (
        more d.0 (none (tree_end d.0)),
        ap (λ v. t.weights.join (t.weights.weigh r.mark) v) d.1,
        append-nil (tree_nodes d.0) ∙ d.2,
      )

  pub begun_more : (r : Rule) (k x i j l v w : ℕ) (ms ns : List Node) → slice_get r.right k ≡ Some x →
      Begun t r k i j v ms → Reads t (Passive x j l) w ns → Begun t r (suc k) i l (t.weights.join v w) (ms ++ ns)
  begun_more r k x i j l v w ms ns e b d =
      let after = row_more b.0 x l d.0 in
      subst (λ xs. Rows t r xs i l (t.weights.join v w) (ms ++ ns)) (sym (take_one_more r.right k x e)) (
        after.0,
        after.1 (t.weights.weigh r.mark) ∙ (λ d'. t.weights.join (b.1 d') (d.1 d')),
        after.2 ∙ (λ d'. b.2 d' ++ d.2 d'),
      )

  pub begun_rule_edge : (n : ℕ) (r : Rule) (k i j v : ℕ) (ns : List Node) → slice_get t.rules n ≡ Some r → 0 < k → k ≤ length r.right →
      Begun t r k i j v ns → RuleReads t n ns (rule_edge n r k i j) v
  begun_rule_edge n r k i j v ns e some within b = go (eqb k (length r.right)) refl
    where
      go : (test : Bool) → eqb k (length r.right) ≡ test → RuleReads t n ns (elim test [ true ↦ Passive r.left i j | false ↦ Active n k i j ]) v
      go true h =
          let whole = subst (λ xs. Rows t r xs i j v ns) (ap (λ m. take m r.right) (eqb-true k (length r.right) h) ∙ take_all (length r.right) r.right (omega arith)) b in
          (rule n r e whole.0, whole.1, ap (λ ms. node RuleNode n i j ∷ ms) whole.2)
      go false h =
          let apart = eqb-false k (length r.right) h in
          let less : k < length r.right = omega arith in
          ((r, e, (some, less), b.0), b.1, b.2)
