-- What the parse of a line is, and what it says of derivations. Assumes nothing.
use Rattle.std.proofs.Common.{◌≡◌, ℕ, ◌<◌, ◌≤◌, ◌⊎◌, Bool, true, false, leb, List, [], ◌∷◌, ◌++◌, length, take, drop, None, Some, Ok, Err, Result, sym, refl, ap, ◌∙◌, subst, inl, inr, arith}
use Rattle.std.proofs.lemmas.Bool.{leb-true}
use Rattle.grammars.specs.Count.{line}
use Rattle.lattice.specs.declared.word.Word.{Word}
use Rattle.lattices.specs.Heard.{largest_end}
use Rattle.chart_model.specs.Task.{Task}
use Rattle.chart_model.specs.Derivation.{tree_weight}
use Rattle.chart_model.specs.Listing.{tree_nodes}
use Rattle.chart_model.specs.Plain.{Chart, settled_answer}
use Rattle.chart_model.specs.Reading.{reading, overwritten, reading_list}
use Rattle.chart_model.specs.Saying.{Lies, SettledSays}
use Rattle.chart_model.specs.Stands.{Unfinished, NoneLighter}
use Rattle.chart_model.specs.declared.node.Node.{Node}
use Rattle.chart_model.specs.declared.phrase.Phrase.{Phrase}
use Rattle.chart_model.proofs.Lists.{overwritten_fits}
use Rattle.chart.specs.Saying.{ListedSays, beside, listed_answer}
use Rattle.chart.specs.View.{room}
use Rattle.chart.specs.declared.read.Listed.{Listed}
use Rattle.stock_reader.specs.Line.{line_task, line_phrase, line_chart, whole_line, LineTree, most_nodes, WeightAndNodes, fitting, line_parse, LineSays}

-- two answers that are refused by one number
same_number : {A : Type 0} (m n : ℕ) → ◌≡◌ {A = Result A ℕ} (Err m) (Err n) → m ≡ n
same_number m n e = cc

same_read : {A : Type 0} (a b : A) → ◌≡◌ {A = Result A ℕ} (Ok a) (Ok b) → a ≡ b
same_read a b e = cc

-- WHAT AN ANSWER SAYS

module _ (ws : List Word) where
  abbrev t : Task
  t = line_task ws

  abbrev c : Chart
  c = line_chart ws

  abbrev p : Phrase
  p = line_phrase ws

  lies : Lies t p
  lies = (omega arith, omega arith)

  -- a refusal of a question
  refusal_says : (number : ℕ) → SettledSays t room c p (Err number) → LineSays ws (Err number)
  refusal_says number so =
      record {
        read = λ w ns e. absurd cc;
        too_long = λ e. absurd (never (same_number number 12 e) (so.refusals number refl));
        no_derivation = (
          λ e. let (inside, few, none) = so.no_derivation.0 (ap Err (same_number number 9 e)) in (none, few),
          λ (none, few). ap Err (same_number number 9 (so.no_derivation.1 (lies, few, none))),
        );
        full = (
          λ e. let (inside, none, exceeds) = so.full.0 (ap Err (same_number number 10 e)) in (none, exceeds),
          λ (none, exceeds). ap Err (same_number number 10 (so.full.1 (lies, none, exceeds))),
        );
        refusals = λ other e. among (same_number number other e) (so.refusals number refl);
      }
    where
      never : number ≡ 12 → (number ≡ 7) ⊎ ((number ≡ 9) ⊎ (number ≡ 10)) → ⊥
      never twelve (inl h) = omega arith
      never twelve (inr (inl h)) = omega arith
      never twelve (inr (inr h)) = omega arith

      among : {other : ℕ} → number ≡ other → (number ≡ 7) ⊎ ((number ≡ 9) ⊎ (number ≡ 10)) → (other ≡ 9) ⊎ ((other ≡ 10) ⊎ (other ≡ 12))
      among same (inl h) = absurd (so.question.span.0 (ap Err h) lies)
      among same (inr (inl h)) = inl (sym same ∙ h)
      among same (inr (inr h)) = inr (inl (sym same ∙ h))

  module _ (w : ℕ) (so : SettledSays t room c p (Ok w)) where
    carries : Unfinished c (whole_line ws) → ⊥
    carries none = let some = (so.question.finished w).0 refl in let e : ◌≡◌ None (Some w) = sym none ∙ some in cc

    -- a reading that is too long
    long_says : (d : LineTree ws) → tree_weight d ≡ w → most_nodes < length (tree_nodes d) → LineSays ws (Err 12)
    long_says d weight long =
        record {
          read = λ v ns e. absurd cc;
          too_long = λ e. (d, subst (NoneLighter t (whole_line ws)) (sym weight) (so.question.least w refl), long);
          no_derivation = (λ e. absurd (let n = same_number 12 9 e in omega arith), λ (none, few). absurd (none d));
          full = (λ e. absurd (let n = same_number 12 10 e in omega arith), λ (none, exceeds). absurd (carries none));
          refusals = λ other e. inr (inr (sym (same_number 12 other e)));
        }

    -- and one that is written
    read_says : (d : LineTree ws) → tree_weight d ≡ w → (ns : List Node) → tree_nodes d ≡ ns → LineSays ws (Ok (w, ns))
    read_says d weight ns nodes =
        record {
          read = λ v ms e.
              let both = same_read (w, ns) (v, ms) e in
              let same : w ≡ v = ap (λ (x : WeightAndNodes). x.0) both in
              let list : ns ≡ ms = ap (λ (x : WeightAndNodes). x.1) both in
              (d, weight ∙ same, nodes ∙ list, subst (NoneLighter t (whole_line ws)) same (so.question.least w refl));
          too_long = λ e. absurd cc;
          no_derivation = (λ e. absurd cc, λ (none, few). absurd (none d));
          full = (λ e. absurd cc, λ (none, exceeds). absurd (carries none));
          refusals = λ other e. absurd cc;
        }

-- A LIST THAT WAS LENT AS A WHOLE

-- the first so many of a list, after it was lent and came back so
abbrev pub kept : ℕ → List Node → List Node → List Node
kept n all after = take n (take (length all) (after ++ drop (length after) all))

kept_first : (ns rest all : List Node) → length ns ≤ length all → kept (length ns) all (ns ++ rest) ≡ ns
kept_first [] rest all fits = refl
kept_first (x ∷ ns) rest [] fits = absurd (omega arith)
kept_first (x ∷ ns) rest (a ∷ all) fits = ap (λ ms. x ∷ ms) (kept_first ns rest all (omega arith))

-- WHAT IS READ

module _ (ws : List Word) (before after : List Node) (whole : length before ≡ most_nodes) where
  abbrev nodes : List Node
  nodes = reading (line_chart ws).places (whole_line ws)

  -- how many nodes, by whether there is room for them
  abbrev counted : Bool → Result ℕ ℕ
  counted fits = elim fits as (λ _. Result ℕ ℕ) [ true ↦ Ok (length nodes) | false ↦ Err 12 ]

  abbrev fits_all : Bool
  fits_all = leb (length nodes) (length before)

  -- an answer with the weight beside it, by the answer to a question
  abbrev listed : Result ℕ ℕ → Result Listed ℕ
  listed o = elim o as (λ _. Result Listed ℕ) [ Ok w ↦ beside w (elim o as (λ _. Result ℕ ℕ) [ Ok v ↦ counted fits_all | Err n ↦ Err n ]) | Err n ↦ Err n ]

  abbrev read_so : Result ℕ ℕ → Result WeightAndNodes ℕ
  read_so o = elim o as (λ _. Result WeightAndNodes ℕ) [ Ok w ↦ fitting w nodes | Err n ↦ Err n ]

  same_room : leb (length nodes) most_nodes ≡ fits_all
  same_room = ap (leb (length nodes)) (sym whole)

  refused_so : (number : ℕ) (o : Result ℕ ℕ) → Err number ≡ listed o → Err number ≡ read_so o
  refused_so number (Err n) h = cc
  refused_so number (Ok w) h = go fits_all h ∙ ap (λ b. elim b as (λ _. Result WeightAndNodes ℕ) [ true ↦ Ok (w, nodes) | false ↦ Err 12 ]) (sym same_room)
    where
      go : (b : Bool) → Err number ≡ beside w (counted b) → Err number ≡ elim b as (λ _. Result WeightAndNodes ℕ) [ true ↦ Ok (w, nodes) | false ↦ Err 12 ]
      go true g = absurd cc
      go false g = cc

  said : (l : Listed) (o : Result ℕ ℕ) → Ok l ≡ listed o → after ≡ elim o as (λ _. List Node) [ Ok w ↦ overwritten nodes before | Err n ↦ before ] →
      (all : List Node) → length all ≡ most_nodes → Ok (l.weight, kept l.nodes all after) ≡ read_so o
  said l (Err n) h written all room = absurd cc
  said l (Ok w) h written all room = go fits_all refl h ∙ ap (λ b. elim b as (λ _. Result WeightAndNodes ℕ) [ true ↦ Ok (w, nodes) | false ↦ Err 12 ]) (sym same_room)
    where
      go : (b : Bool) → fits_all ≡ b → Ok l ≡ beside w (counted b) → Ok (l.weight, kept l.nodes all after) ≡ elim b as (λ _. Result WeightAndNodes ℕ) [ true ↦ Ok (w, nodes) | false ↦ Err 12 ]
      go false fits g = absurd cc
      go true fits g =
          let within : length nodes ≤ length before = leb-true (length nodes) (length before) fits in
          let in_all : length nodes ≤ length all = omega arith in
          let is : l ≡ record { weight = w; nodes = length nodes } = cc in
          let list : after ≡ nodes ++ drop (length nodes) before = written ∙ overwritten_fits nodes before within in
          ap (λ (k : Listed). Ok (k.weight, kept k.nodes all after)) is
          ∙ ap (λ ms. Ok (w, kept (length nodes) all ms)) list
          ∙ ap (λ ms. Ok (w, ms)) (kept_first nodes (drop (length nodes) before) all in_all)

  -- what is read, and what it says
  pub record Read (r : Result WeightAndNodes ℕ) : Type 0 where
    pub answer : r ≡ line_parse ws
    pub says : LineSays ws r

  -- a phrase up to some node, which is the last
  abbrev up_to : ℕ → Phrase
  up_to to = record { symbol = line; from = 0; to = to }

  pub line_refused : (to : ℕ) → to ≡ largest_end ws → (number : ℕ) →
      Err number ≡ listed_answer (line_task ws) (line_chart ws) (up_to to) (length before) →
      ListedSays (line_task ws) (line_chart ws) (up_to to) before after (Err number) → Read (Err number)
  line_refused to end number h says =
      record {
        answer = refused_so number (settled_answer (line_task ws) (line_chart ws) (line_phrase ws)) (subst (λ n. Err number ≡ listed_answer (line_task ws) (line_chart ws) (up_to n) (length before)) end h);
        says = go (subst (λ n. ListedSays (line_task ws) (line_chart ws) (up_to n) before after (Err number)) end says);
      }
    where
      go : ListedSays (line_task ws) (line_chart ws) (line_phrase ws) before after (Err number) → LineSays ws (Err number)
      go (Ok w, so, (d, weight, (long, list), twelve), tt) =
          subst (λ n. LineSays ws (Err n)) (sym twelve) (long_says ws w so d weight (subst (λ n. n < length (tree_nodes d)) whole long))
      go (Err asked, so, (same, list), tt) =
          subst (λ n. LineSays ws (Err n)) (sym (same_number number asked same)) (refusal_says ws asked so)

  pub line_read : (to : ℕ) → to ≡ largest_end ws → (l : Listed) →
      Ok l ≡ listed_answer (line_task ws) (line_chart ws) (up_to to) (length before) →
      after ≡ reading_list (line_task ws) (line_chart ws) (up_to to) before →
      ListedSays (line_task ws) (line_chart ws) (up_to to) before after (Ok l) →
      (all : List Node) → length all ≡ most_nodes → (w : ℕ) (items : List Node) → w ≡ l.weight → items ≡ kept l.nodes all after → Read (Ok (w, items))
  line_read to end l h list says all room w items weight is =
      record {
        answer =
            ap Ok (ap (λ v. (v, items)) weight ∙ ap (λ ms. (l.weight, ms)) is)
            ∙ said l (settled_answer (line_task ws) (line_chart ws) (line_phrase ws))
            (subst (λ n. Ok l ≡ listed_answer (line_task ws) (line_chart ws) (up_to n) (length before)) end h)
            (subst (λ n. after ≡ reading_list (line_task ws) (line_chart ws) (up_to n) before) end list) all room;
        says = go (subst (λ n. ListedSays (line_task ws) (line_chart ws) (up_to n) before after (Ok l)) end says);
      }
    where
      go : ListedSays (line_task ws) (line_chart ws) (line_phrase ws) before after (Ok l) → LineSays ws (Ok (w, items))
      go (Err other, so, (same, kept_so), said) = absurd cc
      go (Ok v, so, (d, tree_is, (count, within, listed_so)), said) =
          let same : v ≡ w = cc in
          let in_all : length (tree_nodes d) ≤ length all = omega arith in
          subst (λ u. LineSays ws (Ok (u, items))) same
          (read_says ws v so d tree_is items
          (sym (is ∙ ap (λ n. kept n all after) count ∙ ap (kept (length (tree_nodes d)) all) listed_so ∙ kept_first (tree_nodes d) (drop l.nodes before) all in_all)))
