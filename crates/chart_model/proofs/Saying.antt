-- What the answers to questions say of derivations. Assumes nothing.
use Rattle.std.proofs.Common.{◌≡◌, ℕ, ◌<◌, Bool, true, false, leb, ◌⊎◌, List, ◌++◌, length, take, drop, Some, None, Ok, Err, Option, Result, sym, refl, ap, ◌∙◌, subst, inl, inr, arith}
use Rattle.std.specs.Option.{ok_or}
use Rattle.std.proofs.lemmas.Bool.{true≢false, and_parts, and_from, leb-true, leb-false, le-leb}
use Rattle.chart_model.specs.Task.{Task, Sound}
use Rattle.chart_model.specs.Derivation.{Derives, tree_weight}
use Rattle.chart_model.specs.Listing.{tree_nodes}
use Rattle.chart_model.specs.Plain.{Chart, edge_of, is_within, carried, working_answer, missing_number, settled_answer}
use Rattle.chart_model.specs.Stands.{Carries, Unfinished, EdgesExceed, Stands, Complete, Reachable, Stopped, LawOfTheLightest}
use Rattle.chart_model.specs.Reading.{reading, overwritten, fitting, reading_answer, reading_list}
use Rattle.chart_model.specs.Saying.{Lies, QuestionSays, WorkingSays, SettledSays, TreeOf, Written, ReadingSays, LawOfAnswers}
use Rattle.chart_model.specs.declared.edge.Edge.{Edge}
use Rattle.chart_model.specs.declared.node.Node.{Node}
use Rattle.chart_model.specs.declared.phrase.Phrase.{Phrase}
use Rattle.chart_model.proofs.Law.{law_of_the_lightest}
use Rattle.chart_model.proofs.Lists.{overwritten_fits, overwritten_short}
use Rattle.chart_model.proofs.Readings.{law_of_readings}

-- two numbers of refusals that are one
same_number : (m n : ℕ) → ◌≡◌ {A = Result ℕ ℕ} (Err m) (Err n) → m ≡ n
same_number m n e = cc

module _ (t : Task) (law : LawOfTheLightest t) (c : Chart) (stands : Stands t c) (p : Phrase) where
  abbrev edge : Edge
  edge = edge_of p

  -- the three ways to answer, where edges that are not finished are refused by some number
  data Way (missing : ℕ) (answer : Result ℕ ℕ) : Type 0 where
    is_outside : (Lies t p → ⊥) → answer ≡ Err 7 → Way missing answer
    is_finished : (w : ℕ) → Carries c edge w → answer ≡ Ok w → Way missing answer
    is_missing : Lies t p → Unfinished c edge → answer ≡ Err missing → Way missing answer

  within : is_within t.last p ≡ true → Lies t p
  within h =
      let (a, b) = and_parts (leb p.from p.to) (leb p.to t.last) h in
      (leb-true p.from p.to a, leb-true p.to t.last b)

  way : (missing : ℕ) → Way missing (elim (is_within t.last p) [ true ↦ ok_or (carried edge c.places) missing | false ↦ Err 7 ])
  way missing = go (is_within t.last p) refl (carried edge c.places) refl
    where
      go : (b : Bool) → is_within t.last p ≡ b → (o : Option ℕ) → carried edge c.places ≡ o →
          Way missing (elim b as (λ _. Result ℕ ℕ) [ true ↦ ok_or o missing | false ↦ Err 7 ])
      go true h (Some w) e = is_finished w e refl
      go true h None e = is_missing (within h) e refl
      go false h o e =
          is_outside (λ (a, b). true≢false (sym (and_from (leb p.from p.to) (leb p.to t.last) (le-leb p.from p.to a) (le-leb p.to t.last b)) ∙ h)) refl

  finished_within : (w : ℕ) → Carries c edge w → Lies t p
  finished_within w h = law.within edge (stands.derived edge w h).0

  module _ (missing : ℕ) (apart : missing ≡ 7 → ⊥) (answer : Result ℕ ℕ) where
    question_by : Way missing answer → QuestionSays t c p answer
    question_by (is_outside out e) =
        record {
          span = (λ _. out, λ _. e);
          finished = λ w. (λ f. absurd cc, λ h. absurd (out (finished_within w h)));
          derived = λ w f. absurd cc;
          least = λ w f. absurd cc;
        }
    question_by (is_finished v h e) =
        record {
          span = (λ f. absurd cc, λ out. absurd (out (finished_within v h)));
          finished = λ w. (λ f. cc, λ g. cc);
          derived = λ w f. stands.derived edge w cc;
          least = λ w f. stands.least edge w cc;
        }
    question_by (is_missing inside none e) =
        record {
          span = (λ f. absurd (apart (same_number missing 7 (sym e ∙ f))), λ out. absurd (out inside));
          finished = λ w. (λ f. absurd cc, λ h. absurd cc);
          derived = λ w f. absurd cc;
          least = λ w f. absurd cc;
        }

    -- that number comes exactly for an unfinished edge within the lattice
    missing_only : Way missing answer → answer ≡ Err missing → Lies t p × Unfinished c edge
    missing_only (is_outside out e) f = absurd (apart (sym (same_number 7 missing (sym e ∙ f))))
    missing_only (is_finished v h e) f = absurd cc
    missing_only (is_missing inside none e) f = (inside, none)

    only_missing : Way missing answer → Lies t p → Unfinished c edge → answer ≡ Err missing
    only_missing (is_outside out e) inside none = absurd (out inside)
    only_missing (is_finished v h e) inside none = absurd cc
    only_missing (is_missing _ _ e) inside none = e

    refused_so : Way missing answer → (number : ℕ) → answer ≡ Err number → (number ≡ 7) ⊎ (number ≡ missing)
    refused_so (is_outside out e) number f = inl (sym (same_number 7 number (sym e ∙ f)))
    refused_so (is_finished v h e) number f = absurd cc
    refused_so (is_missing inside none e) number f = inr (sym (same_number missing number (sym e ∙ f)))

    -- and no other number but 7
    never : (other : ℕ) → (other ≡ 7 → ⊥) → (missing ≡ other → ⊥) → Way missing answer → answer ≡ Err other → ⊥
    never other away apart' (is_outside out e) f = away (sym (same_number 7 other (sym e ∙ f)))
    never other away apart' (is_finished v h e) f = cc
    never other away apart' (is_missing inside none e) f = apart' (same_number missing other (sym e ∙ f))

  pub working_question : (r : Result ℕ ℕ) → r ≡ working_answer t c p → WorkingSays t c p r
  working_question r h =
      let how = subst (Way 8) (sym h) (way 8) in
      record {
        question = question_by 8 (λ e. omega arith) r how;
        not_finished = (missing_only 8 (λ e. omega arith) r how, λ (inside, none). only_missing 8 (λ e. omega arith) r how inside none);
        refusals = refused_so 8 (λ e. omega arith) r how;
      }

  module _ (room : ℕ) (settled : Complete t room c) where
    pub settled_question : (r : Result ℕ ℕ) → r ≡ settled_answer t c p → SettledSays t room c p r
    settled_question r h = go c.full refl (subst (Way (missing_number c)) (sym h) (way (missing_number c)))
      where
        either : (number : ℕ) {missing : ℕ} → (number ≡ missing → (number ≡ 9) ⊎ (number ≡ 10)) → (number ≡ 7) ⊎ (number ≡ missing) →
            (number ≡ 7) ⊎ ((number ≡ 9) ⊎ (number ≡ 10))
        either number which (inl h) = inl h
        either number which (inr h) = inr (which h)

        underived_missing : Way 9 r → Lies t p → (Derives t edge → ⊥) → r ≡ Err 9
        underived_missing (is_outside out e) inside none = absurd (out inside)
        underived_missing (is_finished w h e) inside none = absurd (none (stands.derived edge w h).0)
        underived_missing (is_missing _ _ e) inside none = e

        go : (b : Bool) → c.full ≡ b → Way (elim b as (λ _. ℕ) [ true ↦ 10 | false ↦ 9 ]) r → SettledSays t room c p r
        go true f how =
            let exceeds = settled.full_exceeds f in
            record {
              question = question_by 10 (λ e. omega arith) r how;
              full = (
                λ e. let (inside, none) = missing_only 10 (λ e. omega arith) r how e in (inside, none, exceeds),
                λ (inside, none, _). only_missing 10 (λ e. omega arith) r how inside none,
              );
              no_derivation = (
                λ e. absurd (never 10 (λ e. omega arith) r 9 (λ e. omega arith) (λ e. omega arith) how e),
                λ (inside, few, _). absurd (few exceeds),
              );
              refusals = λ number e. either number (λ f. inr f) (refused_so 10 (λ e. omega arith) r how number e);
            }
        go false f how =
            let few : EdgesExceed t room → ⊥ = λ exceeds. let full = settled.exceeding_full exceeds in cc in
            let underived : Unfinished c edge → Derives t edge → ⊥ = λ none d. let (w, h) = settled.all_finished f edge d in cc in
            record {
              question = question_by 9 (λ e. omega arith) r how;
              full = (
                λ e. absurd (never 9 (λ e. omega arith) r 10 (λ e. omega arith) (λ e. omega arith) how e),
                λ (inside, none, exceeds). absurd (few exceeds),
              );
              no_derivation = (
                λ e. let (inside, none) = missing_only 9 (λ e. omega arith) r how e in (inside, few, underived none),
                λ (inside, _, none). underived_missing how inside none,
              );
              refusals = λ number e. either number (λ f. inl f) (refused_so 9 (λ e. omega arith) r how number e);
            }

-- READINGS

module _ {t : Task} (s : Sound t) (c : Chart) (reachable : Reachable t c) (p : Phrase) (before : List Node) where
  abbrev ns : List Node
  ns = reading c.places (edge_of p)

  -- the listing of a derivation, by whether there is room for it
  listed : (w : ℕ) → Carries c (edge_of p) w → Written t p before (overwritten ns before) (Ok w) (fitting (length before) ns)
  listed w carries = go (leb (length ns) (length before)) refl
    where
      read : (d : TreeOf t p) × (tree_weight d ≡ w) × (tree_nodes d ≡ ns)
      read = law_of_readings t s c reachable p w carries

      go : (b : Bool) → leb (length ns) (length before) ≡ b →
          Written t p before (overwritten ns before) (Ok w) (elim b as (λ _. Result ℕ ℕ) [ true ↦ Ok (length ns) | false ↦ Err 12 ])
      go true h =
          let (d, weight, nodes) = read in
          let fits = leb-true (length ns) (length before) h in
          (d, weight, (ap length (sym nodes), fits, overwritten_fits ns before fits ∙ ap (λ ms. ms ++ drop (length ns) before) (sym nodes)))
      go false h =
          let (d, weight, nodes) = read in
          let past : length before < length ns = leb-false (length ns) (length before) h in
          (d, weight, (subst (λ ms. length before < length ms) (sym nodes) past, overwritten_short ns before (omega arith) ∙ ap (take (length before)) (sym nodes)), refl)

  written : (asked : Result ℕ ℕ) → ((w : ℕ) → asked ≡ Ok w → Carries c (edge_of p) w) →
      Written t p before (elim asked as (λ _. List Node) [ Ok w ↦ overwritten ns before | Err number ↦ before ]) asked
      (elim asked as (λ _. Result ℕ ℕ) [ Ok w ↦ fitting (length before) ns | Err number ↦ Err number ])
  written (Ok w) carries = listed w (carries w refl)
  written (Err number) carries = (refl, refl)

-- WHAT THE CHARTS OF A SOUND TASK SAY

pub law_of_answers : (t : Task) → Sound t → LawOfAnswers t
law_of_answers t s = record { working = works; settled = settles; read = reads }
  where
    law : LawOfTheLightest t
    law = law_of_the_lightest t s

    works : (c : Chart) → Reachable t c → (p : Phrase) → WorkingSays t c p (working_answer t c p)
    works c reachable p = working_question t law c (law.stands c reachable) p (working_answer t c p) refl

    settles : (room : ℕ) (c : Chart) → Stopped t room c → (p : Phrase) → SettledSays t room c p (settled_answer t c p)
    settles room c halted p =
        settled_question t law c (law.stands c halted.reachable) p room (law.complete room c halted) (settled_answer t c p) refl

    reads : (room : ℕ) (c : Chart) → Stopped t room c → (p : Phrase) (before : List Node) →
        ReadingSays t room c p before (reading_list t c p before) (reading_answer t c p (length before))
    reads room c halted p before =
        let says = settles room c halted p in
        (settled_answer t c p, says, written s c halted.reachable p before (settled_answer t c p) (λ w. (says.question.finished w).0))
