-- How charts are reached, and so what they say of derivations. Assumes nothing.
use Rattle.std.proofs.Common.{◌≡◌, ℕ, suc, true, List, length, Err, Result, sym, ap, ◌∙◌, subst, subst₂}
use Rattle.std.proofs.Math.Logic.{∥∥₁_map}
use Rattle.std.proofs.lemmas.List.Sums.{fold-append}
use Rattle.weighing.specs.Laws.{Lawful}
use Rattle.weighing.specs.declared.Weighing.{Ghosts as WeighingGhosts}
use Rattle.grammar.specs.declared.Grammar.{Ghosts as GrammarGhosts}
use Rattle.lattice.specs.declared.Lattice.{Ghosts as LatticeGhosts}
use Rattle.chart_model.specs.Task.{Task, Sound}
use Rattle.chart_model.specs.Plain.{Chart, blank, arrive, arrive_all, gathered, word_brings, nodes_bring, opened, step, step_answer, stopped, stop_number, settled, working_answer, settled_answer}
use Rattle.chart_model.specs.Reading.{reading_answer, reading_list}
use Rattle.chart_model.specs.Stands.{Stands, Complete, Fits, Stopped, Reachable, by_opening, by_step}
use Rattle.chart_model.specs.Saying.{WorkingSays, SettledSays, ReadingSays}
use Rattle.chart_model.specs.declared.node.Node.{Node}
use Rattle.chart_model.specs.declared.phrase.Phrase.{Phrase}
use Rattle.chart_model.proofs.Law.{law_of_the_lightest}
use Rattle.chart_model.proofs.Rerunning.{how_reachable}
use Rattle.chart_model.proofs.Saying.{law_of_answers}
use Rattle.chart_model.proofs.Stepping.{reachable_steps}
use Rattle.chart_model.proofs.Stopping.{stopped_refuses}
use Rattle.chart.specs.declared.setting.Setting.{Setting}
use Rattle.chart.specs.View.{room}
use Rattle.chart.specs.Settings.{task}
use Rattle.chart.proofs.Soundness.{sound_parts}

-- what the three of a setting show of themselves
pub sound_of : {G L W : Type 0} {g : GrammarGhosts G} {l : LatticeGhosts L} {w : WeighingGhosts W} → ((x : W) → Lawful (w.weights x)) →
    (s : Setting G L W g l w) → Sound (task s)
sound_of {g = g} {l = l} {w = w} lawful s = sound_parts g l w lawful s.grammar s.lattice s.weighing

-- OPENING AND STEPS

module _ (t : Task) where
  -- words, and then the empty rules at every node
  pub opens : (b d e : Chart) → b ≡ blank →
      d ≡ arrive_all room t.weights.lighter b (gathered (word_brings t.weights) 0 t.words) →
      e ≡ arrive_all room t.weights.lighter d (nodes_bring t.weights t.rules 0 (suc t.last)) → e ≡ opened t room
  opens b d e start words nodes =
      let first = gathered (word_brings t.weights) 0 t.words in
      let later = nodes_bring t.weights t.rules 0 (suc t.last) in
      nodes
      ∙ ap (λ c. arrive_all room t.weights.lighter c later) (words ∙ ap (λ c. arrive_all room t.weights.lighter c first) start)
      ∙ sym (fold-append (arrive room t.weights.lighter) blank first later)

  pub opening_reachable : (c : Chart) → c ≡ opened t room → ∥ Reachable t c ∥₁
  opening_reachable c is = ∣ subst (Reachable t) (sym is) (by_opening room) ∣₁

  pub step_reachable : (b c : Chart) → c ≡ step t room b → ∥ Reachable t b ∥₁ → ∥ Reachable t c ∥₁
  step_reachable b c is from = ∥∥₁_map from (λ r. subst (Reachable t) (sym is) (by_step room r))

  pub settling_reachable : (b c : Chart) → c ≡ settled t room b → ∥ Reachable t b ∥₁ → ∥ Reachable t c ∥₁
  settling_reachable b c is from = ∥∥₁_map from (λ r. subst (Reachable t) (sym is) (reachable_steps t room room b r))

  pub halted_refusing : (c : Chart) → stopped t c ≡ true → step_answer t room c ≡ Err (stop_number c)
  halted_refusing c halted = stopped_refuses t room c halted

-- WHAT SUCH A CHART SAYS

module _ {t : Task} (s : Sound t) (c : Chart) (from : ∥ Reachable t c ∥₁) where
  reachable : Reachable t c
  reachable = how_reachable t c from

  pub stands_of : Stands t c
  stands_of = (law_of_the_lightest t s).stands c reachable

  pub working_says : (p : Phrase) (r : Result ℕ ℕ) → r ≡ working_answer t c p → WorkingSays t c p r
  working_says p r is = subst (WorkingSays t c p) (sym is) ((law_of_answers t s).working c reachable p)

  -- and one that takes no step any more
  module _ (fits : Fits room c) (halted : stopped t c ≡ true) where
    at_stop : Stopped t room c
    at_stop = record { reachable = reachable; fits = fits; stopped = halted }

    pub complete_of : Complete t room c
    complete_of = (law_of_the_lightest t s).complete room c at_stop

    pub settled_says : (p : Phrase) (r : Result ℕ ℕ) → r ≡ settled_answer t c p → SettledSays t room c p r
    settled_says p r is = subst (SettledSays t room c p) (sym is) ((law_of_answers t s).settled room c at_stop p)

    pub reading_says : (p : Phrase) (before after : List Node) (r : Result ℕ ℕ) →
        after ≡ reading_list t c p before → r ≡ reading_answer t c p (length before) → ReadingSays t room c p before after r
    reading_says p before after r list is =
        subst₂ (ReadingSays t room c p before) (sym list) (sym is) ((law_of_answers t s).read room c at_stop p before)
