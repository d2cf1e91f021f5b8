-- The loop over the nodes of a lattice, at which the empty rules arrive. Assumes nothing.
use Rattle.std.proofs.Common.{◌≡◌, ℕ, suc, ◌+◌, ◌-◌, ◌<◌, List, ◌++◌, sym, ap, ◌∙◌, arith}
use Rattle.std.proofs.lemmas.List.Sums.{fold-append}
use Rattle.weighing.specs.Laws.{Weights}
use Rattle.grammar.specs.Rules.{Rule}
use Rattle.chart_model.specs.Plain.{Chart, gathered, arrive, arrive_all, empty_brings, nodes_bring}
use Rattle.chart.specs.View.{room}

module _ (ws : Weights) (rules : List Rule) (end : ℕ) where
  -- what the nodes from n on bring to the chart makes the whole
  pub record NodesLeft (n : ℕ) (c whole : Chart) : Type 0 where
    pub gives : arrive_all room ws.lighter c (nodes_bring ws rules n (end - n)) ≡ whole

  pub nodes_more : (n : ℕ) (c d whole : Chart) → n < end → NodesLeft n c whole → d ≡ arrive_all room ws.lighter c (gathered (empty_brings ws n) 0 rules) → NodesLeft (n + 1) d whole
  nodes_more n c d whole within left arrived =
      let here = gathered (empty_brings ws n) 0 rules in
      let later = nodes_bring ws rules (n + 1) (end - (n + 1)) in
      let one_more : end - n ≡ suc (end - (n + 1)) = omega arith in
      let next : suc n ≡ n + 1 = omega arith in
      record {
        gives =
            ap (λ x. arrive_all room ws.lighter x later) arrived
            ∙ sym (fold-append (arrive room ws.lighter) c here later)
            ∙ sym (ap (λ k. arrive_all room ws.lighter c (nodes_bring ws rules n k)) one_more
            ∙ ap (λ m. arrive_all room ws.lighter c (here ++ nodes_bring ws rules m (end - (n + 1)))) next)
            ∙ left.gives;
      }
