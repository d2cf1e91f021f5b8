-- The order of weights: `AtMost ws a b` says that a and b are codes and that a is not heavier than b. Assumes nothing.
use Rattle.std.proofs.Common.{◌≡◌, ℕ, true, false, ◌⊎◌, sym, ◌∙◌, subst, inl, inr}
use Rattle.weighing.specs.Laws.{Weights, Lawful, Code}
use Rattle.std.proofs.lemmas.Bool.{true≢false, cases_eq, false_from_ne_true}

abbrev pub AtMost : Weights → ℕ → ℕ → Type 0
AtMost ws a b = Code a × Code b × (ws.lighter b a ≡ false)

module _ (ws : Weights) (law : Lawful ws) where
  pub at_most_refl : (a : ℕ) → Code a → AtMost ws a a
  at_most_refl a ca = (ca, ca, law.irreflexive a ca)

  -- what is lighter is not heavier
  pub at_most_lighter : (a b : ℕ) → Code a → Code b → ws.lighter a b ≡ true → AtMost ws a b
  at_most_lighter a b ca cb lt =
      (ca, cb, false_from_ne_true (ws.lighter b a) (λ back. true≢false (sym (law.transitive a b a ca cb ca lt back) ∙ law.irreflexive a ca)))

  pub at_most_trans : (a b c : ℕ) → AtMost ws a b → AtMost ws b c → AtMost ws a c
  at_most_trans a b c p q = (p.0, q.1, false_from_ne_true (ws.lighter c a) (λ lt. go lt (cases_eq b c)))
    where
      met : ws.lighter c a ≡ true → (ws.lighter b c ≡ true) ⊎ (ws.lighter c b ≡ true) → ⊥
      met lt (inl bc) = true≢false (sym (law.transitive b c a p.1 q.1 p.0 bc lt) ∙ p.2)
      met lt (inr cb) = true≢false (sym cb ∙ q.2)

      go : ws.lighter c a ≡ true → (b ≡ c) ⊎ (b ≡ c → ⊥) → ⊥
      go lt (inl same) = true≢false (sym lt ∙ subst (λ x. ws.lighter x a ≡ false) same p.2)
      go lt (inr apart) = met lt (law.total b c p.1 q.1 apart)

  pub at_most_left : (a b : ℕ) → Code a → Code b → AtMost ws a (ws.join a b)
  at_most_left a b ca cb = (ca, law.joins_code a b ca cb, law.no_gain_left a b ca cb)

  pub at_most_right : (a b : ℕ) → Code a → Code b → AtMost ws b (ws.join a b)
  at_most_right a b ca cb = (cb, law.joins_code a b ca cb, law.no_gain_right a b ca cb)

  pub at_most_join : (a b c d : ℕ) → AtMost ws a b → AtMost ws c d → AtMost ws (ws.join a c) (ws.join b d)
  at_most_join a b c d p q =
      at_most_trans (ws.join a c) (ws.join b c) (ws.join b d)
      (law.joins_code a c p.0 q.0, law.joins_code b c p.1 q.0, law.kept_left b a c p.1 p.0 q.0 p.2)
      (law.joins_code b c p.1 q.0, law.joins_code b d p.1 q.1, law.kept_right d c b q.1 q.0 p.1 q.2)
