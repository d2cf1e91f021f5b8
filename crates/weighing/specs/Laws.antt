-- Weighings as functions on codes, and the laws by which best-first search is right. Assumes nothing.
use Rattle.std.specs.Prelude.{◌≡◌, ℕ, ◌^◌, ◌<◌, Bool, true, false, ◌⊎◌, ◌≢◌}

-- marks to codes, an operation on codes, and the test of their order
pub record Weights : Type 0 where
  pub weigh : ℕ → ℕ
  pub join : ℕ → ℕ → ℕ
  pub lighter : ℕ → ℕ → Bool

-- weights are codes of 64 bits
abbrev pub Code : ℕ → Type 0
Code a = a < 2 ^ 64

-- marks of doubt have 16 bits
abbrev pub Mark : ℕ → Type 0
Mark m = m < 2 ^ 16

pub record Lawful (w : Weights) : Type 0 where
  -- closed: nothing that is weighed or joined passes 64 bits
  pub weighs_code : (m : ℕ) → Mark m → Code (w.weigh m)
  pub joins_code : (a b : ℕ) → Code a → Code b → Code (w.join a b)
  -- `lighter` is a strict total order of codes
  pub irreflexive : (a : ℕ) → Code a → w.lighter a a ≡ false
  pub total : (a b : ℕ) → Code a → Code b → (a ≢ b) → (w.lighter a b ≡ true) ⊎ (w.lighter b a ≡ true)
  pub transitive : (a b c : ℕ) → Code a → Code b → Code c → w.lighter a b ≡ true → w.lighter b c ≡ true → w.lighter a c ≡ true
  -- superiority: a ≼ a ⊗ b and b ≼ a ⊗ b
  pub no_gain_left : (a b : ℕ) → Code a → Code b → w.lighter (w.join a b) a ≡ false
  pub no_gain_right : (a b : ℕ) → Code a → Code b → w.lighter (w.join a b) b ≡ false
  -- monotonicity: `join` keeps ≼ in each argument
  pub kept_left : (a b c : ℕ) → Code a → Code b → Code c → w.lighter a b ≡ false → w.lighter (w.join a c) (w.join b c) ≡ false
  pub kept_right : (a b c : ℕ) → Code a → Code b → Code c → w.lighter a b ≡ false → w.lighter (w.join c a) (w.join c b) ≡ false
