-- The laws of `Chance`: a product of chances is at most either factor, and monotone in both. Assumes nothing.
use Rattle.std.specs.Prelude.{ℕ, ◌/◌, ◌≤◌, min}
use Rattle.std.proofs.Common.{mul-le-mul, le_refl, arith}
use Rattle.std.proofs.lemmas.Bool.Decides.{nat_tests}
use Rattle.weighing.specs.Laws.{Lawful}
use Rattle.weighings.specs.Weighings.{certain, chance_join, chance_weights}

min_below : (a : ℕ) → min a certain ≤ certain
min_below a = omega arith

min_grows : (a b : ℕ) → a ≤ b → min a certain ≤ min b certain
min_grows a b h = omega arith

-- division by certainty is monotone
quotient_grows : {m n : ℕ} → m ≤ n → m / certain ≤ n / certain
quotient_grows {m} {n} h = omega (arith, h)

-- a product is at most its left factor; then the right
join_below_left : (a b : ℕ) → chance_join a b ≤ min a certain
join_below_left a b = omega (arith, mul-le-mul (le_refl (min a certain)) (min_below b))

join_below_right : (a b : ℕ) → chance_join a b ≤ min b certain
join_below_right a b = omega (arith, mul-le-mul (min_below a) (le_refl (min b certain)))

join_grows : (a b c d : ℕ) → a ≤ b → c ≤ d → chance_join a c ≤ chance_join b d
join_grows a b c d first second = quotient_grows (mul-le-mul (min_grows a b first) (min_grows c d second))

pub chance_lawful : Lawful chance_weights
chance_lawful =
    record {
      weighs_code = λ m h. omega arith;
      joins_code = λ a b h k. omega (arith, join_below_left a b);
      irreflexive = λ a h. grind (arith, nat_tests);
      total = λ a b h k apart. grind (arith, nat_tests);
      transitive = λ a b c h k l p q. grind (arith, nat_tests);
      no_gain_left = λ a b h k. grind (arith, nat_tests, join_below_left a b);
      no_gain_right = λ a b h k. grind (arith, nat_tests, join_below_right a b);
      kept_left = λ a b c h k l p. grind (arith, nat_tests, join_grows a b c c);
      kept_right = λ a b c h k l p. grind (arith, nat_tests, join_grows c c a b);
    }
