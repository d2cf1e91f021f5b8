-- The three weighings as functions on codes. Assumes nothing.
use Rattle.std.specs.Prelude.{ℕ, ◌+◌, ◌-◌, ◌*◌, ◌/◌, ◌^◌, min, max, ltb, nat_lt}
use Rattle.weighing.specs.Laws.{Weights}

-- saturating addition, ordered by <
abbrev pub sum_weights : Weights
sum_weights = record { weigh = λ m. m; join = λ a b. min (a + b) (2 ^ 64 - 1); lighter = ltb }

-- the maximum, ordered by <
abbrev pub worst_weights : Weights
worst_weights = record { weigh = λ m. m; join = max; lighter = ltb }

-- certainty as a code: chances count in parts of 2^31
abbrev pub certain : ℕ
certain = 2 ^ 31

-- the product of two chances in such parts, rounded down; codes above certainty are cut to it first
abbrev pub chance_join : ℕ → ℕ → ℕ
chance_join a b = (min a certain * min b certain) / certain

-- each mark costs a 65,536th part of certainty; ordered by >
abbrev pub chance_weights : Weights
chance_weights = record { weigh = λ m. (65536 - m) * 32768; join = chance_join; lighter = λ a b. nat_lt b a }
