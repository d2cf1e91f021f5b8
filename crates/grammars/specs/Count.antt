-- The rules of spoken stock counts. Assumes nothing.
use Rattle.std.specs.Prelude.{ℕ, List, [], ◌∷◌, refl}
use Rattle.std.proofs.Common.{lit≤}
use Rattle.grammar.specs.Rules.{Rule, Limits}

-- SYMBOLS

-- a line, a part of it, a number, and a gap between two parts
abbrev pub line : ℕ
line = 1

abbrev pub part : ℕ
part = 2

abbrev pub num : ℕ
num = 3

abbrev pub gap : ℕ
gap = 4

-- the spoken words
abbrev pub one : ℕ
one = 16

abbrev pub two : ℕ
two = 17

abbrev pub three : ℕ
three = 18

abbrev pub box : ℕ
box = 19

abbrev pub open_word : ℕ
open_word = 20

abbrev pub um : ℕ
um = 21

-- RULES

abbrev pub rewrites : ℕ → List ℕ → ℕ → Rule
rewrites left right mark = record { left = left; right = right; mark = mark }

abbrev pub count_rules : List Rule
count_rules =
    rewrites line (part ∷ []) 0
    ∷ rewrites line (line ∷ gap ∷ part ∷ []) 2
    ∷ rewrites part (num ∷ box ∷ []) 3
    ∷ rewrites part (open_word ∷ num ∷ []) 4
    ∷ rewrites part (num ∷ box ∷ open_word ∷ []) 9
    ∷ rewrites part (num ∷ []) 6
    ∷ rewrites num (one ∷ []) 0
    ∷ rewrites num (two ∷ []) 0
    ∷ rewrites num (three ∷ []) 0
    ∷ rewrites gap [] 0
    ∷ rewrites gap (um ∷ []) 1
    ∷ []

pub count_limits : Limits count_rules
count_limits = record { few = lit≤ tt; within = refl }
