-- The lines of a text. Assumes nothing.
use Rattle.std.proofs.Common.{◌≡◌, ℕ, ◌<◌, false, List, [], ◌∷◌, length, Some, None, Option, Bor, sym, ap, ◌∙◌, arith}
use Rattle.std.specs.Option.{MatchOption, unwrap_or}
use Rattle.line_format.specs.Lines.{line_feed, onto, lines}
use Rattle.line_format.specs.Split.{Without, Parted}
use Rattle.line_format.proofs.Pieces.{cut_by, cut_split}

-- a line that a line feed ends, and the lines after it
pub first_line : {text line rest : List ℕ} → Parted line_feed text line rest → lines text ≡ line ∷ lines rest
first_line {text} {line} {rest} p = ap lines p.whole ∙ cut_split line_feed [] line rest p.first

-- a line that no line feed ends is the last
pub only_line : (text : List ℕ) → 0 < length text → Without line_feed text → lines text ≡ text ∷ []
only_line [] some none = absurd (omega arith)
only_line (c ∷ []) some none = cut_by line_feed [] c [] false none.0
only_line (c ∷ d ∷ cs) some none = cut_by line_feed [] c (d ∷ cs) false none.0 ∙ ap (onto c) (only_line (d ∷ cs) (omega arith) none.1)

-- the first line, which may be all of the text, and the text after it
pub line_or_all : (text rest : Bor (List ℕ)) (parts : Option (Bor (List ℕ) × Bor (List ℕ))) → 0 < length text.now → rest.now ≡ [] → MatchOption parts (Without line_feed text.now) (λ p. Parted line_feed text.now p.0.now p.1.now) →
    lines text.now ≡ (unwrap_or parts (text, rest)).0.now ∷ lines (unwrap_or parts (text, rest)).1.now
line_or_all text rest None some empty none = only_line text.now some none ∙ ap (λ after. text.now ∷ lines after) (sym empty)
line_or_all text rest (Some p) some empty parted = first_line parted
