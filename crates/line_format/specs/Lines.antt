-- Parsing of input lines as functions on bytes. Assumes nothing.
use Rattle.std.specs.Prelude.{ℕ, zero, suc, Bool, true, false, not, ◌&&◌, List, [], ◌∷◌, Some, None, Ok, Err, Option, Result, ◌==◌, nat_le}
use Rattle.std.specs.Bool.{then_some}
use Rattle.std.specs.Str.Parse.{digits_value}
use Rattle.std.specs.Char.{is_ascii_digit}
use Rattle.std.specs.Str.{all_ascii_digits}
use Rattle.std.specs.Result.{result_map_both}
use Rattle.lattice.specs.declared.word.Word.{Word}

abbrev pub space : ℕ
space = 32

abbrev pub line_feed : ℕ
line_feed = 10

-- NUMBERS

-- the first byte may be that of a number: 0 only if it stands alone
abbrev pub starts : List ℕ → Bool
starts [] = false
starts (c ∷ []) = is_ascii_digit c
starts (c ∷ d ∷ cs) = is_ascii_digit c && not (c == 48)

-- a decimal number up to `most`
abbrev pub number : ℕ → List ℕ → Option ℕ
number most text = then_some (starts text && (all_ascii_digits text && nat_le (digits_value 10 text) most)) (digits_value 10 text)

-- PIECES

-- a byte put in front of the first piece
abbrev pub onto : ℕ → List (List ℕ) → List (List ℕ)
onto c [] = (c ∷ []) ∷ []
onto c (piece ∷ pieces) = (c ∷ piece) ∷ pieces

-- a text cut at each separator, where the empty text gives the pieces `end`
abbrev pub cut : ℕ → List (List ℕ) → List ℕ → List (List ℕ)
cut separator end [] = end
cut separator end (c ∷ cs) = elim (c == separator) [ true ↦ [] ∷ cut separator end cs | false ↦ onto c (cut separator end cs) ]

-- a line cut at spaces
abbrev pub fields : List ℕ → List (List ℕ)
fields line = cut space ([] ∷ []) line

-- a text cut at line feeds, with no empty line after the last of them
abbrev pub lines : List ℕ → List (List ℕ)
lines text = cut line_feed [] text

-- WORDS

-- the word of four numbers, if there are four
abbrev pub word_of : Option ℕ → Option ℕ → Option ℕ → Option ℕ → Option Word
word_of (Some from) (Some to) (Some symbol) (Some mark) = Some (record { from = from; to = to; symbol = symbol; mark = mark })
word_of (Some from) (Some to) (Some symbol) None = None
word_of (Some from) (Some to) None mark = None
word_of (Some from) None symbol mark = None
word_of None to symbol mark = None

-- the word of a list of fields, if there are four
abbrev pub fields_word : List (List ℕ) → Option Word
fields_word [] = None
fields_word (a ∷ []) = None
fields_word (a ∷ b ∷ []) = None
fields_word (a ∷ b ∷ c ∷ []) = None
fields_word (a ∷ b ∷ c ∷ d ∷ []) = word_of (number 255 a) (number 255 b) (number 255 c) (number 65535 d)
fields_word (a ∷ b ∷ c ∷ d ∷ e ∷ more) = None

-- the word of a line, if it is of the form
abbrev pub line_word : List ℕ → Option Word
line_word line = fields_word (fields line)

-- TEXTS

abbrev pub most_lines : ℕ
most_lines = 128

-- the words of at most `room` lines; the first line that cannot be taken decides the refusal,
-- which is 13 for its form, and 3 where there is no room for it
abbrev pub lines_words : ℕ → List (List ℕ) → Result (List Word) ℕ
lines_words room [] = Ok []
lines_words zero (line ∷ rest) = Err 3
lines_words (suc room) (line ∷ rest) =
    elim (line_word line) [
      | None ↦ Err 13
      | Some w ↦ result_map_both (λ ws. w ∷ ws) (λ number. number) (lines_words room rest)
    ]

-- the words of a text, or the number of its refusal
abbrev pub text_words : List ℕ → Result (List Word) ℕ
text_words text = lines_words most_lines (lines text)
