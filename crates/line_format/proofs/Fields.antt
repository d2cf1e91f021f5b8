-- The fields of a line, and the word that they write. Assumes nothing.
use Rattle.std.proofs.Common.{◌≡◌, ℕ, Bool, false, ◌&&◌, leb, List, [], ◌∷◌, ◌++◌, Some, None, Option, sym, refl, ap, ◌∙◌, ⊎_elim}
use Rattle.std.specs.Bool.{then_some}
use Rattle.std.specs.Str.Parse.{digits_value}
use Rattle.std.specs.Char.{is_ascii_digit}
use Rattle.std.specs.Str.{all_ascii_digits}
use Rattle.std.proofs.lemmas.Bool.{and_left, and_right}
use Rattle.line_format.specs.Lines.{space, starts, number, fields, word_of, fields_word, line_word}
use Rattle.line_format.specs.Split.{Without, Parted}
use Rattle.line_format.proofs.Pieces.{cut_split, cut_whole, SomehowParted, find_parted}

-- a field that a space ends, and the fields after it
pub first_field : {line field rest : List ℕ} {after : List (List ℕ)} → Parted space line field rest → fields rest ≡ after → fields line ≡ field ∷ after
first_field {line} {field} {rest} p others =
    ap fields p.whole ∙ cut_split space ([] ∷ []) field rest p.first ∙ ap (λ ps. field ∷ ps) others

-- a field that no space ends is the last
pub only_field : (line : List ℕ) → Without space line → fields line ≡ line ∷ []
only_field line none = cut_whole space line none

no_digits : (a b : List ℕ) → all_ascii_digits (a ++ (space ∷ b)) ≡ false
no_digits [] b = refl
no_digits (c ∷ a) b = and_right (is_ascii_digit c) (all_ascii_digits (a ++ (space ∷ b))) (no_digits a b)

no_number : (most : ℕ) (text : List ℕ) → all_ascii_digits text ≡ false → number most text ≡ None
no_number most text other =
    ap (λ (b : Bool). then_some b (digits_value 10 text))
    (and_right (starts text) (all_ascii_digits text && leb (digits_value 10 text) most) (and_left (all_ascii_digits text) (leb (digits_value 10 text) most) other))

word_of_none : (x y z : Option ℕ) → word_of x y z None ≡ None
word_of_none None y z = refl
word_of_none (Some a) None z = refl
word_of_none (Some a) (Some b) None = refl
word_of_none (Some a) (Some b) (Some c) = refl

five_fields : (a b c d : List ℕ) (text : List ℕ) → fields_word (a ∷ b ∷ c ∷ d ∷ fields text) ≡ None
five_fields a b c d text = ⊎_elim (λ none. more (only_field text none)) (λ (before, after, p). more (first_field p refl)) (find_parted space text)
  where
    more : {e : List ℕ} {rest : List (List ℕ)} → fields text ≡ e ∷ rest → fields_word (a ∷ b ∷ c ∷ d ∷ fields text) ≡ None
    more found = ap (λ ps. fields_word (a ∷ b ∷ c ∷ d ∷ ps)) found

-- what follows three fields is the fourth, or no number
last_field : (a b c mark : List ℕ) → word_of (number 255 a) (number 255 b) (number 255 c) (number 65535 mark) ≡ fields_word (a ∷ b ∷ c ∷ fields mark)
last_field a b c mark = ⊎_elim alone parted (find_parted space mark)
  where
    alone : Without space mark → word_of (number 255 a) (number 255 b) (number 255 c) (number 65535 mark) ≡ fields_word (a ∷ b ∷ c ∷ fields mark)
    alone none = ap (λ ps. fields_word (a ∷ b ∷ c ∷ ps)) (sym (only_field mark none))

    parted : SomehowParted space mark → word_of (number 255 a) (number 255 b) (number 255 c) (number 65535 mark) ≡ fields_word (a ∷ b ∷ c ∷ fields mark)
    parted (before, after, p) =
        ap (word_of (number 255 a) (number 255 b) (number 255 c)) (no_number 65535 mark (ap all_ascii_digits p.whole ∙ no_digits before after))
        ∙ word_of_none (number 255 a) (number 255 b) (number 255 c)
        ∙ sym (ap (λ ps. fields_word (a ∷ b ∷ c ∷ ps)) (first_field p refl) ∙ five_fields a b c before after)

-- a line of three fields and what follows them
pub four_fields : {line from rest to other symbol mark : List ℕ} → Parted space line from rest → Parted space rest to other → Parted space other symbol mark →
    word_of (number 255 from) (number 255 to) (number 255 symbol) (number 65535 mark) ≡ line_word line
four_fields {line} {from} {rest} {to} {other} {symbol} {mark} p q r =
    last_field from to symbol mark ∙ sym (ap fields_word (first_field p (first_field q (first_field r refl))))
