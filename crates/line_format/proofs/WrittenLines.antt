-- A line is read as a word exactly if it is that word's line. Assumes nothing.
use Rattle.std.proofs.Common.{◌≡◌, ℕ, zero, suc, ◌^◌, ◌<◌, ◌≤◌, Bool, true, false, not, ◌&&◌, eqb, leb, List, [], ◌∷◌, length, get_or, Some, None, decimal, Option, sym, refl, ap, ◌∙◌, ⊎_elim, arith, length-append}
use Rattle.std.specs.Bool.{then_some}
use Rattle.std.specs.Str.Parse.{digits_value}
use Rattle.std.specs.Char.{is_ascii_digit}
use Rattle.std.specs.Str.{all_ascii_digits}
use Rattle.std.proofs.lemmas.Fmt.{digits_decimal, digits_value-decimal, decimal_nonempty, decimal_digit, first_decimal, decimal-digits_value, length-decimal-le}
use Rattle.std.proofs.ByRecursion.{All-append}
use Rattle.std.proofs.lemmas.Bool.{and_from, and_parts, le-leb, leb-true, eq-eqb, ne_eqb, true≢false}
use Rattle.lattice.specs.declared.word.Word.{Word}
use Rattle.line_format.specs.Lines.{space, line_feed, starts, number, fields, word_of, fields_word, line_word}
use Rattle.line_format.specs.Split.{Without, Parted}
use Rattle.line_format.specs.Writing.{InRange, written, longest_line}
use Rattle.line_format.proofs.Numbers.{own}
use Rattle.line_format.proofs.Fields.{first_field, only_field, four_fields}
use Rattle.line_format.proofs.Pieces.{SomehowParted, find_parted}

-- NUMBERS

digits_without : (separator : ℕ) (ds : List ℕ) → is_ascii_digit separator ≡ false → all_ascii_digits ds ≡ true → Without separator ds
digits_without separator [] other digits = tt
digits_without separator (c ∷ ds) other digits =
    let p = and_parts (is_ascii_digit c) (all_ascii_digits ds) digits in
    (ne_eqb c separator (λ e. true≢false (sym p.0 ∙ ap is_ascii_digit e ∙ other)), digits_without separator ds other p.1)

decimal_without : (separator n : ℕ) → is_ascii_digit separator ≡ false → n < 2 ^ 64 → Without separator (decimal n)
decimal_without separator n other small = digits_without separator (decimal n) other (digits_decimal own n small)

-- a leading zero stands alone
starts_from : (ds : List ℕ) → all_ascii_digits ds ≡ true → 0 < length ds → (get_or ds 0 0 ≡ 48 → length ds ≡ 1) → starts ds ≡ true
starts_from [] digits some alone = absurd (omega arith)
starts_from (c ∷ []) digits some alone = (and_parts (is_ascii_digit c) true digits).0
starts_from (c ∷ d ∷ ds) digits some alone =
    and_from (is_ascii_digit c) (not (eqb c 48)) (and_parts (is_ascii_digit c) (all_ascii_digits (d ∷ ds)) digits).0
    (ap not (ne_eqb c 48 (λ zero. let one : suc (suc (length ds)) ≡ 1 = alone zero in omega arith)))

alone_from : (ds : List ℕ) → starts ds ≡ true → (0 < length ds) × (get_or ds 0 0 ≡ 48 → length ds ≡ 1)
alone_from [] s = absurd cc
alone_from (c ∷ []) s = (omega arith, λ zero. refl)
alone_from (c ∷ d ∷ ds) s =
    (omega arith, λ zero. absurd (true≢false (sym (and_parts (is_ascii_digit c) (not (eqb c 48)) s).1 ∙ ap not (eq-eqb c 48 zero))))

decimal_alone : (n : ℕ) → n < 2 ^ 64 → get_or (decimal n) 0 0 ≡ 48 → length (decimal n) ≡ 1
decimal_alone zero small e = ap length (decimal_digit 0 (omega arith))
decimal_alone (suc n) small e = let big : 48 < get_or (decimal (suc n)) 0 0 = first_decimal (suc n) (omega arith) small in absurd (omega arith)

-- a number that is written is read
number_decimal : (most n : ℕ) → n ≤ most → n < 2 ^ 64 → number most (decimal n) ≡ Some n
number_decimal most n within small =
    let digits = digits_decimal own n small in
    let v : digits_value 10 (decimal n) ≡ n = digits_value-decimal own n small in
    let s = starts_from (decimal n) digits (decimal_nonempty n small) (decimal_alone n small) in
    ap (λ (b : Bool). then_some b (digits_value 10 (decimal n)))
    (and_from (starts (decimal n)) (all_ascii_digits (decimal n) && leb (digits_value 10 (decimal n)) most) s (and_from (all_ascii_digits (decimal n)) (leb (digits_value 10 (decimal n)) most) digits (le-leb (digits_value 10 (decimal n)) most (omega arith))))
    ∙ ap Some v

-- a number that is read is written so
number_read : (most n : ℕ) (ds : List ℕ) → most < 2 ^ 64 → number most ds ≡ Some n → (ds ≡ decimal n) × (n ≤ most)
number_read most n ds small = go (starts ds && (all_ascii_digits ds && leb (digits_value 10 ds) most)) refl
  where
    go : (b : Bool) → (starts ds && (all_ascii_digits ds && leb (digits_value 10 ds) most)) ≡ b → then_some b (digits_value 10 ds) ≡ Some n → (ds ≡ decimal n) × (n ≤ most)
    go false e f = absurd cc
    go true e f =
        let p = and_parts (starts ds) (all_ascii_digits ds && leb (digits_value 10 ds) most) e in
        let q = and_parts (all_ascii_digits ds) (leb (digits_value 10 ds) most) p.1 in
        let a = alone_from ds p.0 in
        let same : digits_value 10 ds ≡ n = cc in
        let within : digits_value 10 ds ≤ most = leb-true (digits_value 10 ds) most q.1 in
        (sym (decimal-digits_value own ds q.0 a.0 a.1 (omega arith)) ∙ ap decimal same, omega arith)

-- LINES

pub line_written : (w : Word) → InRange w → line_word (written w) ≡ Some w
line_written w r =
    let from : w.from < 2 ^ 64 = omega (arith, r.from) in
    let to : w.to < 2 ^ 64 = omega (arith, r.to) in
    let symbol : w.symbol < 2 ^ 64 = omega (arith, r.symbol) in
    let mark : w.mark < 2 ^ 64 = omega (arith, r.mark) in
    let found : fields (written w) ≡ decimal w.from ∷ decimal w.to ∷ decimal w.symbol ∷ decimal w.mark ∷ [] =
    first_field (record { first = decimal_without space w.from refl from; whole = refl })
    (first_field (record { first = decimal_without space w.to refl to; whole = refl })
    (first_field (record { first = decimal_without space w.symbol refl symbol; whole = refl })
    (only_field (decimal w.mark) (decimal_without space w.mark refl mark)))) in
    ap fields_word found
    ∙ ap (λ o. word_of o (number 255 (decimal w.to)) (number 255 (decimal w.symbol)) (number 65535 (decimal w.mark))) (number_decimal 255 w.from (omega (arith, r.from)) from)
    ∙ ap (λ o. word_of (Some w.from) o (number 255 (decimal w.symbol)) (number 65535 (decimal w.mark))) (number_decimal 255 w.to (omega (arith, r.to)) to)
    ∙ ap (λ o. word_of (Some w.from) (Some w.to) o (number 65535 (decimal w.mark))) (number_decimal 255 w.symbol (omega (arith, r.symbol)) symbol)
    ∙ ap (λ o. word_of (Some w.from) (Some w.to) (Some w.symbol) o) (number_decimal 65535 w.mark (omega (arith, r.mark)) mark)

word_of_some : (x y z u : Option ℕ) (w : Word) → word_of x y z u ≡ Some w →
    (x ≡ Some w.from) × (y ≡ Some w.to) × (z ≡ Some w.symbol) × (u ≡ Some w.mark)
word_of_some None y z u w e = absurd cc
word_of_some (Some a) None z u w e = absurd cc
word_of_some (Some a) (Some b) None u w e = absurd cc
word_of_some (Some a) (Some b) (Some c) None w e = absurd cc
word_of_some (Some a) (Some b) (Some c) (Some d) w e =
    let same : record { from = a; to = b; symbol = c; mark = d } ≡ w = cc in
    (ap (λ (v : Word). Some v.from) same, ap (λ (v : Word). Some v.to) same, ap (λ (v : Word). Some v.symbol) same, ap (λ (v : Word). Some v.mark) same)

pub line_read : (line : List ℕ) (w : Word) → line_word line ≡ Some w → (line ≡ written w) × InRange w
line_read line w e = ⊎_elim (λ none. few (only_field line none) refl) second (find_parted space line)
  where
    few : {pieces : List (List ℕ)} → fields line ≡ pieces → fields_word pieces ≡ None → (line ≡ written w) × InRange w
    few found none = absurd (cc (ap fields_word found))

    whole : {a rest b other c mark : List ℕ} → Parted space line a rest → Parted space rest b other → Parted space other c mark →
        word_of (number 255 a) (number 255 b) (number 255 c) (number 65535 mark) ≡ Some w → (line ≡ written w) × InRange w
    whole {a} {rest} {b} {other} {c} {mark} p q r f =
        let s = word_of_some (number 255 a) (number 255 b) (number 255 c) (number 65535 mark) w f in
        let from = number_read 255 w.from a (omega arith) s.0 in
        let to = number_read 255 w.to b (omega arith) s.1 in
        let symbol = number_read 255 w.symbol c (omega arith) s.2 in
        let mark = number_read 65535 w.mark mark (omega arith) s.3 in (
          cc (p.whole, q.whole, r.whole, from.0, to.0, symbol.0, mark.0),
          record { from = omega (arith, from.1); to = omega (arith, to.1); symbol = omega (arith, symbol.1); mark = omega (arith, mark.1) },
        )

    fourth : {a rest b other : List ℕ} → Parted space line a rest → Parted space rest b other → SomehowParted space other → (line ≡ written w) × InRange w
    fourth {a} {rest} {b} {other} p q (c, mark, r) = whole p q r (four_fields p q r ∙ e)

    third : {a rest : List ℕ} → Parted space line a rest → SomehowParted space rest → (line ≡ written w) × InRange w
    third {a} {rest} p (b, other, q) =
        ⊎_elim (λ none. few (first_field p (first_field q (only_field other none))) refl) (fourth p q) (find_parted space other)

    second : SomehowParted space line → (line ≡ written w) × InRange w
    second (a, rest, p) = ⊎_elim (λ none. few (first_field p (only_field rest none)) refl) (third p) (find_parted space rest)

pub written_short : (w : Word) → InRange w → length (written w) < longest_line
written_short w r =
    let a : length (decimal w.from) ≤ 3 = length-decimal-le 3 w.from (omega arith) (omega (arith, r.from)) (omega (arith, r.from)) in
    let b : length (decimal w.to) ≤ 3 = length-decimal-le 3 w.to (omega arith) (omega (arith, r.to)) (omega (arith, r.to)) in
    let c : length (decimal w.symbol) ≤ 3 = length-decimal-le 3 w.symbol (omega arith) (omega (arith, r.symbol)) (omega (arith, r.symbol)) in
    let d : length (decimal w.mark) ≤ 5 = length-decimal-le 5 w.mark (omega arith) (omega (arith, r.mark)) (omega (arith, r.mark)) in
    simp length-append (omega arith)

-- no line of the form is longer
pub long_line : (line : List ℕ) → longest_line ≤ length line → line_word line ≡ None
long_line line long = go (line_word line) refl
  where
    go : (found : Option Word) → line_word line ≡ found → found ≡ None
    go None e = refl
    go (Some w) e =
        let r = line_read line w e in
        let short : length (written w) < longest_line = written_short w r.1 in
        absurd (omega (arith, ap length r.0))

-- a word's line has bytes, and no line feed among them
pub written_some : (w : Word) → 0 < length (written w)
written_some w = simp length-append (omega arith)

pub written_without : (w : Word) → InRange w → Without line_feed (written w)
written_without w r =
    All-append other (decimal w.from) _ (decimal_without line_feed w.from refl (omega (arith, r.from))) (
      refl,
      All-append other (decimal w.to) _ (decimal_without line_feed w.to refl (omega (arith, r.to))) (
        refl,
        All-append other (decimal w.symbol) _ (decimal_without line_feed w.symbol refl (omega (arith, r.symbol)))
            (refl, decimal_without line_feed w.mark refl (omega (arith, r.mark))),
      ),
    )
  where
    other : ℕ → Type 0
    other c = eqb c line_feed ≡ false
