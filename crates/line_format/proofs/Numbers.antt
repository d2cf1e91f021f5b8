-- What `parse` reads of digits, in the words of the line form. Assumes nothing.
use Rattle.std.proofs.Common.{◌≡◌, ℕ, ◌^◌, ◌<◌, Bool, true, false, ◌&&◌, leb, List, [], ◌∷◌, length, get_or, Some, None, Ok, Err, IsUtf8, Result, sym, refl, ap, ◌∙◌, arith}
use Rattle.std.specs.Result.{OkIff, result_ok}
use Rattle.std.specs.Bool.{then_some}
use Rattle.std.specs.Str.Parse.{digits_value, ParsesUnsigned}
use Rattle.std.specs.Char.{is_ascii_digit}
use Rattle.std.specs.Str.{all_ascii_digits}
use Rattle.std.proofs.lemmas.Fmt.{IsAscii-from_digits}
use Rattle.std.proofs.lemmas.Str.Parse.{IsNumeralModel, numerals_by_value, tells_all_ascii_digits, parse_plain}
use Rattle.std.proofs.lemmas.Bool.{and_parts, leb-true, le-leb, true≢false}
use Rattle.std.proofs.lemmas.Str.{IsUtf8-from_ascii}
use Rattle.line_format.specs.Lines.{starts}

-- texts of digits, and the numbers that they write
pub own : IsNumeralModel (λ ds. all_ascii_digits ds ≡ true) (digits_value 10)
own = numerals_by_value (λ ds. all_ascii_digits ds ≡ true) tells_all_ascii_digits

-- digits that write at most 65,535
abbrev fits : List ℕ → Bool
fits text = all_ascii_digits text && leb (digits_value 10 text) 65535

no_number : (text : List ℕ) → (fits text ≡ true → ⊥) → None ≡ then_some (fits text) (digits_value 10 text)
no_number text no_fit = go (fits text) refl
  where
    go : (b : Bool) → fits text ≡ b → None ≡ then_some b (digits_value 10 text)
    go true e = absurd (no_fit e)
    go false e = refl

-- a result is known by what `ok` gives
pub ok_some : {T E : Type 0} (r : Result T E) (x : T) → Some x ≡ result_ok r → r ≡ Ok x
ok_some (Ok y) x e = cc
ok_some (Err d) x e = cc

pub ok_none : {T E : Type 0} (r : Result T E) → None ≡ result_ok r → (d : E) × (r ≡ Err d)
ok_none (Ok y) e = absurd cc
ok_none (Err d) e = (d, refl)

-- digits are text
pub no_text : (text : List ℕ) → (IsUtf8 text → ⊥) → None ≡ then_some (fits text) (digits_value 10 text)
no_text text not_utf8 =
    no_number text (λ e. not_utf8 (IsUtf8-from_ascii text (IsAscii-from_digits text (own.to text (and_parts (all_ascii_digits text) (leb (digits_value 10 text) 65535) e).0))))

plus_starts_none : (text : List ℕ) → starts text ≡ true → get_or text 0 0 ≡ 43 → ⊥
plus_starts_none [] s plus = true≢false (sym s)
plus_starts_none (c ∷ []) s plus = true≢false (sym s ∙ ap is_ascii_digit plus)
plus_starts_none (c ∷ d ∷ cs) s plus = true≢false (sym (and_parts (is_ascii_digit c) _ s).0 ∙ ap is_ascii_digit plus)

some_start : (text : List ℕ) → starts text ≡ true → 0 < length text
some_start [] s = absurd cc
some_start (c ∷ cs) s = omega arith

pub parsed : {E : Type 0} (text : List ℕ) (r : Result ℕ E) → starts text ≡ true → ParsesUnsigned 16 10 text r → result_ok r ≡ then_some (fits text) (digits_value 10 text)
parsed text r s reads = go r (parse_plain own 16 text r reads (plus_starts_none text s))
  where
    go : {E : Type 0} (r : Result ℕ E) → OkIff r ((all_ascii_digits text ≡ true) × (0 < length text) × (digits_value 10 text < 2 ^ 16)) (digits_value 10 text) → result_ok r ≡ then_some (fits text) (digits_value 10 text)
    go (Ok x) c = rw (c.0.0, le-leb (digits_value 10 text) 65535 (omega (arith, c.0.2))) (ap Some c.1)
    go (Err e) none = no_number text (λ e. let p = and_parts (all_ascii_digits text) (leb (digits_value 10 text) 65535) e in none (p.0, some_start text s, omega (arith, leb-true (digits_value 10 text) 65535 p.1)))
