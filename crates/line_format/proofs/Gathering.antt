-- Words gathered line by line. Assumes nothing.
use Rattle.std.proofs.Common.{◌≡◌, ℕ, suc, true, false, eqb, ◌+◌, ◌-◌, ◌<◌, ◌≤◌, List, [], ◌∷◌, ◌++◌, length, Some, None, Ok, Err, Option, Result, sym, refl, ap, ◌∙◌, ⊎_elim, append_assoc, append-nil, arith, length-append}
use Rattle.std.specs.Result.{result_map_both}
use Rattle.std.proofs.lemmas.List.{nil_from_length}
use Rattle.std.proofs.lemmas.Bool.{eqb-false, eqb-true}
use Rattle.lattice.specs.declared.word.Word.{Word}
use Rattle.line_format.specs.Lines.{line_feed, lines, line_word, lines_words, text_words, most_lines}
use Rattle.line_format.proofs.Pieces.{find_parted}
use Rattle.line_format.proofs.TextLines.{first_line, only_line}

-- what a text says whose first words are known
abbrev after : List Word → Result (List Word) ℕ → Result (List Word) ℕ
after ws r = result_map_both (λ vs. ws ++ vs) (λ number. number) r

after_none : (r : Result (List Word) ℕ) → after [] r ≡ r
after_none (Ok vs) = refl
after_none (Err number) = refl

after_push : (ws : List Word) (w : Word) (r : Result (List Word) ℕ) → after (ws ++ (w ∷ [])) r ≡ after ws (after (w ∷ []) r)
after_push ws w (Ok vs) = ap Ok (append_assoc ws (w ∷ []) vs)
after_push ws w (Err number) = refl

-- the first line of the lines that are left, by what it writes
pub line_by : (room : ℕ) (line : List ℕ) (rest : List (List ℕ)) (found : Option Word) → line_word line ≡ found →
    lines_words (suc room) (line ∷ rest) ≡ elim found as (λ _. Result (List Word) ℕ) [ None ↦ Err 13 | Some w ↦ after (w ∷ []) (lines_words room rest) ]
line_by room line rest found e =
    ap (λ o. elim o as (λ _. Result (List Word) ℕ) [ None ↦ Err 13 | Some w ↦ after (w ∷ []) (lines_words room rest) ]) e

pub no_room : (text : List ℕ) → 0 < length text → lines_words 0 (lines text) ≡ Err 3
no_room text some =
    ⊎_elim
    (λ none. ap (lines_words 0) (only_line text some none))
    (λ (before, rest, p). ap (lines_words 0) (first_line p))
    (find_parted line_feed text)

-- the words so far, and the lines that are left, say what the text says
pub record Gathered (text rest : List ℕ) (words : List Word) : Type 0 where
  pub room : length words ≤ most_lines
  pub said : after words (lines_words (most_lines - length words) (lines rest)) ≡ text_words text

pub gathered_none : (text : List ℕ) → Gathered text text []
gathered_none text = record { room = omega arith; said = after_none (text_words text) }

module _ {text rest : List ℕ} {words : List Word} (g : Gathered text rest words) where
  fewer : false ≡ eqb (length words) most_lines → length words < most_lines
  fewer below = let other = eqb-false (length words) most_lines (sym below) in omega (arith, g.room)

  room_more : false ≡ eqb (length words) most_lines → most_lines - length words ≡ suc (most_lines - (length words + 1))
  room_more below = omega (arith, fewer below)

  -- what the text says, by what the first of the lines that are left writes
  said_by : {line : List ℕ} {others : List (List ℕ)} (found : Option Word) → false ≡ eqb (length words) most_lines → lines rest ≡ line ∷ others → line_word line ≡ found →
      after words (elim found as (λ _. Result (List Word) ℕ) [ None ↦ Err 13 | Some w ↦ after (w ∷ []) (lines_words (most_lines - (length words + 1)) others) ]) ≡ text_words text
  said_by {line} {others} found below first e =
      let left : ℕ = most_lines - (length words + 1) in
      ap (after words) (sym (ap (λ n. lines_words n (lines rest)) (room_more below) ∙ ap (lines_words (suc left)) first ∙ line_by left line others found e))
      ∙ g.said

  -- one line more
  pub gathered_more : {line later : List ℕ} {w : Word} → false ≡ eqb (length words) most_lines → lines rest ≡ line ∷ lines later → line_word line ≡ Some w →
      Gathered text later (words ++ (w ∷ []))
  gathered_more {line} {later} {w} below first found =
      let longer : length (words ++ (w ∷ [])) ≡ length words + 1 = length-append words (w ∷ []) in
      record {
        room = omega (arith, fewer below, longer);
        said =
            ap (λ n. after (words ++ (w ∷ [])) (lines_words (most_lines - n) (lines later))) longer
            ∙ after_push words w (lines_words (most_lines - (length words + 1)) (lines later))
            ∙ said_by (Some w) below first found;
      }

  -- a line that is not of the form
  pub gathered_bad : {line : List ℕ} {others : List (List ℕ)} → false ≡ eqb (length words) most_lines → lines rest ≡ line ∷ others → line_word line ≡ None → Err 13 ≡ text_words text
  gathered_bad below first found = said_by None below first found

  -- a line that there is no room for
  pub gathered_full : true ≡ eqb (length words) most_lines → false ≡ eqb (length rest) 0 → Err 3 ≡ text_words text
  gathered_full full some =
      let whole : length words ≡ most_lines = eqb-true (length words) most_lines (sym full) in
      let none : most_lines - length words ≡ 0 = omega arith in
      let more = eqb-false (length rest) 0 (sym some) in
      sym (ap (after words) (ap (λ n. lines_words n (lines rest)) none ∙ no_room rest (omega arith))) ∙ g.said

  -- no line is left
  pub gathered_all : true ≡ eqb (length rest) 0 → Ok words ≡ text_words text
  gathered_all none =
      let empty : length rest ≡ 0 = eqb-true (length rest) 0 (sym none) in
      sym (ap (λ r. after words (lines_words (most_lines - length words) (lines r))) (nil_from_length rest empty) ∙ ap Ok (append-nil words))
      ∙ g.said
