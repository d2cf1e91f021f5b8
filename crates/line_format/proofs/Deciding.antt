-- The front of a text decides what it says, if it is longer than any lines that there is room for. Assumes nothing.
use Rattle.std.proofs.Common.{◌≡◌, ℕ, zero, suc, ◌+◌, ◌*◌, ◌<◌, ◌≤◌, ◌⊎◌, List, [], ◌∷◌, ◌++◌, length, Some, None, Err, Option, sym, refl, ap, ◌∙◌, inl, inr, ⊎_elim, append_assoc, arith, length-append}
use Rattle.std.specs.Result.{result_map_both}
use Rattle.std.proofs.ByRecursion.{All-append}
use Rattle.lattice.specs.declared.word.Word.{Word}
use Rattle.line_format.specs.Lines.{line_feed, lines, line_word, lines_words, text_words, most_lines}
use Rattle.line_format.specs.Split.{Without}
use Rattle.line_format.specs.Writing.{written, longest_line, enough}
use Rattle.line_format.proofs.Gathering.{line_by, no_room}
use Rattle.line_format.proofs.Pieces.{SomehowParted, find_parted}
use Rattle.line_format.proofs.TextLines.{first_line, only_line}
use Rattle.line_format.proofs.WrittenLines.{line_read, written_short, long_line}

-- a long first line is refused, whatever follows
refused_long : (room : ℕ) (line : List ℕ) (rest : List (List ℕ)) → longest_line ≤ length line → lines_words (suc room) (line ∷ rest) ≡ Err 13
refused_long room line rest long = line_by room line rest None (long_line line long)

-- a text whose first line is long
unending : (room : ℕ) (text more : List ℕ) → longest_line ≤ length text → Without line_feed text → lines_words (suc room) (lines (text ++ more)) ≡ Err 13
unending room text more long none = ⊎_elim alone parted (find_parted line_feed more)
  where
    together : longest_line ≤ length (text ++ more)
    together = simp length-append (omega arith)

    alone : Without line_feed more → lines_words (suc room) (lines (text ++ more)) ≡ Err 13
    alone none_after =
        let some : 0 < length (text ++ more) = omega (arith, together) in
        ap (lines_words (suc room)) (only_line (text ++ more) some (All-append _ text more none none_after))
        ∙ refused_long room (text ++ more) [] together

    parted : SomehowParted line_feed more → lines_words (suc room) (lines (text ++ more)) ≡ Err 13
    parted (before, after, p) =
        let whole : text ++ more ≡ (text ++ before) ++ (line_feed ∷ after) = ap (λ m. text ++ m) p.whole ∙ sym (append_assoc text before (line_feed ∷ after)) in
        ap (lines_words (suc room)) (first_line (record { first = All-append _ text before none p.first; whole = whole }))
        ∙ refused_long room (text ++ before) (lines after) (simp length-append (omega arith))

-- the first line is read alike in both, and the lines after it are
line_alike : (room : ℕ) (line : List ℕ) (xs ys : List (List ℕ)) → ((w : Word) → line_word line ≡ Some w → lines_words room xs ≡ lines_words room ys) →
    lines_words (suc room) (line ∷ xs) ≡ lines_words (suc room) (line ∷ ys)
line_alike room line xs ys rest = go (line_word line) refl
  where
    go : (found : Option Word) → line_word line ≡ found → lines_words (suc room) (line ∷ xs) ≡ lines_words (suc room) (line ∷ ys)
    go None e = line_by room line xs None e ∙ sym (line_by room line ys None e)
    go (Some w) e =
        line_by room line xs (Some w) e
        ∙ ap (result_map_both (λ vs. w ∷ vs) (λ number. number)) (rest w e)
        ∙ sym (line_by room line ys (Some w) e)

decided : (room : ℕ) (text more : List ℕ) → room * longest_line + 1 ≤ length text → lines_words room (lines (text ++ more)) ≡ lines_words room (lines text)
decided zero text more long =
    let some : 0 < length text = omega (arith, long) in
    no_room (text ++ more) (simp length-append (omega arith)) ∙ sym (no_room text some)
decided (suc room) text more long = go (find_parted line_feed text) (λ t. decided room t more)
  where
    go : Without line_feed text ⊎ SomehowParted line_feed text →
        ((t : List ℕ) → room * longest_line + 1 ≤ length t → lines_words room (lines (t ++ more)) ≡ lines_words room (lines t)) →
        lines_words (suc room) (lines (text ++ more)) ≡ lines_words (suc room) (lines text)
    go (inl none) rest =
        let some : 0 < length text = omega (arith, long) in
        let line : longest_line ≤ length text = omega (arith, long) in
        unending room text more line none ∙ sym (ap (lines_words (suc room)) (only_line text some none) ∙ refused_long room text [] line)
    go (inr (line, after, p)) rest =
        let whole : text ++ more ≡ line ++ (line_feed ∷ (after ++ more)) = ap (λ t. t ++ more) p.whole ∙ append_assoc line (line_feed ∷ after) more in
        let first : lines (text ++ more) ≡ line ∷ lines (after ++ more) = first_line (record { first = p.first; whole = whole }) in
        let parts : length text ≡ length line + suc (length after) = ap length p.whole ∙ length-append line (line_feed ∷ after) in
        ap (lines_words (suc room)) first
        ∙ line_alike room line (lines (after ++ more)) (lines after)
        (λ w e.
        let r = line_read line w e in
        let short : length (written w) < longest_line = written_short w r.1 in
        rest after (omega (arith, long, ap length r.0)))
        ∙ sym (ap (lines_words (suc room)) (first_line p))

-- what follows enough bytes changes nothing
pub text_decided : (text more : List ℕ) → enough ≤ length text → text_words (text ++ more) ≡ text_words text
text_decided text more long = decided most_lines text more long
