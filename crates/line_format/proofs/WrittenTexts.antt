-- A text is read as words exactly if it writes them. Assumes nothing.
use Rattle.std.proofs.Common.{◌≡◌, ℕ, zero, suc, ◌≤◌, Bool, true, false, eqb, ◌⊎◌, List, [], ◌∷◌, ◌++◌, map, length, Some, None, Ok, Err, Option, Result, sym, refl, ap, ◌∙◌, subst, inl, inr, ⊎_elim, arith}
use Rattle.std.specs.Result.{result_map_both}
use Rattle.std.specs.List.{AllByRecursion}
use Rattle.std.proofs.lemmas.Bool.{eqb-true}
use Rattle.lattice.specs.declared.word.Word.{Word}
use Rattle.line_format.specs.Lines.{line_feed, onto, lines, line_word, lines_words, text_words, most_lines}
use Rattle.line_format.specs.Writing.{InRange, written, ended, unended, Writes}
use Rattle.line_format.proofs.Gathering.{line_by}
use Rattle.line_format.proofs.Pieces.{cut_by}
use Rattle.line_format.proofs.TextLines.{first_line, only_line}
use Rattle.line_format.proofs.WrittenLines.{line_written, line_read, written_some, written_without}

-- WHAT IS WRITTEN IS READ

lines_ended : (ws : List Word) → AllByRecursion InRange ws → lines (ended ws) ≡ map written ws
lines_ended [] r = refl
lines_ended (w ∷ ws) r =
    first_line (record { first = written_without w r.0; whole = refl }) ∙ ap (λ ls. written w ∷ ls) (lines_ended ws r.1)

lines_unended : (ws : List Word) → AllByRecursion InRange ws → lines (unended ws) ≡ map written ws
lines_unended [] r = refl
lines_unended (w ∷ []) r = only_line (written w) (written_some w) (written_without w r.0)
lines_unended (w ∷ v ∷ ws) r =
    first_line (record { first = written_without w r.0; whole = refl }) ∙ ap (λ ls. written w ∷ ls) (lines_unended (v ∷ ws) r.1)

lines_read : (room : ℕ) (ws : List Word) → AllByRecursion InRange ws → length ws ≤ room → lines_words room (map written ws) ≡ Ok ws
lines_read room [] r few = refl
lines_read zero (w ∷ ws) r few = absurd (omega arith)
lines_read (suc room) (w ∷ ws) r few =
    line_by room (written w) (map written ws) (Some w) (line_written w r.0)
    ∙ ap (result_map_both (λ vs. w ∷ vs) (λ number. number)) (lines_read room ws r.1 (omega arith))

pub written_read : (ws : List Word) (text : List ℕ) → Writes ws text → text_words text ≡ Ok ws
written_read ws text writes =
    ap (lines_words most_lines) (⊎_elim (λ e. ap lines e ∙ lines_ended ws writes.in_range) (λ e. ap lines e ∙ lines_unended ws writes.in_range) writes.lines)
    ∙ lines_read most_lines ws writes.in_range writes.few

-- WHAT IS READ IS WRITTEN

-- what a result of reading says of lines, where there is room for so many
abbrev LinesOf : ℕ → List (List ℕ) → List Word → Type 0
LinesOf room ls ws = (ls ≡ map written ws) × AllByRecursion InRange ws × (length ws ≤ room)

one_more : (room : ℕ) (l : List ℕ) (ls : List (List ℕ)) (w : Word) (vs ws : List Word) → line_word l ≡ Some w → w ∷ vs ≡ ws → LinesOf room ls vs → LinesOf (suc room) (l ∷ ls) ws
one_more room l ls w vs ws found same rest =
    let r = line_read l w found in
    let lines : l ∷ ls ≡ written w ∷ map written vs = cc (r.0, rest.0) in
    subst (LinesOf (suc room) (l ∷ ls)) same (lines, (r.1, rest.1), omega (arith, rest.2))

words_lines : (room : ℕ) (ls : List (List ℕ)) (ws : List Word) → lines_words room ls ≡ Ok ws → LinesOf room ls ws
words_lines room [] ws e = let none : [] ≡ ws = cc in subst (LinesOf room []) none (refl, tt, omega arith)
words_lines zero (l ∷ ls) ws e = absurd cc
words_lines (suc room) (l ∷ ls) ws e = go (line_word l) refl (lines_words room ls) refl (words_lines room ls)
  where
    go : (found : Option Word) → line_word l ≡ found → (r : Result (List Word) ℕ) → lines_words room ls ≡ r →
        ((vs : List Word) → lines_words room ls ≡ Ok vs → LinesOf room ls vs) → LinesOf (suc room) (l ∷ ls) ws
    go None f r g rest = absurd (cc (line_by room l ls None f))
    go (Some w) f (Err n) g rest = absurd (cc (line_by room l ls (Some w) f ∙ ap (result_map_both (λ vs. w ∷ vs) (λ number. number)) g))
    go (Some w) f (Ok vs) g rest =
        let same : w ∷ vs ≡ ws = cc (line_by room l ls (Some w) f ∙ ap (result_map_both (λ vs. w ∷ vs) (λ number. number)) g) in
        one_more room l ls w vs ws f same (rest vs g)

-- lines with a line feed after each, and with none after the last
each_ended : List (List ℕ) → List ℕ
each_ended [] = []
each_ended (l ∷ ls) = l ++ (line_feed ∷ each_ended ls)

last_unended : List (List ℕ) → List ℕ
last_unended [] = []
last_unended (l ∷ []) = l
last_unended (l ∷ m ∷ ls) = l ++ (line_feed ∷ last_unended (m ∷ ls))

abbrev Joins : List ℕ → List (List ℕ) → Type 0
Joins text ls = (text ≡ each_ended ls) ⊎ (text ≡ last_unended ls)

joins_feed : (c : ℕ) (cs : List ℕ) (ls : List (List ℕ)) → c ≡ line_feed → Joins cs ls → Joins (c ∷ cs) ([] ∷ ls)
unfolding each_ended last_unended
joins_feed c cs ls feed (inl e) = inl (cc)
joins_feed c cs [] feed (inr e) = inl (cc)
joins_feed c cs (l ∷ ls) feed (inr e) = inr (cc)

joins_onto : (c : ℕ) (cs : List ℕ) (ls : List (List ℕ)) → Joins cs ls → Joins (c ∷ cs) (onto c ls)
unfolding each_ended last_unended
joins_onto c cs [] (inl e) = inr (cc)
joins_onto c cs [] (inr e) = inr (cc)
joins_onto c cs (l ∷ ls) (inl e) = inl (ap (λ xs. c ∷ xs) e)
joins_onto c cs (l ∷ []) (inr e) = inr (ap (λ xs. c ∷ xs) e)
joins_onto c cs (l ∷ m ∷ ls) (inr e) = inr (ap (λ xs. c ∷ xs) e)

joins_lines : (text : List ℕ) → Joins text (lines text)
unfolding each_ended
joins_lines [] = inl refl
joins_lines (c ∷ cs) = go (eqb c line_feed) refl (joins_lines cs)
  where
    go : (b : Bool) → eqb c line_feed ≡ b → Joins cs (lines cs) → Joins (c ∷ cs) (lines (c ∷ cs))
    go true e j = subst (Joins (c ∷ cs)) (sym (cut_by line_feed [] c cs true e)) (joins_feed c cs (lines cs) (eqb-true c line_feed e) j)
    go false e j = subst (Joins (c ∷ cs)) (sym (cut_by line_feed [] c cs false e)) (joins_onto c cs (lines cs) j)

ended_written : (ws : List Word) → each_ended (map written ws) ≡ ended ws
unfolding each_ended
ended_written [] = refl
ended_written (w ∷ ws) = ap (λ rest. written w ++ (line_feed ∷ rest)) (ended_written ws)

unended_written : (ws : List Word) → last_unended (map written ws) ≡ unended ws
unfolding last_unended
unended_written [] = refl
unended_written (w ∷ []) = refl
unended_written (w ∷ v ∷ ws) = ap (λ rest. written w ++ (line_feed ∷ rest)) (unended_written (v ∷ ws))

pub read_written : (ws : List Word) (text : List ℕ) → text_words text ≡ Ok ws → Writes ws text
read_written ws text e =
    let l = words_lines most_lines (lines text) ws e in
    record {
      in_range = l.1;
      few = l.2;
      lines =
          ⊎_elim
          (λ e. inl (e ∙ ap each_ended l.0 ∙ ended_written ws))
          (λ e. inr (e ∙ ap last_unended l.0 ∙ unended_written ws))
          (joins_lines text);
    }
