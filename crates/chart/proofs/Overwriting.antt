-- Nodes written over a list, some after others. Assumes nothing.
use Rattle.std.proofs.Common.{◌≡◌, ℕ, zero, suc, ◌+◌, ◌<◌, ◌≤◌, List, [], ◌∷◌, ◌++◌, length, set, Some, None, Option, sym, refl, ap, ◌∙◌, subst, arith}
use Rattle.std.proofs.lemmas.List.{length-append}
use Rattle.chart_model.specs.declared.node.Node.{Node}
use Rattle.chart.specs.Walk.{overwritten_from, Filled, Wrote}

overwritten_nothing : (n : ℕ) (before : List Node) → before ≡ overwritten_from n [] before
overwritten_nothing zero before = refl
overwritten_nothing (suc n) [] = refl
overwritten_nothing (suc n) (b ∷ before) = ap (λ bs. b ∷ bs) (overwritten_nothing n before)

-- nothing is written past the end
overwritten_past : (n : ℕ) (ns before : List Node) → length before ≤ n → overwritten_from n ns before ≡ before
overwritten_past zero [] before past = refl
overwritten_past zero (x ∷ ns) [] past = refl
overwritten_past zero (x ∷ ns) (b ∷ before) past = absurd (omega arith)
overwritten_past (suc n) ns [] past = refl
overwritten_past (suc n) ns (b ∷ before) past = ap (λ bs. b ∷ bs) (overwritten_past n ns before (omega arith))

overwritten_length : (n : ℕ) (ns before : List Node) → length (overwritten_from n ns before) ≡ length before
overwritten_length zero [] before = refl
overwritten_length zero (x ∷ ns) [] = refl
overwritten_length zero (x ∷ ns) (b ∷ before) = ap suc (overwritten_length zero ns before)
overwritten_length (suc n) ns [] = refl
overwritten_length (suc n) ns (b ∷ before) = ap suc (overwritten_length n ns before)

-- some nodes and then others
overwritten_more : (n m : ℕ) (ns later before : List Node) → m ≡ n + length ns → overwritten_from n (ns ++ later) before ≡ overwritten_from m later (overwritten_from n ns before)
overwritten_more zero zero [] later before e = refl
overwritten_more zero zero (x ∷ ns) later before e = absurd (omega arith)
overwritten_more zero (suc m) [] later before e = absurd (omega arith)
overwritten_more zero (suc m) (x ∷ ns) later [] e = refl
overwritten_more zero (suc m) (x ∷ ns) later (b ∷ before) e = ap (λ bs. x ∷ bs) (overwritten_more zero m ns later before (omega arith))
overwritten_more (suc n) zero ns later before e = absurd (omega arith)
overwritten_more (suc n) (suc m) ns later [] e = refl
overwritten_more (suc n) (suc m) ns later (b ∷ before) e = ap (λ bs. b ∷ bs) (overwritten_more n m ns later before (omega arith))

overwritten_one : (n : ℕ) (x : Node) (before : List Node) → set before n x ≡ overwritten_from n (x ∷ []) before
overwritten_one zero x [] = refl
overwritten_one zero x (b ∷ before) = refl
overwritten_one (suc n) x [] = refl
overwritten_one (suc n) x (b ∷ before) = ap (λ bs. b ∷ bs) (overwritten_one n x before)

-- AN EDGE'S OWN NODE

module _ (before : List Node) (filled : ℕ) where
  pub wrote_nothing : (ns : List Node) → [] ≡ ns → filled ≤ length before → Wrote ns before before filled (Some filled)
  wrote_nothing ns none within = subst (λ ms. Wrote ms before before filled (Some filled)) none (overwritten_nothing filled before, (omega arith, within))

  pub wrote_one : (ns : List Node) (x : Node) → x ∷ [] ≡ ns → filled < length before → Wrote ns before (set before filled x) filled (Some (filled + 1))
  wrote_one ns x one within = subst (λ ms. Wrote ms before (set before filled x) filled (Some (filled + 1))) one (overwritten_one filled x before, (omega arith, omega arith))

  pub wrote_past : (ns : List Node) (x : Node) → x ∷ [] ≡ ns → length before ≤ filled → Wrote ns before before filled None
  wrote_past ns x one past = subst (λ ms. Wrote ms before before filled None) one (sym (overwritten_past filled (x ∷ []) before past), omega arith)

-- SOME NODES AND THEN OTHERS

module _ (ns later before middle : List Node) (filled : ℕ) where
  -- there is no room for the first, nor for all
  pub wrote_none : Wrote ns before middle filled None → Wrote (ns ++ later) before middle filled None
  wrote_none (list, short) =
      let long : length (ns ++ later) ≡ length ns + length later = length-append ns later in
      let kept : length (overwritten_from filled ns before) ≡ length before = overwritten_length filled ns before in (
        list ∙ sym (overwritten_more filled (filled + length ns) ns later before refl ∙ overwritten_past (filled + length ns) later (overwritten_from filled ns before) (omega arith)),
        omega arith,
      )

  module _ (n : ℕ) (first : Wrote ns before middle filled (Some n)) (after : List Node) where
    pub wrote_more : (r : Option ℕ) → Wrote later middle after n r → Wrote (ns ++ later) before after filled r
    wrote_more r (list, fits) = (list ∙ ap (overwritten_from n later) first.0 ∙ sym (overwritten_more filled n ns later before first.1.0), go r fits)
      where
        go : (r : Option ℕ) → Filled later (length middle) n r → Filled (ns ++ later) (length before) filled r
        go None short =
            let long : length (ns ++ later) ≡ length ns + length later = length-append ns later in
            let kept : length middle ≡ length before = ap length first.0 ∙ overwritten_length filled ns before in
            let count = first.1.0 in
            omega arith
        go (Some m) (sum, within) =
            let long : length (ns ++ later) ≡ length ns + length later = length-append ns later in
            let kept : length middle ≡ length before = ap length first.0 ∙ overwritten_length filled ns before in
            let count = first.1.0 in
            (omega arith, omega arith)
