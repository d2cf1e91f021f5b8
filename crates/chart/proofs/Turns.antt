-- A loop that changes each element of a list in turn, and with it a state. Assumes nothing.
use Rattle.std.proofs.Common.{◌≡◌, ℕ, ◌+◌, ◌<◌, ◌≤◌, List, [], ◌∷◌, ◌++◌, length, fold, get_or, take, drop, set, sym, ap, ◌∙◌, subst, subst₂, arith}
use Rattle.std.specs.List.{AllZip}
use Rattle.std.proofs.lemmas.List.{append-nil, append_assoc, drop_all, take_all, drop_more, drop-set-lt, take_more_set}
use Rattle.chart.specs.Calls.{InTurn}

module _ {X C : Type 0} (next : C → X → C) (becomes : C → X → X → Type 0) (start : C) (xs : List X) where
  -- the elements before number i have had their turn, and the state is c: what the others will become completes the list
  pub record Midway (i : ℕ) (c : C) (ys : List X) : Type 0 where
    pub gives : (zs : List X) → InTurn next becomes c (drop i ys) zs → InTurn next becomes start xs (take i ys ++ zs)
    pub leaves : fold next c (drop i ys) ≡ fold next start xs

module _ {X C : Type 0} {next : C → X → C} {becomes : C → X → X → Type 0} {start : C} {xs : List X} {i : ℕ} {c : C} {ys : List X} where
  pub turned : (d : C) (y default : X) → i < length ys → Midway next becomes start xs i c ys → becomes c (get_or ys i default) y → d ≡ next c (get_or ys i default) →
      Midway next becomes start xs (i + 1) d (set ys i y)
  turned d y default within so_far became moved =
      let x = get_or ys i default in
      let here : drop i ys ≡ x ∷ drop (i + 1) ys = drop_more ys i default within in
      let later : drop (i + 1) (set ys i y) ≡ drop (i + 1) ys = drop-set-lt (i + 1) ys i y (omega arith) in
      record {
        gives = λ zs h.
            let rest : InTurn next becomes (next c x) (drop (i + 1) ys) zs = subst₂ (λ e vs. InTurn next becomes e vs zs) moved later h in
            let both : InTurn next becomes c (drop i ys) (y ∷ zs) = subst (λ vs. InTurn next becomes c vs (y ∷ zs)) (sym here) (became, rest) in
            subst (InTurn next becomes start xs) (sym (ap (λ vs. vs ++ zs) (take_more_set ys i y within) ∙ append_assoc (take i ys) (y ∷ []) zs)) (so_far.gives (y ∷ zs) both);
        leaves = ap (fold next d) later ∙ ap (λ e. fold next e (drop (i + 1) ys)) moved ∙ sym (ap (fold next c) here) ∙ so_far.leaves;
      }

  pub all_turned : length ys ≤ i → Midway next becomes start xs i c ys → InTurn next becomes start xs ys
  all_turned past so_far =
      let none : drop i ys ≡ [] = drop_all i ys past in
      let done : InTurn next becomes start xs (take i ys ++ []) = so_far.gives [] (subst (λ vs. InTurn next becomes c vs []) (sym none) tt) in
      subst (InTurn next becomes start xs) (append-nil (take i ys) ∙ take_all i ys past) done

-- where the state stays, each element has become the one at its place
pub in_turn_zip : {X C : Type 0} (becomes : C → X → X → Type 0) (c : C) (xs ys : List X) → InTurn (λ d _. d) becomes c xs ys → AllZip (becomes c) xs ys
in_turn_zip becomes c [] [] h = tt
in_turn_zip becomes c [] (y ∷ ys) h = absurd h
in_turn_zip becomes c (x ∷ xs) [] h = absurd h
in_turn_zip becomes c (x ∷ xs) (y ∷ ys) (here, later) = (here, in_turn_zip becomes c xs ys later)
