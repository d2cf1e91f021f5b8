-- The pieces of a text that is cut at a separator. Assumes nothing.
use Rattle.std.proofs.Common.{◌≡◌, ℕ, ◌<◌, Bool, true, false, eqb, ◌⊎◌, List, [], ◌∷◌, ◌++◌, length, refl, ap, ◌∙◌, inl, inr, arith, length-append}
use Rattle.std.proofs.lemmas.Bool.{eq-eqb, eqb-true}
use Rattle.line_format.specs.Lines.{onto, cut}
use Rattle.line_format.specs.Split.{Without, Parted}

module _ (separator : ℕ) (end : List (List ℕ)) where
  pub cut_by : (c : ℕ) (cs : List ℕ) (b : Bool) → eqb c separator ≡ b →
      cut separator end (c ∷ cs) ≡ elim b as (λ _. List (List ℕ)) [ true ↦ [] ∷ cut separator end cs | false ↦ onto c (cut separator end cs) ]
  cut_by c cs b e = ap (λ (d : Bool). elim d as (λ _. List (List ℕ)) [ true ↦ [] ∷ cut separator end cs | false ↦ onto c (cut separator end cs) ]) e

  -- a text with a separator begins with what stands before it
  pub cut_split : (a b : List ℕ) → Without separator a → cut separator end (a ++ (separator ∷ b)) ≡ a ∷ cut separator end b
  cut_split [] b none = cut_by separator b true (eq-eqb separator separator refl)
  cut_split (c ∷ a) b none = cut_by c (a ++ (separator ∷ b)) false none.0 ∙ ap (onto c) (cut_split a b none.1)

-- a text without a separator is one piece
pub cut_whole : (separator : ℕ) (text : List ℕ) → Without separator text → cut separator ([] ∷ []) text ≡ text ∷ []
cut_whole separator [] none = refl
cut_whole separator (c ∷ cs) none = cut_by separator ([] ∷ []) c cs false none.0 ∙ ap (onto c) (cut_whole separator cs none.1)

-- a text has no separator, or is parted at the first one
abbrev pub SomehowParted : ℕ → List ℕ → Type 0
SomehowParted separator text = (before : List ℕ) × (after : List ℕ) × Parted separator text before after

pub find_parted : (separator : ℕ) (text : List ℕ) → Without separator text ⊎ SomehowParted separator text
find_parted separator [] = inl tt
find_parted separator (c ∷ cs) = go (eqb c separator) refl (find_parted separator cs)
  where
    go : (b : Bool) → eqb c separator ≡ b → Without separator cs ⊎ SomehowParted separator cs → Without separator (c ∷ cs) ⊎ SomehowParted separator (c ∷ cs)
    go true e rest = inr ([], cs, record { first = tt; whole = ap (λ x. x ∷ cs) (eqb-true c separator e) })
    go false e (inl none) = inl (e, none)
    go false e (inr (before, after, p)) = inr (c ∷ before, after, record { first = (e, p.first); whole = ap (λ xs. c ∷ xs) p.whole })

pub after_shorter : {separator : ℕ} {text before after : List ℕ} → Parted separator text before after → length after < length text
after_shorter {separator} {text} {before} {after} p = omega (arith, ap length p.whole, length-append before (separator ∷ after))
