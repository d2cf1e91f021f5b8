-- Nodes over a list from its front: all of them where there is room, else the first. Assumes nothing.
use Rattle.std.proofs.Common.{◌≡◌, ◌≤◌, List, [], ◌∷◌, ◌++◌, length, take, drop, refl, ap, arith}
use Rattle.chart_model.specs.Reading.{overwritten}
use Rattle.chart_model.specs.declared.node.Node.{Node}

pub overwritten_fits : (ns before : List Node) → length ns ≤ length before → overwritten ns before ≡ ns ++ drop (length ns) before
overwritten_fits [] before fits = refl
overwritten_fits (x ∷ ns) [] fits = absurd (omega arith)
overwritten_fits (x ∷ ns) (b ∷ before) fits = ap (λ bs. x ∷ bs) (overwritten_fits ns before (omega arith))

pub overwritten_short : (ns before : List Node) → length before ≤ length ns → overwritten ns before ≡ take (length before) ns
overwritten_short [] [] short = refl
overwritten_short [] (b ∷ before) short = absurd (omega arith)
overwritten_short (x ∷ ns) [] short = refl
overwritten_short (x ∷ ns) (b ∷ before) short = ap (λ bs. x ∷ bs) (overwritten_short ns before (omega arith))
