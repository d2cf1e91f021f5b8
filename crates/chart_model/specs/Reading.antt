-- Readings: the derivation that origins spell out, and how it is written into a list. Assumes nothing.
use Rattle.std.specs.Prelude.{◌≡◌, ℕ, zero, suc, true, false, List, [], ◌∷◌, ◌++◌, length, Some, None, Ok, Err, Result, nat_le}
use Rattle.std.specs.List.{slice_get}
use Rattle.chart_model.specs.Task.{Task}
use Rattle.chart_model.specs.Derivation.{Tree, tree_weight}
use Rattle.chart_model.specs.Listing.{tree_nodes, headed, word_node}
use Rattle.chart_model.specs.Plain.{Chart, place_of, edge_of, settled_answer}
use Rattle.chart_model.specs.Stands.{Carries, Reachable}
use Rattle.chart_model.specs.declared.edge.Edge.{Edge}
use Rattle.chart_model.specs.declared.edge.Edge.TheVariants.{Passive, Active}
use Rattle.chart_model.specs.declared.origin.Origin.{Origin}
use Rattle.chart_model.specs.declared.origin.Origin.TheVariants.{Word as FromWord, Empty, First, Next}
use Rattle.chart_model.specs.declared.node.Node.{Node}
use Rattle.chart_model.specs.declared.phrase.Phrase.{Phrase}
use Rattle.chart_model.specs.declared.place.Place.{Place}

-- the rule of an active edge; 0 for a passive one, which nothing asks for
abbrev pub rule_of : Edge → ℕ
rule_of (Passive x i j) = 0
rule_of (Active n k i j) = n

abbrev pub rule_at : List Place → ℕ → ℕ
rule_at ps n = elim (slice_get ps n) [ None ↦ 0 | Some p ↦ rule_of p.edge ]

-- the nodes of an edge by its origin, given those of the places that the origin names
abbrev pub origin_nodes : List Place → (ℕ → List Node) → Edge → Origin → List Node
origin_nodes ps below e (FromWord n) = word_node e n
origin_nodes ps below e (Empty n) = headed e n []
origin_nodes ps below e (First r child) = headed e r (below child)
origin_nodes ps below e (Next active child) = headed e (rule_at ps active) (below active ++ below child)

-- the nodes of place n, by origins up to a depth
abbrev pub followed : ℕ → List Place → ℕ → List Node
followed zero ps n = []
followed (suc depth) ps n = elim (slice_get ps n) [ None ↦ [] | Some p ↦ origin_nodes ps (followed depth ps) p.edge p.origin ]

-- as deep as there are places, which is deep enough
abbrev pub reading_at : List Place → ℕ → List Node
reading_at ps n = followed (length ps) ps n

-- the reading of an edge
abbrev pub reading : List Place → Edge → List Node
reading ps e = elim (place_of e ps) [ None ↦ [] | Some n ↦ reading_at ps n ]

-- THE LAW OF READINGS: the nodes of a finished passive edge are those of one of its derivations, of just its weight
abbrev pub LawOfReadings : Task → Type 0
LawOfReadings t =
    (c : Chart) → Reachable t c → (p : Phrase) (w : ℕ) → Carries c (edge_of p) w →
    (d : Tree t p.symbol p.from p.to) × (tree_weight d ≡ w) × (tree_nodes d ≡ reading c.places (edge_of p))

-- WRITTEN INTO A LIST

-- nodes written over the front of a list, cut where the list ends
abbrev pub overwritten : List Node → List Node → List Node
overwritten [] before = before
overwritten (n ∷ ns) [] = []
overwritten (n ∷ ns) (b ∷ before) = n ∷ overwritten ns before

-- their number if they fit, else 12
abbrev pub fitting : ℕ → List Node → Result ℕ ℕ
fitting room ns = elim (nat_le (length ns) room) [ true ↦ Ok (length ns) | false ↦ Err 12 ]

-- what a reading answers: the number of nodes, 12, or the refusal of the question
abbrev pub reading_answer : Task → Chart → Phrase → ℕ → Result ℕ ℕ
reading_answer t c p room =
    elim (settled_answer t c p) [ Ok w ↦ fitting room (reading c.places (edge_of p)) | Err number ↦ Err number ]

-- what it leaves in the list, which a refused question does not touch
abbrev pub reading_list : Task → Chart → Phrase → List Node → List Node
reading_list t c p before =
    elim (settled_answer t c p) [ Ok w ↦ overwritten (reading c.places (edge_of p)) before | Err number ↦ before ]
