-- The law of readings: following origins lists a derivation of the weight that the edge carries. Assumes nothing.
use Rattle.std.proofs.Common.{◌≡◌, ℕ, zero, suc, ◌≤◌, true, false, List, [], ◌++◌, length, Some, None, Option, sym, ap, ◌∙◌, subst, subst₂, arith}
use Rattle.std.specs.List.{slice_get}
use Rattle.std.proofs.lemmas.Bool.{and_parts}
use Rattle.chart_model.specs.Task.{Task, Sound}
use Rattle.chart_model.specs.Listing.{headed}
use Rattle.chart_model.specs.Plain.{Chart, is_open, edge_of, done}
use Rattle.chart_model.specs.Stands.{Carries}
use Rattle.chart_model.specs.Origins.{AtPlace, Agrees, rank_at, finished_before, names_finished_before, WellFounded}
use Rattle.chart_model.specs.Reading.{rule_of, rule_at, origin_nodes, followed, reading_at, reading, LawOfReadings}
use Rattle.chart_model.specs.declared.edge.Edge.{Edge}
use Rattle.chart_model.specs.declared.edge.Edge.TheVariants.{Passive, Active}
use Rattle.chart_model.specs.declared.origin.Origin.{Origin}
use Rattle.chart_model.specs.declared.origin.Origin.TheVariants.{Word as FromWord, Empty, First, Next}
use Rattle.chart_model.specs.declared.node.Node.{Node}
use Rattle.chart_model.specs.declared.place.Place.{Place}
use Rattle.chart_model.specs.declared.place.Entry.{Entry}
use Rattle.chart_model.proofs.Derivations.{Reads}
use Rattle.chart_model.proofs.Conclusions.{word_reads, empty_reads, first_reads, next_reads}
use Rattle.chart_model.proofs.Done.{done_within}
use Rattle.chart_model.proofs.Numbering.{before_parts, closed_before, names_before}
use Rattle.chart_model.proofs.Carried.{carried_stands}
use Rattle.chart_model.proofs.Founding.{founded_reachable}

pub followed_at : (ps : List Place) (n depth : ℕ) (p : Place) → slice_get ps n ≡ Some p → followed (suc depth) ps n ≡ origin_nodes ps (followed depth ps) p.edge p.origin
followed_at ps n depth p =
    ap (λ (o : Option Place). elim o as (λ _. List Node) [ None ↦ [] | Some q ↦ origin_nodes ps (followed depth ps) q.edge q.origin ])

rule_there : (ps : List Place) (n : ℕ) (p : Place) → slice_get ps n ≡ Some p → rule_at ps n ≡ rule_of p.edge
rule_there ps n p = ap (λ (o : Option Place). elim o as (λ _. ℕ) [ None ↦ 0 | Some q ↦ rule_of q.edge ])

module _ (t : Task) (s : Sound t) (ps : List Place) where
  -- finished places with numbers up to a depth are read by following origins so deep
  abbrev ReadTo : ℕ → Type 0
  ReadTo depth =
      (n : ℕ) (p : Place) → slice_get ps n ≡ Some p → is_open p.rank ≡ false → rank_at ps n ≤ depth → Reads t p.edge p.weight (followed depth ps n)

  -- so is what stands at such a place
  entry_reads : (depth : ℕ) → ReadTo depth → (q : Entry) → AtPlace ps q → (b : ℕ) → q.at ≡ b → rank_at ps b ≤ depth → Reads t q.edge q.weight (followed depth ps b)
  entry_reads depth below q placed b same deep =
      subst (λ n. Reads t q.edge q.weight (followed depth ps n)) same
      (subst₂ (λ e v. Reads t e v (followed depth ps q.at)) placed.edge placed.weight
      (below q.at placed.place placed.there placed.closed (subst (λ n. rank_at ps n ≤ depth) (sym same) deep)))

  -- and what an origin names that agrees with edge and weight
  origin_reads : (depth : ℕ) → ReadTo depth → (e : Edge) (v : ℕ) (o : Origin) → Agrees t ps e v o → (limit : ℕ) → limit ≤ suc depth → names_finished_before ps limit o ≡ true →
      Reads t e v (origin_nodes ps (followed depth ps) e o)
  origin_reads depth below e v (FromWord n) by limit deep before = word_reads t s n e v by
  origin_reads depth below e v (Empty n) by limit deep before = empty_reads t s n e v by
  origin_reads depth below e v (First n b) (q, at, placed, begins) limit deep before =
      let lower = (before_parts ps limit b before).1 in
      let x = begins.symbol in
      let i = begins.from in
      let j = begins.to in
      let child : Reads t (Passive x i j) q.weight (followed depth ps b) =
      subst (λ f. Reads t f q.weight (followed depth ps b)) begins.passive (entry_reads depth below q placed b at (omega arith)) in
      first_reads t s n x i j q.weight (followed depth ps b) e v child begins.conclusion
  origin_reads depth below e v (Next a b) (p, at_a, placed_a, q, at_b, placed_b, joined) limit deep before =
      let both = and_parts (finished_before ps limit a) (finished_before ps limit b) before in
      let lower_a = (before_parts ps limit a both.0).1 in
      let lower_b = (before_parts ps limit b both.1).1 in
      let n = joined.rule in
      let k = joined.seen in
      let h = joined.start in
      let g = joined.meeting in
      let x = joined.symbol in
      let l = joined.to in
      let ms = followed depth ps a in
      let ns = followed depth ps b in
      let active : Reads t (Active n k h g) p.weight ms = subst (λ f. Reads t f p.weight ms) joined.active (entry_reads depth below p placed_a a at_a (omega arith)) in
      let child : Reads t (Passive x g l) q.weight ns = subst (λ f. Reads t f q.weight ns) joined.passive (entry_reads depth below q placed_b b at_b (omega arith)) in
      let rule : n ≡ rule_at ps a =
      sym (ap (rule_at ps) (sym at_a) ∙ rule_there ps p.at placed_a.place placed_a.there ∙ ap rule_of (placed_a.edge ∙ joined.active)) in
      subst (λ m. Reads t e v (headed e m (ms ++ ns))) rule (next_reads t s n k h g p.weight x l q.weight ms ns e v active child joined.conclusion)

module _ (t : Task) (s : Sound t) (c : Chart) (founded : WellFounded t c) where
  -- by the order of finishing
  read_to : (depth : ℕ) → ReadTo t s c.places depth
  read_to zero n p there closed deep =
      let low = (before_parts c.places (suc c.finished) n (closed_before c founded.orderly n p there closed)).0 in
      absurd (omega arith)
  read_to (suc depth) n p there closed deep =
      subst (Reads t p.edge p.weight) (sym (followed_at c.places n depth p there))
      (origin_reads t s c.places depth (read_to depth) p.edge p.weight p.origin (founded.agrees n p there)
      (rank_at c.places n) deep (names_before c founded.orderly n p there closed))

  pub reads_carried : (e : Edge) (w : ℕ) → Carries c e w → Reads t e w (reading c.places e)
  reads_carried e w h =
      let f = carried_stands e c.places w h in
      let n = f.number in
      let high = (before_parts c.places (suc c.finished) n (closed_before c founded.orderly n f.place f.there f.closed)).1 in
      let counted : done c.places ≡ c.finished = founded.counted in
      let most = done_within c.places in
      let is : reading c.places e ≡ reading_at c.places n =
      ap (λ (o : Option ℕ). elim o as (λ _. List Node) [ None ↦ [] | Some m ↦ reading_at c.places m ]) f.found in
      subst (Reads t e w) (sym is)
      (subst₂ (λ d v. Reads t d v (reading_at c.places n)) f.edge f.weight (read_to (length c.places) n f.place f.there f.closed (omega arith)))

pub law_of_readings : (t : Task) → Sound t → LawOfReadings t
law_of_readings t s c reachable p w h = reads_carried t s c (founded_reachable t s reachable) (edge_of p) w h
