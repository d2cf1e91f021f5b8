-- Origins: each edge is the conclusion of an inference whose premises were finished before it. Assumes nothing.
use Rattle.std.specs.Prelude.{◌≡◌, ℕ, zero, suc, ◌≤◌, Bool, true, false, ◌&&◌, List, [], ◌∷◌, Some, None, Option, nat_le, nat_lt}
use Rattle.std.specs.List.{list_all, slice_get}
use Rattle.std.specs.Option.{unwrap_or}
use Rattle.grammar.specs.Rules.{Rule}
use Rattle.lattice.specs.declared.word.Word.{Word}
use Rattle.chart_model.specs.Task.{Task}
use Rattle.chart_model.specs.Plain.{Chart, is_open, done, rule_edge}
use Rattle.chart_model.specs.declared.edge.Edge.{Edge}
use Rattle.chart_model.specs.declared.edge.Edge.TheVariants.{Passive, Active}
use Rattle.chart_model.specs.declared.origin.Origin.{Origin}
use Rattle.chart_model.specs.declared.origin.Origin.TheVariants.{Word as FromWord, Empty, First, Next}
use Rattle.chart_model.specs.declared.place.Place.{Place}
use Rattle.chart_model.specs.declared.place.Entry.{Entry}

-- INFERENCES, with an edge e of weight v as the conclusion

-- axiom: word n
pub record ByWord (t : Task) (n : ℕ) (e : Edge) (v : ℕ) : Type 0 where
  pub heard : Word
  pub there : slice_get t.words n ≡ Some heard
  pub edge : e ≡ Passive heard.symbol heard.from heard.to
  pub weight : v ≡ t.weights.weigh heard.mark

-- axiom: the empty rule n, at some node
pub record ByEmpty (t : Task) (n : ℕ) (e : Edge) (v : ℕ) : Type 0 where
  pub by : Rule
  pub node : ℕ
  pub there : slice_get t.rules n ≡ Some by
  pub bare : by.right ≡ []
  pub within : node ≤ t.last
  pub edge : e ≡ Passive by.left node node
  pub weight : v ≡ t.weights.weigh by.mark

-- bottom-up start of rule n: the premise is x[i, j], of weight w
pub record ByFirst (t : Task) (n x i j w : ℕ) (e : Edge) (v : ℕ) : Type 0 where
  pub by : Rule
  pub there : slice_get t.rules n ≡ Some by
  pub begins : slice_get by.right 0 ≡ Some x
  pub edge : e ≡ rule_edge n by 1 i j
  pub weight : v ≡ t.weights.join (t.weights.weigh by.mark) w

-- fundamental rule: the premises are rule n from h, the dot after k symbols, of weight u, and x up to l, of weight w
pub record ByNext (t : Task) (n k h u x l w : ℕ) (e : Edge) (v : ℕ) : Type 0 where
  pub by : Rule
  pub there : slice_get t.rules n ≡ Some by
  pub wanted : slice_get by.right k ≡ Some x
  pub edge : e ≡ rule_edge n by (suc k) h l
  pub weight : v ≡ t.weights.join u w

-- bottom-up start of rule n with the premise s
pub record Begins (t : Task) (s : Entry) (n : ℕ) (e : Edge) (v : ℕ) : Type 0 where
  pub symbol : ℕ
  pub from : ℕ
  pub to : ℕ
  pub passive : s.edge ≡ Passive symbol from to
  pub conclusion : ByFirst t n symbol from to s.weight e v

-- fundamental rule with the premises p, active, and q, passive, which share the node `meeting`
pub record Joined (t : Task) (p q : Entry) (e : Edge) (v : ℕ) : Type 0 where
  pub rule : ℕ
  pub seen : ℕ
  pub start : ℕ
  pub meeting : ℕ
  pub symbol : ℕ
  pub to : ℕ
  pub active : p.edge ≡ Active rule seen start meeting
  pub passive : q.edge ≡ Passive symbol meeting to
  pub conclusion : ByNext t rule seen start p.weight symbol to q.weight e v

-- q is the entry of a finished place
pub record AtPlace (ps : List Place) (q : Entry) : Type 0 where
  pub place : Place
  pub there : slice_get ps q.at ≡ Some place
  pub closed : is_open place.rank ≡ false
  pub edge : place.edge ≡ q.edge
  pub weight : place.weight ≡ q.weight

-- the inference that an origin names, all of its premises finished
abbrev pub Agrees : Task → List Place → Edge → ℕ → Origin → Type 0
Agrees t ps e v (FromWord n) = ByWord t n e v
Agrees t ps e v (Empty n) = ByEmpty t n e v
Agrees t ps e v (First n b) = (q : Entry) × (q.at ≡ b) × AtPlace ps q × Begins t q n e v
Agrees t ps e v (Next a b) = (p : Entry) × (p.at ≡ a) × AtPlace ps p × (q : Entry) × (q.at ≡ b) × AtPlace ps q × Joined t p q e v

-- THE ORDER OF FINISHING

-- a finishing number, from 1; 0 for none
abbrev pub rank_of : Option ℕ → ℕ
rank_of rank = unwrap_or rank 0

-- that of place n
abbrev pub rank_at : List Place → ℕ → ℕ
rank_at [] n = 0
rank_at (p ∷ ps) zero = rank_of p.rank
rank_at (p ∷ ps) (suc n) = rank_at ps n

-- place n was finished, by a number below the limit
abbrev pub finished_before : List Place → ℕ → ℕ → Bool
finished_before ps limit n = nat_lt 0 (rank_at ps n) && nat_lt (rank_at ps n) limit

abbrev pub names_finished_before : List Place → ℕ → Origin → Bool
names_finished_before ps limit (FromWord n) = true
names_finished_before ps limit (Empty n) = true
names_finished_before ps limit (First n b) = finished_before ps limit b
names_finished_before ps limit (Next a b) = finished_before ps limit a && finished_before ps limit b

-- the number that a place has, or would get next
abbrev pub due : ℕ → Option ℕ → ℕ
due finished None = suc finished
due finished (Some m) = m

-- numbers so far are 1 to `finished`
abbrev pub numbered : ℕ → Option ℕ → Bool
numbered finished None = true
numbered finished (Some m) = nat_lt 0 m && nat_le m finished

-- all premises were finished first
abbrev pub place_orderly : Chart → Place → Bool
place_orderly c p = numbered c.finished p.rank && names_finished_before c.places (due c.finished p.rank) p.origin

abbrev pub orderly : Chart → Bool
orderly c = list_all (place_orderly c) c.places

-- THE INVARIANT

pub record WellFounded (t : Task) (c : Chart) : Type 0 where
  -- each place holds the conclusion of the inference that its origin names
  pub agrees : (n : ℕ) (p : Place) → slice_get c.places n ≡ Some p → Agrees t c.places p.edge p.weight p.origin
  -- premises come before conclusions, so no chain of origins returns to where it began
  pub orderly : orderly c ≡ true
  -- the count of finished edges is right
  pub counted : done c.places ≡ c.finished
