-- What the places answer to a question. Assumes nothing.
use Rattle.std.proofs.Common.{◌≡◌, ℕ, suc, ◌+◌, Bool, true, false, cond, List, [], ◌∷◌, Some, None, Option, sym, refl, ap, ◌∙◌, inl, inr, arith}
use Rattle.std.specs.List.{slice_get, position_from}
use Rattle.std.proofs.lemmas.Iterator.Adapters.{position_from-zero}
use Rattle.chart_model.specs.Plain.{is_open, same_edge, holds, place_of, carried}
use Rattle.chart_model.specs.declared.edge.Edge.{Edge}
use Rattle.chart_model.specs.declared.place.Place.{Place}
use Rattle.std.proofs.lemmas.Bool.{true≢false, or_left, or_right}
use Rattle.chart_model.proofs.Members.{In, none_some, some_same}
use Rattle.chart_model.proofs.Edges.{same_edge_true, same_edge_from}
use Rattle.chart_model.proofs.Placing.{apart}

pub in_holds : (e : Edge) (ps : List Place) (p : Place) → In p ps → p.edge ≡ e → holds e ps ≡ true
in_holds e [] p i same = absurd i
in_holds e (q ∷ ps) p (inl h) same =
    or_left (same_edge q.edge e) (holds e ps) (same_edge_from q.edge e (ap (λ (r : Place). r.edge) h ∙ same))
in_holds e (q ∷ ps) p (inr i) same = or_right (same_edge q.edge e) (holds e ps) (in_holds e ps p i same)

-- the answer comes from a finished place of the edge
abbrev Found : Edge → List Place → ℕ → Type 0
Found e ps w = (p : Place) × In p ps × (p.edge ≡ e) × (is_open p.rank ≡ false) × (p.weight ≡ w)

pub carried_from : (e : Edge) (ps : List Place) (w : ℕ) → carried e ps ≡ Some w → Found e ps w
carried_from e [] w h = absurd (none_some h)
carried_from e (q ∷ ps) w h = go (same_edge q.edge e) refl (carried_from e ps w) h
  where
    here : same_edge q.edge e ≡ true → (b : Bool) → is_open q.rank ≡ b →
        elim b as (λ _. Option ℕ) [ true ↦ None | false ↦ Some q.weight ] ≡ Some w → Found e (q ∷ ps) w
    here same true s h' = absurd (none_some h')
    here same false s h' = (q, inl refl, same_edge_true q.edge e same, s, some_same h')

    go : (b : Bool) → same_edge q.edge e ≡ b → (carried e ps ≡ Some w → Found e ps w) →
        elim b as (λ _. Option ℕ) [ true ↦ elim (is_open q.rank) [ true ↦ None | false ↦ Some q.weight ] | false ↦ carried e ps ] ≡ Some w →
        Found e (q ∷ ps) w
    go true same later h' = here same (is_open q.rank) refl h'
    go false other later h' = let (p, i, edge, closed, weight) = later h' in (p, inr i, edge, closed, weight)

-- where no edge has two places, a finished place answers for its edge
pub carried_of : (e : Edge) (ps : List Place) → apart ps → (p : Place) → In p ps → p.edge ≡ e → is_open p.rank ≡ false → carried e ps ≡ Some p.weight
carried_of e [] distinct p i same closed = absurd i
carried_of e (q ∷ ps) distinct p (inl h) same closed =
    let found : same_edge q.edge e ≡ true = same_edge_from q.edge e (ap (λ (r : Place). r.edge) h ∙ same) in
    ap (λ b. elim b as (λ _. Option ℕ) [ true ↦ elim (is_open q.rank) [ true ↦ None | false ↦ Some q.weight ] | false ↦ carried e ps ]) found
    ∙ ap (λ b. elim b as (λ _. Option ℕ) [ true ↦ None | false ↦ Some q.weight ]) (ap (λ (r : Place). is_open r.rank) h ∙ closed)
    ∙ ap (λ (r : Place). Some r.weight) h
carried_of e (q ∷ ps) distinct p (inr i) same closed = go (same_edge q.edge e) refl (carried_of e ps distinct.1 p i same closed)
  where
    go : (b : Bool) → same_edge q.edge e ≡ b → carried e ps ≡ Some p.weight →
        elim b as (λ _. Option ℕ) [ true ↦ elim (is_open q.rank) [ true ↦ None | false ↦ Some q.weight ] | false ↦ carried e ps ] ≡ Some p.weight
    go true h later = absurd (true≢false (sym (in_holds q.edge ps p i (same ∙ sym (same_edge_true q.edge e h))) ∙ distinct.0))
    go false h later = later

-- a finished edge, and its place
pub record StandsAt (e : Edge) (ps : List Place) (w : ℕ) (first : ℕ → Type 0) : Type 0 where
  pub number : ℕ
  pub place : Place
  pub there : slice_get ps number ≡ Some place
  pub found : first number
  pub edge : place.edge ≡ e
  pub closed : is_open place.rank ≡ false
  pub weight : place.weight ≡ w

-- where the first place is number m
abbrev First : ℕ → Edge → List Place → ℕ → Type 0
First m e ps n = position_from (λ (p : Place). same_edge p.edge e) m ps ≡ Some (m + n)

stands_from : (m : ℕ) (e : Edge) (ps : List Place) (w : ℕ) → carried e ps ≡ Some w → StandsAt e ps w (First m e ps)
stands_from m e [] w h = absurd (none_some h)
stands_from m e (q ∷ ps) w h = go (same_edge q.edge e) refl (stands_from (m + 1) e ps w) h
  where
    here : same_edge q.edge e ≡ true → (b : Bool) → is_open q.rank ≡ b →
        elim b as (λ _. Option ℕ) [ true ↦ None | false ↦ Some q.weight ] ≡ Some w → StandsAt e (q ∷ ps) w (First m e (q ∷ ps))
    here same true s h' = absurd (none_some h')
    here same false s h' =
        let at : m ≡ m + 0 = omega arith in
        record {
          number = 0;
          place = q;
          there = refl;
          found = ap (λ b. cond b (Some m) (position_from (λ (p : Place). same_edge p.edge e) (m + 1) ps)) same ∙ ap Some at;
          edge = same_edge_true q.edge e same;
          closed = s;
          weight = some_same h';
        }

    later : same_edge q.edge e ≡ false → StandsAt e ps w (First (m + 1) e ps) → StandsAt e (q ∷ ps) w (First m e (q ∷ ps))
    later other f =
        let at : m + 1 + f.number ≡ m + suc f.number = omega arith in
        record {
          number = suc f.number;
          place = f.place;
          there = f.there;
          found = ap (λ b. cond b (Some m) (position_from (λ (p : Place). same_edge p.edge e) (m + 1) ps)) other ∙ f.found ∙ ap Some at;
          edge = f.edge;
          closed = f.closed;
          weight = f.weight;
        }

    go : (b : Bool) → same_edge q.edge e ≡ b → (carried e ps ≡ Some w → StandsAt e ps w (First (m + 1) e ps)) →
        elim b as (λ _. Option ℕ) [ true ↦ elim (is_open q.rank) [ true ↦ None | false ↦ Some q.weight ] | false ↦ carried e ps ] ≡ Some w →
        StandsAt e (q ∷ ps) w (First m e (q ∷ ps))
    go true same after h' = here same (is_open q.rank) refl h'
    go false other after h' = later other (after h')

pub carried_stands : (e : Edge) (ps : List Place) (w : ℕ) → carried e ps ≡ Some w → StandsAt e ps w (λ n. place_of e ps ≡ Some n)
carried_stands e ps w h =
    let f = stands_from 0 e ps w h in
    let at : 0 + f.number ≡ f.number = omega arith in
    record {
      number = f.number;
      place = f.place;
      there = f.there;
      found = position_from-zero (λ (p : Place). same_edge p.edge e) ps ∙ f.found ∙ ap Some at;
      edge = f.edge;
      closed = f.closed;
      weight = f.weight;
    }
