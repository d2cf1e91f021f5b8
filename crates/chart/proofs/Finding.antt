-- What a settled chart answers, by the place that was found for a phrase. Assumes nothing.
use Rattle.std.proofs.Common.{◌≡◌, ℕ, ◌<◌, ◌≤◌, Bool, true, false, List, [], length, Some, None, Ok, Err, Option, Result, sym, refl, ap, ◌∙◌, arith}
use Rattle.std.specs.List.{slice_get}
use Rattle.std.specs.Option.{option_map, ok_or}
use Rattle.std.specs.Result.{result_map_both}
use Rattle.std.proofs.lemmas.Bool.{le-leb, lt-leb}
use Rattle.chart_model.specs.Task.{Task}
use Rattle.chart_model.specs.Plain.{Chart, edge_of, is_within, carried, missing_number, settled_answer, place_of, entry}
use Rattle.chart_model.specs.Reading.{reading, reading_at, overwritten, fitting, reading_answer, reading_list}
use Rattle.chart_model.specs.Saying.{SettledSays, ReadingSays}
use Rattle.chart_model.specs.declared.edge.Edge.{Edge}
use Rattle.chart_model.specs.declared.node.Node.{Node}
use Rattle.chart_model.specs.declared.phrase.Phrase.{Phrase}
use Rattle.chart_model.specs.declared.place.Place.{Place}
use Rattle.chart_model.specs.declared.place.Entry.{Entry}
use Rattle.chart_model.proofs.Members.{none_some, some_same}
use Rattle.chart.specs.Finding.{found_answer}
use Rattle.chart.specs.Walk.{Wrote}
use Rattle.chart.specs.Saying.{ListedSays}
use Rattle.chart.specs.View.{room, finished_entry_at, finished_entry_of}
use Rattle.chart.proofs.Carrying.{carried_entry}

module _ (t : Task) (c : Chart) (p : Phrase) where
  -- the weight alone
  abbrev weighed : Result Entry ℕ → Result ℕ ℕ
  weighed r = result_map_both (λ (s : Entry). s.weight) (λ e. e) r

  found_weighs : weighed (found_answer t c p) ≡ settled_answer t c p
  found_weighs = go (is_within t.last p) (finished_entry_of (edge_of p) c.places) (carried_entry (edge_of p) c.places)
    where
      go : (b : Bool) (o : Option Entry) → option_map (λ (s : Entry). s.weight) o ≡ carried (edge_of p) c.places →
          weighed (elim b as (λ _. Result Entry ℕ) [ true ↦ ok_or o (missing_number c) | false ↦ Err 7 ])
          ≡ elim b as (λ _. Result ℕ ℕ) [ true ↦ ok_or (carried (edge_of p) c.places) (missing_number c) | false ↦ Err 7 ]
      go false o h = refl
      go true None h = ap (λ v. ok_or v (missing_number c)) h
      go true (Some s) h = ap (λ v. ok_or v (missing_number c)) h

  pub found_ok : (s : Entry) → Ok s ≡ found_answer t c p → Ok s.weight ≡ settled_answer t c p
  found_ok s found = ap weighed found ∙ found_weighs

  pub found_err : (number : ℕ) → Err number ≡ found_answer t c p → Err number ≡ settled_answer t c p
  found_err number found = ap weighed found ∙ found_weighs

  entry_found : (s : Entry) → Ok s ≡ found_answer t c p → finished_entry_of (edge_of p) c.places ≡ Some s
  entry_found s = go (is_within t.last p) (finished_entry_of (edge_of p) c.places)
    where
      go : (b : Bool) (o : Option Entry) → Ok s ≡ elim b as (λ _. Result Entry ℕ) [ true ↦ ok_or o (missing_number c) | false ↦ Err 7 ] → o ≡ Some s
      go false o h = absurd cc
      go true None h = absurd cc
      go true (Some r) h = cc

-- it stands where its reading begins
entry_reading : (e : Edge) (ps : List Place) (s : Entry) → finished_entry_of e ps ≡ Some s → reading ps e ≡ reading_at ps s.at
entry_reading e ps s h = go (place_of e ps) h
  where
    at_place : (n : ℕ) (o : Option Place) → elim o as (λ _. Option Entry) [ None ↦ None | Some p ↦ elim p.rank as (λ _. Option Entry) [ None ↦ None | Some m ↦ Some (entry n p) ] ] ≡ Some s → s.at ≡ n
    at_place n None h = absurd (none_some h)
    at_place n (Some p) h = closed p.rank h
      where
        closed : (f : Option ℕ) → elim f as (λ _. Option Entry) [ None ↦ None | Some m ↦ Some (entry n p) ] ≡ Some s → s.at ≡ n
        closed None h = absurd (none_some h)
        closed (Some m) h = ap (λ (r : Entry). r.at) (sym (some_same h))

    go : (o : Option ℕ) → elim o as (λ _. Option Entry) [ None ↦ None | Some n ↦ finished_entry_at ps n ] ≡ Some s →
        elim o as (λ _. List Node) [ None ↦ [] | Some n ↦ reading_at ps n ] ≡ reading_at ps s.at
    go None h = absurd (none_some h)
    go (Some n) h = ap (reading_at ps) (sym (at_place n (slice_get ps n) h))

-- WHAT A READING ANSWERS AND LEAVES

module _ (t : Task) (c : Chart) (p : Phrase) (before : List Node) where
  pub record Reads (after : List Node) (r : Result ℕ ℕ) : Type 0 where
    pub answer : r ≡ reading_answer t c p (length before)
    pub list : after ≡ reading_list t c p before

  abbrev answered : Result ℕ ℕ → List Node → Result ℕ ℕ
  answered o ns = elim o as (λ _. Result ℕ ℕ) [ Ok w ↦ fitting (length before) ns | Err n ↦ Err n ]

  abbrev listed : Result ℕ ℕ → List Node → List Node
  listed o ns = elim o as (λ _. List Node) [ Ok w ↦ overwritten ns before | Err n ↦ before ]

  pub refused : (number : ℕ) → Err number ≡ found_answer t c p → Reads before (Err number)
  refused number found =
      let is = found_err t c p number found in
      record {
        answer = ap (λ o. answered o (reading c.places (edge_of p))) is;
        list = ap (λ o. listed o (reading c.places (edge_of p))) is;
      }

  module _ (s : Entry) (found : Ok s ≡ found_answer t c p) where
    abbrev ns : List Node
    ns = reading_at c.places s.at

    nodes_are : ns ≡ reading c.places (edge_of p)
    nodes_are = sym (entry_reading (edge_of p) c.places s (entry_found t c p s found))

    answer_is : fitting (length before) ns ≡ reading_answer t c p (length before)
    answer_is = ap (fitting (length before)) nodes_are ∙ ap (λ o. answered o (reading c.places (edge_of p))) (found_ok t c p s found)

    list_is : overwritten ns before ≡ reading_list t c p before
    list_is = ap (λ ms. overwritten ms before) nodes_are ∙ ap (λ o. listed o (reading c.places (edge_of p))) (found_ok t c p s found)

    -- there was room for all, and so many were written
    pub all_read : (after : List Node) (n : ℕ) → Wrote ns before after 0 (Some n) → Reads after (Ok n)
    all_read after n (written, (count, within)) =
        let same : n ≡ length ns = omega arith in
        let fits : length ns ≤ length before = omega arith in
        record {
          answer = ap Ok same ∙ ap (λ b. elim b as (λ _. Result ℕ ℕ) [ true ↦ Ok (length ns) | false ↦ Err 12 ]) (sym (le-leb (length ns) (length before) fits)) ∙ answer_is;
          list = written ∙ list_is;
        }

    -- there was not
    pub first_read : (after : List Node) → Wrote ns before after 0 None → Reads after (Err 12)
    first_read after (written, short) =
        let past : length before < length ns = omega arith in
        record {
          answer = ap (λ b. elim b as (λ _. Result ℕ ℕ) [ true ↦ Ok (length ns) | false ↦ Err 12 ]) (sym (lt-leb (length ns) (length before) past)) ∙ answer_is;
          list = written ∙ list_is;
        }

-- THE WEIGHT BESIDE A READING

pub listed_says : {t : Task} {c : Chart} {p : Phrase} {before after : List Node} {w n : ℕ} →
    SettledSays t room c p (Ok w) → ReadingSays t room c p before after (Ok n) → ListedSays t c p before after (Ok (record { weight = w; nodes = n }))
listed_says {w = w} says (Ok v, said, wrote) =
    let same : v ≡ w = some_same (sym ((said.question.finished v).0 refl) ∙ (says.question.finished w).0 refl) in
    (Ok v, said, wrote, ap Ok same)
listed_says {n = n} says (Err refusal, said, (same, kept)) = absurd (let e : ◌≡◌ {A = Result ℕ ℕ} (Ok n) (Err refusal) = same in cc)
