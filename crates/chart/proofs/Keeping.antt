-- What a table keeps: its room, its count, and the order of its origins. Assumes nothing.
use Rattle.std.proofs.Common.{◌≡◌, ℕ, suc, ◌<◌, ◌≤◌, min, Bool, true, [], ◌∷◌, length, take, Some, sym, ap, ◌∙◌, arith}
use Rattle.std.proofs.lemmas.List.{length-take}
use Rattle.chart_model.specs.Plain.{Chart, done, finish, arrive, finishing, lightest_open}
use Rattle.chart_model.specs.Stands.{Fits}
use Rattle.chart_model.specs.Origins.{orderly}
use Rattle.chart_model.specs.declared.place.Arrival.{Arrival}
use Rattle.chart_model.specs.declared.place.Entry.{Entry}
use Rattle.chart_model.proofs.Members.{nth_below}
use Rattle.chart_model.proofs.Arriving.{arrive_all_done, arrive_all_fits}
use Rattle.chart_model.proofs.Done.{done_within}
use Rattle.chart_model.proofs.Finishing.{finish_done, finish_length}
use Rattle.chart_model.proofs.Lightest.{lightest_stands}
use Rattle.chart_model.proofs.Numbering.{rank_within, before_parts, count_arrive, orderly_arrive, before_now, orderly_finish}
use Rattle.chart.specs.declared.places.Places.{Places}
use Rattle.chart.specs.declared.table.Table.{Table}
use Rattle.chart.specs.Charts.{held}
use Rattle.chart.specs.View.{room, view, IsFinished, NamesFinished}

-- what holds of the plain chart of a table
pub record Kept (c : Chart) : Type 0 where
  pub fits : Fits room c
  pub counted : done c.places ≡ c.finished
  pub orderly : orderly c ≡ true

-- there are no more places than are taken
pub view_within : (p : Places) → length (view p).places ≤ p.taken
view_within p = let long : length (take p.taken p.slots) ≡ min p.taken (length p.slots) = length-take p.taken p.slots in omega arith

pub fits : (t : Table) → Fits room (held t)
fits t =
    let long = view_within t.places in
    let most = t.room in
    record { within = omega arith; taken = t.taken }

pub kept : (t : Table) → Kept (held t)
kept t = record { fits = fits t; counted = t.counted; orderly = t.orderly }

-- no more edges are finished than there is room for
pub finished_within : (t : Table) → (held t).finished ≤ room
finished_within t =
    let most = done_within (held t).places in
    let within = (fits t).within in
    let counted = t.counted in
    omega arith

pub kept_arrive : (lighter : ℕ → ℕ → Bool) (c : Chart) (a : Arrival) → Kept c → NamesFinished c a → Kept (arrive room lighter c a)
kept_arrive lighter c a kept names =
    record {
      fits = arrive_all_fits room lighter (a ∷ []) c kept.fits;
      counted = arrive_all_done room lighter (a ∷ []) c ∙ kept.counted ∙ sym (count_arrive lighter a room c);
      orderly = orderly_arrive lighter a room c kept.orderly names;
    }

-- what holds of an edge that a search has found
pub record Found (c : Chart) (s : Entry) : Type 0 where
  -- it stands at a place, and there is a number left for it
  pub within : s.at < length c.places
  pub left : c.finished < room
  -- once it is finished, the table keeps all, and origins may name its place
  pub kept : Kept (finishing c s.at)
  pub is_finished : IsFinished (finishing c s.at) s.at

pub found : (lighter : ℕ → ℕ → Bool) (c : Chart) → Kept c → (s : Entry) → lightest_open lighter c.places ≡ Some s → Found c s
found lighter c was s h =
    let it = lightest_stands lighter c.places s h in
    let number = suc c.finished in
    let more : done (finish (suc c.finished) s.at c.places) ≡ suc (done c.places) = finish_done number s.at c.places it.place it.there it.still_open in
    let most = done_within (finish number s.at c.places) in
    let long = finish_length number s.at c.places in
    let fits = was.fits in
    let counted = was.counted in
    record {
      within = nth_below c.places s.at it.place it.there;
      left = omega arith;
      kept =
          record {
            fits = record { within = omega arith; taken = λ full. let all = fits.taken full in omega arith };
            counted = more ∙ ap suc counted;
            orderly = orderly_finish c s.at it.place it.there it.still_open was.orderly;
          };
      is_finished = before_now c s.at it.place it.there it.still_open;
    }

-- a place that origins may name is taken
pub is_finished_within : (c : Chart) (n : ℕ) → IsFinished c n → n < length c.places
is_finished_within c n h = rank_within c.places n (before_parts c.places (suc c.finished) n h).0
