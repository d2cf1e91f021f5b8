-- The plain chart of an array of places, and what its methods make of it. Assumes nothing.
use Rattle.std.specs.Prelude.{◌≡◌, ℕ, suc, true, List, [], ◌∷◌, ◌++◌, take, Some, None, Option}
use Rattle.std.specs.List.{slice_get}
use Rattle.weighing.specs.Laws.{Weights}
use Rattle.chart_model.specs.declared.place.Arrival.{Arrival}
use Rattle.chart_model.specs.declared.place.Place.{Place}
use Rattle.chart_model.specs.declared.place.Entry.{Entry}
use Rattle.chart_model.specs.Plain.{Chart, fresh, lightened, modified, lightest_open, arrive, place_of, finished_entry, finishing}
use Rattle.chart_model.specs.Origins.{finished_before, names_finished_before}
use Rattle.chart_model.specs.declared.edge.Edge.{Edge}
use Rattle.chart.specs.declared.places.Places.{Places}

-- the capacity of a chart
abbrev pub room : ℕ
room = 1024

-- an array of places as a plain chart
abbrev pub view : Places → Chart
view p = record { places = take p.taken p.slots; full = p.full; finished = p.finished }

-- after a new edge
abbrev pub put : Chart → Arrival → Chart
put c a = record { places = c.places ++ (fresh a ∷ []); full = c.full; finished = c.finished }

-- after a decreased key at place n
abbrev pub improve : Chart → ℕ → Arrival → Chart
improve c n a = record { places = modified (lightened a) n c.places; full = c.full; finished = c.finished }

-- the head of the agenda
abbrev pub lightest_in : Weights → Chart → Option Entry
lightest_in ws c = lightest_open ws.lighter c.places

-- after one arrival
abbrev pub arrived : Weights → Chart → Arrival → Chart
arrived ws c a = arrive room ws.lighter c a

-- the entry of place n, if it is finished
abbrev pub finished_entry_at : List Place → ℕ → Option Entry
finished_entry_at ps n = elim (slice_get ps n) [ None ↦ None | Some p ↦ finished_entry n p ]

-- the entry of an edge, if it is finished
abbrev pub finished_entry_of : Edge → List Place → Option Entry
finished_entry_of e ps = elim (place_of e ps) [ None ↦ None | Some n ↦ finished_entry_at ps n ]

-- after the found edge is finished
abbrev pub finishing_next : Chart → Option Entry → Chart
finishing_next c None = c
finishing_next c (Some s) = finishing c s.at

-- place n is finished, so an origin may name it
abbrev pub IsFinished : Chart → ℕ → Type 0
IsFinished c n = finished_before c.places (suc c.finished) n ≡ true

-- the premises of an arrival are finished
abbrev pub NamesFinished : Chart → Arrival → Type 0
NamesFinished c a = names_finished_before c.places (suc c.finished) a.origin ≡ true
