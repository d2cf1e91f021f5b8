use Rattle.std.proofs.Common.{◌≡◌, true, take, drop}
use Rattle.std.specs.List.{list_all}
use Rattle.records.specs.Lists.{first_refusal}
use Rattle.records.proofs.check_records.Given as goal

abbrev pub invariant-loop-at : goal.invariant-loop-at
invariant-loop-at g l =
    let r = g.C.Checkable in record {
      refused : first_refusal r.refusal l.at-counter (drop l.at-counter l.records) ≡ first_refusal r.refusal 0 l.records;
      within : list_all r.within (take l.at-counter l.records) ≡ true;
    }
