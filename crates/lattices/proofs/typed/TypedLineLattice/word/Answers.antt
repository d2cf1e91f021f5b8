use Rattle.std.proofs.Common.{rules}
use Rattle.std.proofs.lemmas.Option.{slice_get-get_or, slice_get_past}
use Rattle.lattices.proofs.TypedWords.{typed_at}
use Rattle.lattices.proofs.typed.TypedLineLattice.word.Goals as goal

pub returns-in_err-symbol : goal.returns-in_err-symbol
returns-in_err-symbol c = rw typed_at (search (rules, slice_get_past))

pub returns : goal.returns
returns c = rw typed_at (search (rules, slice_get-get_or))
