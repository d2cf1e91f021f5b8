use Rattle.std.proofs.Common.{length}
use Rattle.line_format.proofs.Gathering.{Gathered}
use Rattle.line_format.proofs.text.read_words.Given as goal

abbrev pub invariant-loop-rest : goal.invariant-loop-rest
invariant-loop-rest l = Gathered l.text l.rest l.words.items

abbrev pub decreases-loop-rest : goal.decreases-loop-rest
decreases-loop-rest l = length l.rest
