use Rattle.std.proofs.Common.{refl}
use Rattle.line_format.proofs.TextLines.{line_or_all}
use Rattle.line_format.proofs.text.first_line.Goals as goal

pub returns-clause-lines : goal.returns-clause-lines
returns-clause-lines c = rw c.unwrap_or.ensures (line_or_all c.args.text _ c.split_once.result c.requires refl c.split_once.ensures)
