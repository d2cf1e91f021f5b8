use Rattle.line_format.specs.Writing.{enough}
use Rattle.line_format.proofs.Inputs.{front_read}
use Rattle.line_format.proofs.input.read_text.Goals as goal

pub returns : goal.returns
returns g c =
    front_read (g.R.Read.remaining c.args.input) enough c.new-text.result.items c.copy.new.writer.items c.new-text.ensures (rw (c.take.ensures.limit, c.take.ensures.inner) at c.in_ok-copy.ensures.bytes)
