use Rattle.std.proofs.Common.{◌≡◌, ◌∙◌, Ok, Err, subst}
use Rattle.std.proofs.lemmas.Result.{err_from_is_err_and}
use Rattle.chart.specs.Refusals.{reading_number}
use Rattle.stock_reader.specs.Line.{weight_and_nodes, LineSays}
use Rattle.stock_reader.proofs.read_line.Goals as goal

-- the words of the lattice are those that the text writes
pub returns-in_err-read_lattice-clause-says : goal.returns-in_err-read_lattice-clause-says
returns-in_err-read_lattice-clause-says c ws e good =
    let writes = c.in_ok-words.ensures.answers in
    let read : c.in_ok-words.words.items ≡ ws = cc in
    let said = err_from_is_err_and c.from_residual-in_err-read_lattice.result c.from_residual-in_err-read_lattice.ensures.1 in
    rw (said.1, said.2) (subst (λ vs. LineSays vs (Err (reading_number c.in_err-read_lattice.field-0.0))) (c.new-lattice.ensures.words ∙ c.in_ok-new.ensures.records ∙ c.deref.ensures.0 ∙ read) c.in_err-read_lattice.ensures.says)

pub returns-clause-says : goal.returns-clause-says
returns-clause-says c ws e good =
    let writes = c.in_ok-words.ensures.answers in
    let read : c.in_ok-words.words.items ≡ ws = cc in
    subst (λ vs. LineSays vs (Ok (weight_and_nodes c.in_ok-read_lattice.field-0))) (c.new-lattice.ensures.words ∙ c.in_ok-new.ensures.records ∙ c.deref.ensures.0 ∙ read) c.in_ok-read_lattice.ensures.says
