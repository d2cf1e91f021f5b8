use Rattle.std.proofs.Common.{◌≡◌, length, rules, refl}
use Rattle.std.proofs.lemmas.Result.{err_from_is_err_and}
use Rattle.chart.specs.Refusals.{reading_number}
use Rattle.lattices.specs.Meaning.{heard_words}
use Rattle.stock_reader.specs.Line.{most_nodes}
use Rattle.stock_reader.proofs.Line.{line_refused, line_read}
use Rattle.stock_reader.proofs.read_lattice.Goals as goal

pub returns-in_err-listed : goal.returns-in_err-listed
returns-in_err-listed c =
    let e = err_from_is_err_and c.from_residual.result c.from_residual.ensures.1 in
    let before = c.deref_mut.result.now in
    let room : length before ≡ most_nodes = search rules in
    let read = rw c.new-setting.ensures.lattice at c.in_err-listed.ensures in
    let r = line_refused (heard_words c.args.lattice) before c.read.new.nodes room c.last_node.result c.last_node.ensures (reading_number c.in_err-listed.field-0.0) read.answer read.says in
    rw (e.1, e.2) (record { answer = r.answer; says = r.says })

pub returns : goal.returns
returns c =
    let before = c.deref_mut.result.now in
    let room : length before ≡ most_nodes = search rules in
    let read = rw c.new-setting.ensures.lattice at c.in_ok-listed.ensures in
    let r = line_read (heard_words c.args.lattice) before c.read.new.nodes room c.last_node.result c.last_node.ensures c.in_ok-listed.listed read.answer read.list read.says
    c.from-nodes.result.items (search rules) _ _ refl c.truncate.ensures.items in
    record { answer = r.answer; says = r.says }
