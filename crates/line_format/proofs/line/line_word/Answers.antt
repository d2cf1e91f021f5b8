use Rattle.std.proofs.Common.{sym, ap, ◌∙◌}
use Rattle.line_format.specs.Lines.{fields_word}
use Rattle.line_format.proofs.Fields.{first_field, only_field, four_fields}
use Rattle.line_format.proofs.line.line_word.Goals as goal

pub returns-in_err-from : goal.returns-in_err-from
returns-in_err-from c = c.from_residual.ensures ∙ ap fields_word (sym (only_field _ c.in_err-from.ensures))

pub returns-in_err-to : goal.returns-in_err-to
returns-in_err-to c =
    let found = first_field c.in_ok-from.ensures (only_field _ c.in_err-to.ensures) in
    c.from_residual-in_err-to.ensures ∙ ap fields_word (sym found)

pub returns-in_err-symbol : goal.returns-in_err-symbol
returns-in_err-symbol c =
    let found = first_field c.in_ok-from.ensures (first_field c.in_ok-to.ensures (only_field _ c.in_err-symbol.ensures)) in
    c.from_residual-in_err-symbol.ensures ∙ ap fields_word (sym found)

pub returns : goal.returns
returns c = c.word_of.ensures ∙ four_fields c.in_ok-from.ensures c.in_ok-to.ensures c.in_ok-symbol.ensures
