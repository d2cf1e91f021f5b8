use Rattle.std.proofs.Common.{◌∙◌}
use Rattle.line_format.proofs.Numbers.{ok_some, ok_none, no_text, parsed}
use Rattle.line_format.proofs.number.digits.Goals as goal

pub returns-in_err-ok : goal.returns-in_err-ok
returns-in_err-ok c =
    let refused = rw (ok_none c.from_utf8.result c.in_err-ok.ensures.value).1 at c.from_utf8.ensures.cases in
    c.from_residual.ensures ∙ no_text c.args.text.now refused.0

pub returns : goal.returns
returns c =
    let same = rw (ok_some c.from_utf8.result _ c.in_ok-ok.ensures.value) at c.from_utf8.ensures.cases in
    c.ok-2.ensures.value ∙ parsed c.args.text.now c.parse.result c.requires (rw same.0 at c.parse.ensures.value.0)
