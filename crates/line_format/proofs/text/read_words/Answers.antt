use Rattle.std.proofs.Common.{Ok, Err, sym, ap, ◌∙◌}
use Rattle.std.proofs.lemmas.Result.{err_from_is_err_and}
use Rattle.line_format.specs.declared.fault.FormFault.TheVariants.{TooManyLines, NotOfTheForm}
use Rattle.line_format.specs.Faults.{form_number}
use Rattle.line_format.specs.Parsing.{Answers, words_read}
use Rattle.line_format.proofs.Answering.{longer_answer, reads_back, reads_only, refused_by}
use Rattle.line_format.proofs.Gathering.{gathered_more, gathered_bad, gathered_full, gathered_all}
use Rattle.line_format.proofs.text.read_words.Goals as goal

pub returns-then-is_full : goal.returns-then-is_full
returns-then-is_full c =
    let text = c.args.text.now in
    let a : Answers text (Err TooManyLines) = gathered_full c.loop-rest.invariant c.if-is_full.ensures.value c.loop-rest-test.ensures in
    record { answers = a; decided = longer_answer text (Err TooManyLines) a; reads_back = reads_back text (Err TooManyLines) a; reads_only = tt }

pub returns-in_err-word : goal.returns-in_err-word
returns-in_err-word c =
    let text = c.args.text.now in
    let r = c.from_residual.result in
    let p = err_from_is_err_and r c.from_residual.ensures.1 in
    let none = c.in_err-word.ensures.ok_part in
    let bad = gathered_bad c.loop-rest.invariant c.if-is_full.ensures.value c.first_line.ensures.lines (sym c.line_word.ensures ∙ none) in
    let fault = refused_by c.line_word.result NotOfTheForm _ c.in_err-word.ensures.value (sym none) in
    let a : Answers text r = ap words_read p.1 ∙ ap (λ f. Err (form_number f)) (p.2 ∙ fault) ∙ bad in
    record { answers = a; decided = longer_answer text r a; reads_back = reads_back text r a; reads_only = reads_only text r a }

pub loop-rest-preserved : goal.loop-rest-preserved
loop-rest-preserved c =
    rw c.push.ensures.items (gathered_more c.loop-rest.invariant c.if-is_full.ensures.value c.first_line.ensures.lines (sym c.line_word.ensures ∙ c.in_ok-word.ensures.ok_part))

pub returns : goal.returns
returns c =
    let text = c.args.text.now in
    let r = Ok c.loop-rest.words in
    let a : Answers text r = gathered_all c.loop-rest.invariant c.loop-rest-test.ensures in
    record { answers = a; decided = longer_answer text r a; reads_back = reads_back text r a; reads_only = reads_only text r a }
