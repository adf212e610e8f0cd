use Rattle.std.proofs.Common.{◌≡◌, ◌++◌, true, None, Some, length, IfOk, ap, sym, subst, ◌∙◌}
use Rattle.imap_answers.specs.Printable.{IsPrintable}
use Rattle.imap_answers.specs.AnswerText.{text_of_answer}
use Rattle.imap_print.specs.ReadingAnswers.{line_at}
use Rattle.imap_answers.specs.declared.answer.Answer.{Answer}
use Rattle.imap_print.proofs.AnswerRoundTrips.{line-round_trip}
use Rattle.imap_print.proofs.ReadingLemmas.{none_some, some_pair}
use Rattle.imap_print.proofs.answer_reader.read.Goals as goal

pub returns-in-Err-NotPrinted-clause-only : goal.returns-in-Err-NotPrinted-clause-only
returns-in-Err-NotPrinted-clause-only c answer rest h e =
    let none : line_at c.args.text.now ≡ None = rw c.in-Err-NotPrinted.field-0-is at c.in-Err-NotPrinted.ensures in
    absurd (none_some (answer, rest) (sym none ∙ ap line_at e ∙ line-round_trip answer rest h))

pub returns-then-not-is_printable-clause-only : goal.returns-then-not-is_printable-clause-only
returns-then-not-is_printable-clause-only c answer rest h e =
    let same = some_pair _ answer _ rest (sym c.in-Ok.ensures ∙ ap line_at e ∙ line-round_trip answer rest h) in
    let yes : c.is_printable.result ≡ true = c.is_printable.ensures.1 (subst IsPrintable (sym same.0) h) in
    let no = c.if-not-is_printable.true in
    absurd cc

pub returns-else-not-is_printable-clause-only : goal.returns-else-not-is_printable-clause-only
returns-else-not-is_printable-clause-only c answer rest h e =
    let same = some_pair _ answer _ rest (sym c.in-Ok.ensures ∙ ap line_at e ∙ line-round_trip answer rest h) in
    subst (λ (x : Answer). IfOk c.printed_prefix.result (λ read. read ≡ Some (x, length (text_of_answer x)))) same.0 (c.printed_prefix.ensures.only rest (e ∙ ap (λ (x : Answer). text_of_answer x ++ rest) (sym same.0)))
