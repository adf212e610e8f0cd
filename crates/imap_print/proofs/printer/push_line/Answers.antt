use Rattle.std.proofs.Common.{◌∙◌, ◌++◌, ap, sym}
use Rattle.imap_answers.specs.declared.answer.Answer.TheVariants.{Completed}
use Rattle.imap_answers.specs.AnswerText.{text_of_answer}
use Rattle.imap_print.specs.Lines.{done_line}
use Rattle.imap_print.proofs.LineLemmas.{done_line_is, line_is}
use Rattle.imap_print.proofs.printer.push_line.Goals as goal

pub returns-in_ok-push_numbered_line-in-Some-clause-ok : goal.returns-in_ok-push_numbered_line-in-Some-clause-ok
returns-in_ok-push_numbered_line-in-Some-clause-ok c =
    let line = line_is c.in-Fetch.number c.in-Fetch.items c.in-Some.end.now c.in-Some.ensures ∙ ap text_of_answer (sym c.in-Fetch.is) in
    c.in_ok-push_numbered_line-in-Some.ensures.ok ∙ ap (λ text. c.args.out.now.items ++ text) line

pub returns-in_ok-push_done_line-in-None-code-clause-ok : goal.returns-in_ok-push_done_line-in-None-code-clause-ok
returns-in_ok-push_done_line-in-None-code-clause-ok c =
    let completed = c.in-Completed in
    let line = done_line_is completed.tag completed.command ∙ ap (λ code. text_of_answer (Completed completed.tag code completed.command)) (sym c.in-None-code.is) ∙ ap text_of_answer (sym completed.is) in
    c.in_ok-push_done_line-in-None-code.ensures.ok
    ∙ ap (λ tag. c.args.out.now.items ++ done_line tag c.text.result.now) c.as_bytes.ensures
    ∙ ap (λ word. c.args.out.now.items ++ done_line completed.tag word) c.text.ensures
    ∙ ap (λ text. c.args.out.now.items ++ text) line
