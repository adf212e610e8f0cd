use Rattle.std.proofs.Common.{[], ℕ, Option, Some, None, length, sym, ap, ◌∙◌, append-nil}
use Rattle.imap_answers.specs.declared.answer.Answer.{Answer}
use Rattle.mail_audit.proofs.transcript.whole_answer.Goals as goal

abbrev pub length_of : Option (Answer × ℕ) → ℕ
length_of None = 0
length_of (Some read) = read.1

pub returns-in-None-clause-only : goal.returns-in-None-clause-only
returns-in-None-clause-only c = λ answer p e.
    let o = (c.in_ok-read.ensures {u = tt}).only answer [] p (e ∙ sym (append-nil _)) in
    let n = c.in-None.is in
    absurd cc

pub returns-else-length-octets-clause-only : goal.returns-else-length-octets-clause-only
returns-else-length-octets-clause-only c = λ answer p e.
    let o = (c.in_ok-read.ensures {u = tt}).only answer [] p (e ∙ sym (append-nil _)) in
    let l = ap length_of (sym c.in-Some.is ∙ o) in
    absurd (c.if-length-octets.false (l ∙ ap length (sym e)))
