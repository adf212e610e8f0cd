use Rattle.std.proofs.Common.{[], ◌∷◌, ◌++◌, Option, sym, subst}
use Rattle.mail_audit.specs.AuditProgress.{HasTakenDump}
use Rattle.mail_audit.specs.declared.open_dump.OpenDump.{OpenDump}
use Rattle.mail_audit.proofs.HasTakenLemmas.{has_ended, is_wrong, line_number, length_append_one, unread_inside}
use Rattle.mail_audit.proofs.line_audit.Audit.take_in_dump.Goals as goal

pub returns-in-Ends : goal.returns-in-Ends
returns-in-Ends c = λ lines b count none.
    let audit = c.args.self.now in
    let s = (c.in_ok-step.ensures {u = tt}).step b.inside b.phase (line_number lines audit.sessions c.args.dump b c.args.line.now audit.taken count) in
    let t = rw c.in-Ends.is at s in
    (length_append_one lines c.args.line.now audit.taken count, subst (λ (d : Option OpenDump). HasTakenDump (lines ++ c.args.line.now ∷ []) audit.sessions d) (sym none) (has_ended lines audit.sessions c.args.dump b c.args.line.now audit.taken count t.0 t.1 t.2))

pub returns-in-Wrong : goal.returns-in-Wrong
returns-in-Wrong c = λ lines b count none.
    let audit = c.args.self.now in
    let s = (c.in_ok-step.ensures {u = tt}).step b.inside b.phase (line_number lines audit.sessions c.args.dump b c.args.line.now audit.taken count) in
    let t = rw c.in-Wrong.is at s in
    is_wrong lines audit.sessions c.args.dump b c.args.line.now audit.taken count c.in-Wrong.number t.0 t.1

pub returns-in-Unreadable : goal.returns-in-Unreadable
returns-in-Unreadable c = λ lines b count none. unread_inside lines c.args.self.now.sessions c.args.dump b c.args.line.now c.args.self.now.taken count
