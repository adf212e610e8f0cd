use Rattle.std.proofs.Common.{rules, [], ◌∷◌, ◌++◌, Option, sym, subst}
use Rattle.mail_audit.specs.AuditProgress.{HasTakenDump}
use Rattle.mail_audit.specs.declared.open_dump.OpenDump.{OpenDump}
use Rattle.mail_audit.proofs.HasTakenLemmas.{is_outcome_text, length_append_one, unread}
use Rattle.mail_audit.proofs.SlotLemmas.{refuted}
use Rattle.mail_audit.proofs.line_audit.Audit.take_other.Goals as goal

pub returns-then-branch : goal.returns-then-branch
returns-then-branch c = λ lines parts audited count none unspoken.
    let audit = c.args.self.now in
    let line = c.args.line.now in
    (length_append_one lines line audit.taken count, subst (λ (d : Option OpenDump). HasTakenDump (lines ++ line ∷ []) audit.sessions d) (sym none) (is_outcome_text lines parts audit.sessions audited line ((c.in_ok-is_result.ensures {u = tt}).0 (search rules))))

pub returns-else-branch : goal.returns-else-branch
returns-else-branch c = λ lines parts audited count none unspoken.
    let audit = c.args.self.now in
    unread lines parts audit.sessions audited c.args.line.now audit.taken count unspoken c.in_default.ensures (refuted c.in_ok-is_result.field-0 c.if-branch.false (c.in_ok-is_result.ensures {u = tt}).1)
