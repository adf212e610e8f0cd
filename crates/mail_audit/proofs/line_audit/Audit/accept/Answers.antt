use Rattle.std.proofs.Common.{[], ◌∷◌, ◌++◌, Option, sym, subst, ◌∙◌}
use Rattle.mail_audit.specs.Audits.{spoken_line}
use Rattle.mail_audit.specs.AuditProgress.{HasTakenDump}
use Rattle.mail_audit.specs.declared.open_dump.OpenDump.{OpenDump}
use Rattle.mail_audit.proofs.HasTakenLemmas.{is_sent_effect, is_no_sent_effect, length_append_one}
use Rattle.mail_audit.proofs.line_audit.Audit.accept.Goals as goal

pub returns-then-branch : goal.returns-then-branch
returns-then-branch c = λ lines parts audited count none named octets.
    let audit = c.args.self.now in
    let sent = c.args.spoken in
    let whole = c.deref.ensures.value ∙ c.in_ok-octets.ensures {u = tt} in
    let h = c.in_ok-accept.ensures {u = tt} in (
      length_append_one lines (spoken_line sent.session sent.speaker sent.text) audit.taken count,
      subst (λ (d : Option OpenDump). HasTakenDump (lines ++ spoken_line sent.session sent.speaker sent.text ∷ []) c.accept.new.self d) (sym none)
          (is_sent_effect lines parts audit.sessions c.accept.new.self audited sent.session sent.speaker sent.text c.deref.result.now named octets whole c.in_ok-accept.field-0 h.sent c.if-branch.true h.others),
    )

pub returns : goal.returns
returns c = λ lines parts audited count none named octets.
    let audit = c.args.self.now in
    let sent = c.args.spoken in
    let whole = c.deref.ensures.value ∙ c.in_ok-octets.ensures {u = tt} in
    let h = c.in_ok-accept.ensures {u = tt} in
    is_no_sent_effect lines parts audit.sessions c.accept.new.self audited sent.session sent.speaker sent.text c.deref.result.now named octets whole c.in_ok-accept.field-0 h.sent c.one_reading.ensures c.one_reading-2.ensures audit.taken count c.if-branch.false
