use Rattle.std.proofs.Common.{Option, subst}
use Rattle.mail_audit.specs.AuditProgress.{HasTakenDump}
use Rattle.mail_audit.specs.declared.open_dump.OpenDump.{OpenDump}
use Rattle.mail_audit.proofs.KnownSessionLemmas.{audited_right}
use Rattle.mail_audit.proofs.line_audit.Audit.end.Goals as goal

pub returns-in-None : goal.returns-in-None
returns-in-None c = λ lines s.
    let sessions = c.args.self.sessions in
    let d = subst (λ (o : Option OpenDump). HasTakenDump lines sessions o) c.in-None.is s.1 in
    (d.0, audited_right lines d.0 sessions d.1)
