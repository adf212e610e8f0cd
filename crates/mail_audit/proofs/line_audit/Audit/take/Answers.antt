use Rattle.std.proofs.Common.{ℕ, List, [], ◌∷◌, ◌++◌, Option, arith, sym, subst, ◌∙◌}
use Rattle.std.specs.Prelude.{IfOk, MatchOption}
use Rattle.mail_audit.specs.AuditProgress.{HasTakenDump, EndsAt, HasTaken}
use Rattle.mail_audit.specs.declared.open_dump.OpenDump.{OpenDump}
use Rattle.mail_audit.proofs.line_audit.Audit.take.Goals as goal

pub returns-in-Some-2 : goal.returns-in-Some-2
returns-in-Some-2 c = λ lines s.
    let audit = c.args.self.now in
    let t = s.0 in
    let d = subst (λ (o : Option OpenDump). HasTakenDump lines audit.sessions o) (sym c.take.ensures.value ∙ c.in-None.is) s.1 in
    let sent = rw c.in-Some-2.is at (c.in_ok-spoken-in-None.ensures {u = tt}) in
    subst (λ (l : List ℕ). IfOk c.accept.result (λ end. MatchOption end (HasTaken (lines ++ l ∷ []) c.accept.new.self) (EndsAt lines l))) (sym sent.2)
    (c.accept.ensures lines d.0 d.1 (omega (arith, t)) c.take.ensures.after sent.0 sent.1)

pub returns-in-None-2 : goal.returns-in-None-2
returns-in-None-2 c = λ lines s.
    let audit = c.args.self.now in
    let t = s.0 in
    let d = subst (λ (o : Option OpenDump). HasTakenDump lines audit.sessions o) (sym c.take.ensures.value ∙ c.in-None.is) s.1 in
    c.take_other.ensures lines d.0 d.1 (omega (arith, t)) c.take.ensures.after (rw c.in-None-2.is at (c.in_ok-spoken-in-None.ensures {u = tt}))
