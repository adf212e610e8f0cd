use Rattle.std.proofs.Common.{arith, ◌≡◌, ◌++◌, ◌∷◌, [], ℕ, List, Some, subst}
use Rattle.mail_script.specs.Reading.{cut_at}
use Rattle.mail_audit.specs.AuditProgress.{HasAdvanced, EndsAt, HasTaken}
use Rattle.mail_audit.proofs.AuditingLemmas.{advance_at_first, advance_on, cut_parts, ends_within}
use Rattle.mail_audit.proofs.reader_audit.take_piece.Goals as goal

pub lines-init : goal.lines-init
lines-init c = λ front s.
    subst (λ (zs : List ℕ). HasAdvanced front c.args.progress.now.audit zs c.args.progress.now.audit c.push.new.self) (c.in-Ok.ensures {u = tt}).ok
    (advance_at_first front c.args.progress.now.audit c.push.new.self s)

pub returns-in-Some : goal.returns-in-Some
returns-in-Some c = λ front s.
    let cut : cut_at 10 c.lines.progress.lines ≡ Some (c.in-Ok-Some.line, c.next_line.new.self) = rw c.in-Ok-Some.field-0-is at c.in-Ok-Some.ensures.ok in
    let a = c.lines.invariant front s in
    ends_within front c.args.progress.now.audit (c.args.progress.now.lines ++ c.args.piece.now) c.lines.progress.audit c.lines.progress.lines a c.in-Ok-Some.line c.next_line.new.self cut c.in-Some.end
    (subst (λ (z : List ℕ). EndsAt (front ++ a.done) z c.in-Some.end) c.as_bytes.ensures (c.in-Some.ensures {u = tt} (front ++ a.done) a.has_taken))

pub lines-smaller : goal.lines-smaller
lines-smaller c =
    let cut : cut_at 10 c.lines.progress.lines ≡ Some (c.in-Ok-Some.line, c.next_line.new.self) = rw c.in-Ok-Some.field-0-is at c.in-Ok-Some.ensures.ok in
    let n = cut_parts c.lines.progress.lines c.in-Ok-Some.line c.next_line.new.self cut in
    omega (arith, n)

pub lines-preserved : goal.lines-preserved
lines-preserved c = λ front s.
    let cut : cut_at 10 c.lines.progress.lines ≡ Some (c.in-Ok-Some.line, c.next_line.new.self) = rw c.in-Ok-Some.field-0-is at c.in-Ok-Some.ensures.ok in
    let a = c.lines.invariant front s in
    advance_on front c.args.progress.now.audit (c.args.progress.now.lines ++ c.args.piece.now) c.lines.progress.audit c.lines.progress.lines a c.in-Ok-Some.line c.next_line.new.self cut c.take_line.new.audit
    (subst (λ (z : List ℕ). HasTaken ((front ++ a.done) ++ z ∷ []) c.take_line.new.audit) c.as_bytes.ensures (c.in_default-take_line.ensures {u = tt} (front ++ a.done) a.has_taken))
