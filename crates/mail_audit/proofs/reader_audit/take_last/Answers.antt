use Rattle.std.proofs.Common.{rules, ◌≡◌, ◌≢◌, ◌++◌, ◌∷◌, [], ℕ, List, length, subst, ◌∙◌}
use Rattle.mail_audit.specs.Audits.{IsVerdict}
use Rattle.mail_audit.proofs.AuditingLemmas.{last_none, last_one}
use Rattle.mail_audit.proofs.reader_audit.take_last.Goals as goal

pub returns-then-is_empty : goal.returns-then-is_empty
returns-then-is_empty c = λ front s.
    let none : length c.args.progress.lines ≡ 0 = search rules in
    last_none front c.args.progress.lines c.end_of.result none (c.end_of.ensures front s)

pub returns-in-Some : goal.returns-in-Some
returns-in-Some c = λ front s.
    let line = c.as_bytes-2.ensures ∙ c.into_rest-line.ensures in
    let some : length c.args.progress.lines ≢ 0 = search rules in
    last_one front c.args.progress.lines c.in-Some.end c.requires.rest some
    (subst (λ (z : List ℕ). IsVerdict (front ++ z ∷ []) c.in-Some.end) line (c.in-Some.ensures {u = tt} front s []))

pub returns-in-None : goal.returns-in-None
returns-in-None c = λ front s.
    let line = c.as_bytes-2.ensures ∙ c.into_rest-line.ensures in
    let some : length c.args.progress.lines ≢ 0 = search rules in
    last_one front c.args.progress.lines c.end_of-in-None.result c.requires.rest some
    (subst (λ (z : List ℕ). IsVerdict (front ++ z ∷ []) c.end_of-in-None.result) line
    (c.end_of-in-None.ensures (front ++ c.as_bytes-2.result.now ∷ []) (c.in-None.ensures {u = tt} front s)))
