use Rattle.std.proofs.Common.{◌≡◌, ◌-◌, drop, length, length-drop, take, ap, ◌∙◌, arith, rules}
use Rattle.std.proofs.lemmas.List.{take_all}
use Rattle.mail_audit.proofs.StepLemmas.{next_is}
use Rattle.mail_audit.proofs.open_dump.Comparison.is_next_line.Goals as goal

pub returns-in-Some : goal.returns-in-Some
returns-in-Some c = λ t.
    let same : c.in-Some.next.now ≡ c.args.line.now = search rules in
    let pos = c.args.self.now.pos in
    let all = c.deref.result.now in
    let size : length (drop pos all) ≡ length all - pos = length-drop pos all in
    next_is (take (length all - pos) (drop pos all)) c.args.self.now.lines.items c.args.line.now pos (c.in-Some.next.now, c.in-Some.field-0-1.now)
    (take_all (length all - pos) (drop pos all) (omega arith) ∙ ap (drop pos) c.deref.ensures.value) c.in-Some.ensures same
