use Rattle.std.proofs.Common.{◌+◌, length, refl, rules}
use Rattle.mail_audit.proofs.StepLemmas.{match_compared, taken}
use Rattle.mail_audit.proofs.open_dump.Comparison.take.Goals as goal

pub returns-then-is_next_line : goal.returns-then-is_next_line
returns-then-is_next_line c =
    let is_next = c.is_next_line.ensures (search rules) in
    let old = c.args.self.now in
    let pos = old.pos + (length c.args.line.now + 1) in
    let next = taken old.lines.items c.args.line.now is_next.0 old.pos pos c.requires is_next.1 refl in
    match_compared old (record { lines = old.lines; pos = pos }) c.args.line.now c.args.number c.match_step.result (refl, next.0, next.1) c.match_step.ensures
