use Rattle.std.proofs.Common.{◌+◌, ◌<◌, length, subst, arith}
use Rattle.mail_audit.proofs.DumpLemmas.{open_wrong_at_end}
use Rattle.mail_audit.proofs.HasTakenLemmas.{cut_short}
use Rattle.mail_audit.proofs.StepLemmas.{within_lines}
use Rattle.mail_audit.specs.DumpLines.{IsPhase}
use Rattle.mail_audit.proofs.open_dump.OpenDump.end.Goals as goal

pub returns-in-Some : goal.returns-in-Some
returns-in-Some c = λ lines sessions is_open last.
    let wrong = c.in_ok-place-in-Ops.ensures in
    let has_taken = subst (IsPhase is_open.inside) c.in-Ops.is is_open.phase in
    let within : c.in-Some.place < length is_open.inside = within_lines is_open.inside c.in-Ops.lines c.in_ok-place-in-Ops.field-0 c.in-Some.place has_taken c.in-Some.is wrong.within wrong.at_end in
    open_wrong_at_end lines sessions c.args.self (c.args.self.first + 1 + c.in-Some.place) is_open (omega arith) (omega arith)

pub returns-in-State : goal.returns-in-State
returns-in-State c = λ lines sessions is_open last. cut_short lines sessions c.args.self c.args.last is_open last

pub returns : goal.returns
returns c = λ lines sessions is_open last. cut_short lines sessions c.args.self c.args.last is_open last
