use Rattle.std.proofs.Common.{◌-◌, ◌<◌, length, arith}
use Rattle.mail_audit.proofs.AppliedLemmas.{above_last}
use Rattle.mail_audit.proofs.op_lines.is_above.Goals as goal

pub returns-in-Some : goal.returns-in-Some
returns-in-Some c =
    let item = c.in-Some.ensures.item in
    let filled : 0 < length c.args.ops.now = item.3.0 in
    let b = above_last c.args.ops.now c.args.id.now c.in-Some.op.now (length c.args.ops.now - 1) (omega arith) item.1 in
    (λ t. b.0 (c.is_below.ensures.0 t), λ s. c.is_below.ensures.1 (b.1 s))
