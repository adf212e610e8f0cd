use Rattle.std.proofs.Common.{◌≡◌, false, List, IfOk, sym, subst}
use Rattle.crdt_ops.specs.declared.op.Op.{Op}
use Rattle.mail_audit.specs.DumpLines.{IsExpected}
use Rattle.mail_audit.specs.Dumps.{AreOrdered}
use Rattle.mail_audit.proofs.StepLemmas.{lines_after_good_ops, not_bad}
use Rattle.mail_audit.proofs.open_dump.lines_after_ops.Goals as goal

pub expected_after-requires : goal.expected_after-requires
expected_after-requires c = subst AreOrdered (sym c.deref.ensures.value) c.requires

pub returns-in-None : goal.returns-in-None
returns-in-None c = λ inside s.
    let good : c.args.lines.now.is_bad ≡ false = not_bad c.args.lines.now.is_bad c.in_ok-place.field-0 c.in-None.is c.in_ok-place.ensures.bad in
    lines_after_good_ops inside c.args.lines.now c.expected_after.result s good (subst (λ (os : List Op). IfOk c.expected_after.result (IsExpected os)) c.deref.ensures.value c.expected_after.ensures)
