use Rattle.std.proofs.Common.{drop}
use Rattle.crdt_ops.specs.Form.{Each, IsInForm}
use Rattle.mail_replay.proofs.dump_forms.each_op_has_text.Given as goal

abbrev pub invariant-loop-op : goal.invariant-loop-op
invariant-loop-op l = Each IsInForm (drop l.op-index l.ops) → Each IsInForm l.ops
