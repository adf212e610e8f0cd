use Rattle.std.proofs.Common.{drop}
use Rattle.crdt_ops.specs.Form.{Each, IsInForm}
use Rattle.crdt_ops.specs.declared.op.Op.{Op}
use Rattle.mail_replay.proofs.dump_forms.each_op_is_writable.Given as goal
use Rattle.uid_projection.specs.Bounds.{IsCountable}

abbrev pub invariant-loop-op : goal.invariant-loop-op
invariant-loop-op l = Each (λ (op : Op). IsInForm op × IsCountable op.kind) (drop l.op-index l.ops) → Each (λ (op : Op). IsInForm op × IsCountable op.kind) l.ops
