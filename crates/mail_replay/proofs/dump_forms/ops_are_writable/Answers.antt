use Rattle.crdt_ops.specs.Form.{IsInForm}
use Rattle.crdt_ops.specs.declared.op.Op.{Op}
use Rattle.mail_replay.proofs.FitLemmas.{each_in}
use Rattle.mail_replay.proofs.dump_forms.ops_are_writable.Goals as goal
use Rattle.uid_projection.specs.Bounds.{IsCountable}

pub returns : goal.returns
returns c = each_in (λ (op : Op). IsInForm op × IsCountable op.kind) c.args.ops.now c.each_op_is_writable.ensures
