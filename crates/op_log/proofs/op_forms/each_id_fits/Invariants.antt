use Rattle.std.proofs.Common.{drop}
use Rattle.crdt_ops.specs.Form.{Each, IsId}
use Rattle.op_log.proofs.op_forms.each_id_fits.Given as goal

abbrev pub invariant-loop-id : goal.invariant-loop-id
invariant-loop-id l = Each IsId (drop l.id-index l.ids) → Each IsId l.ids
