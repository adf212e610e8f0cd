use Rattle.std.proofs.Common.{◌∙◌, None, Option, cond, take, ap, sym}
use Rattle.tags_clocks.specs.declared.id.OpId.{OpId}
use Rattle.crdt_ops.specs.declared.op.Op.{Op}
use Rattle.crdt_ops.specs.Sets.{tag_data_by}
use Rattle.crdt_ops.specs.Tags.{MessageTag, adds, removes}
use Rattle.folder_state.specs.Contents.{origin_in}
use Rattle.folder_state.specs.AfterOps.{contents_after}
use Rattle.folder_state.specs.OpRoom.{origin_of_op}
use Rattle.folder_state.proofs.LaterLemmas.{contents_after_take_next, origin_more}
use Rattle.folder_state.proofs.after_ops.origin_after.Goals as goal

pub loop-op-preserved : goal.loop-op-preserved
loop-op-preserved c = λ v e.
    let f = c.args.folder.now in
    let i = c.args.id.now in
    let op = c.op-item.result in
    let ops = c.args.ops.now in
    let at = c.loop-op.op-index in
    let before = contents_after v (take at ops) in
    let now = c.loop-op.origin in
    c.origin_after_op-origin.ensures
    ∙ ap (λ (o : Op). cond (adds (MessageTag f i) o) (origin_of_op o.id o.kind) (cond (removes (MessageTag f i) o) None now)) c.op.ensures.op
    ∙ ap (λ (x : Option OpId). cond (adds (MessageTag f i) op) (origin_of_op op.id op.kind) (cond (removes (MessageTag f i) op) None x)) (c.loop-op.invariant v e)
    ∙ sym (origin_more (adds (MessageTag f i) op) (removes (MessageTag f i) op) (tag_data_by op.id op.kind) (before.tag_data f i))
    ∙ sym (ap (λ w. origin_in w f i) (contents_after_take_next v ops at op c.loop-op-test.true c.op-item.is))
