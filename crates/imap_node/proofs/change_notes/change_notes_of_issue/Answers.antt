use Rattle.std.proofs.Common.{◌≡◌, true, subst}
use Rattle.crdt_ops.specs.declared.op.Op.{Op}
use Rattle.crdt_ops.specs.Tags.{name_of}
use Rattle.imap_node.specs.SessionFeeds.{is_named}
use Rattle.imap_node.proofs.ChangeNotesLemmas.{all_change_notes, each_named_through, rest_named}
use Rattle.imap_node.proofs.change_notes.change_notes_of_issue.Goals as goal

pub loop-op-preserved : goal.loop-op-preserved
loop-op-preserved c =
    let far = c.in_ok-push_notes_of_op.ensures {u = tt} in
    let own = subst (λ (o : Op). is_named c.push_notes_of_op.new.folders.items (name_of o.kind) ≡ true) c.op.ensures.op far.own in
    record {
      named = far.named c.loop-op.invariant.named;
      rest = rest_named c.loop-op.folders.items c.push_notes_of_op.new.folders.items c.args.ops.now c.loop-op.op-index c.op-item.result c.loop-op-test.true c.op-item.is far.still_named own c.loop-op.invariant.rest;
    }

pub returns : goal.returns
returns c =
    all_change_notes c.args.replica.now.start c.args.replica.now.applied c.args.ops.now c.loop-op.folders.items c.requires.follow.causal c.loop-op.invariant.named
    (each_named_through c.loop-op.folders.items c.args.ops.now c.loop-op.op-index c.loop-op-test.false c.loop-op.invariant.rest)
