use Rattle.std.proofs.Common.{◌≡◌, List, Option, ap, subst, sym}
use Rattle.std.specs.Option.{option_map}
use Rattle.crdt_ops.specs.declared.op.Op.{Op}
use Rattle.imap_node.specs.Plans.{IsReadyInput}
use Rattle.imap_node.specs.SessionFeeds.{IsNotedFor}
use Rattle.imap_node.specs.declared.plan.PreparedInput.{PreparedInput}
use Rattle.imap_node.proofs.PrepareLemmas.{is_ready_input}
use Rattle.imap_node.proofs.SettledNoopLemmas.{settled_noop_ready}
use Rattle.uid_projection.specs.declared.first_numbers.Counters.{Counters}
use Rattle.imap_node.proofs.plan.prepare.Goals as goal

pub returns-in-Some-clause-ok : goal.returns-in-Some-clause-ok
returns-in-Some-clause-ok c =
    let replica = c.args.replica.now in
    let is_settled_noop = c.tag_of_settled_noop.ensures c.in-Some.tag.now (ap (λ o. option_map (λ t. t.now) o) c.in-Some.is) in
    subst (λ (p : PreparedInput). IsReadyInput replica replica c.args.session.now c.args.input.now p) (sym (c.in_ok-settled_noop_reply.ensures {u = tt}))
    (settled_noop_ready replica c.args.session.now c.args.feed.now.pending c.args.input.now c.in-Some.tag.now c.requires.noted is_settled_noop)

pub prepared_input-requires-clause-noted : goal.prepared_input-requires-clause-noted
prepared_input-requires-clause-noted c = λ view q.
    subst (λ (start : Counters). IsNotedFor start c.ready_next_ops.new.replica.applied c.args.feed.now.pending view) (sym c.ready_next_ops.ensures.start)
    (subst (λ (ops : List Op). IsNotedFor c.args.replica.now.start ops c.args.feed.now.pending view) (sym c.ready_next_ops.ensures.applied) (c.requires.noted view q))

pub returns-clause-ok : goal.returns-clause-ok
returns-clause-ok c =
    let done = c.in_ok-prepared_input.ensures {u = tt} in
    let made = c.in_ok-ops.ensures {u = tt} in
    is_ready_input c.args.replica.now c.ready_next_ops.new.replica c.args.session.now c.args.input.now c.stamp_of-stamp.result c.in_ok-kinds.field-0.kinds.items c.in_ok-ops.ops.items c.in_ok-prepared_input.field-0
    c.ready_next_ops.ensures.start c.ready_next_ops.ensures.applied c.stamp_of-stamp.ensures (c.in_ok-kinds.ensures {u = tt}).gives made.next made.ready done.answered done.can done.changes done.ops done.copies
