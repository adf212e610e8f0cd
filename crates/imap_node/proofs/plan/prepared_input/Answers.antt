use Rattle.std.proofs.Common.{List, ◌++◌, sym, subst, ◌∙◌}
use Rattle.crdt_ops.specs.declared.op.Op.{Op}
use Rattle.imap_node.specs.SessionFeeds.{AreChangeNotes}
use Rattle.imap_node.specs.SessionChanges.{CanChangeSession}
use Rattle.imap_node.specs.Plans.{IsPreparedReply}
use Rattle.imap_node.proofs.plan.prepared_input.Goals as goal

pub prepared_reply-requires-clause-changes : goal.prepared_reply-requires-clause-changes
prepared_reply-requires-clause-changes c =
    let start = c.args.replica.now.start in
    let before = c.args.replica.now.applied in
    subst (λ (ops : List Op). AreChangeNotes start before (before ++ ops) c.in_ok-change_notes.change_notes) (c.as_slice-2.ensures ∙ sym c.as_slice-3.ensures)
    (c.in_ok-change_notes.ensures {u = tt})

pub returns-clause-changes : goal.returns-clause-changes
returns-clause-changes c =
    let start = c.args.replica.now.start in
    let before = c.args.replica.now.applied in
    subst (λ (ops : List Op). AreChangeNotes start before (before ++ ops) c.in_ok-change_notes.change_notes) (c.as_slice-2.ensures ∙ c.new-ops.ensures)
    (c.in_ok-change_notes.ensures {u = tt})

pub prepared_reply-requires-clause-noted : goal.prepared_reply-requires-clause-noted
prepared_reply-requires-clause-noted c = c.requires.noted

pub returns-clause-answered : goal.returns-clause-answered
returns-clause-answered c =
    let start = c.args.replica.now.start in
    let before = c.args.replica.now.applied in
    subst (λ (ops : List Op). IsPreparedReply start before (before ++ ops) c.args.session.now c.args.input.now c.in_ok-answered.answered) (c.as_slice-3.ensures ∙ c.new-ops.ensures)
    (c.in_ok-answered.ensures {u = tt}).answered

pub returns-clause-can : goal.returns-clause-can
returns-clause-can c =
    let start = c.args.replica.now.start in
    let before = c.args.replica.now.applied in
    subst (λ (ops : List Op). CanChangeSession start (before ++ ops) c.args.session.now.state c.in_ok-answered.answered.update.state_change) (c.as_slice-3.ensures ∙ c.new-ops.ensures)
    (c.in_ok-answered.ensures {u = tt}).can
