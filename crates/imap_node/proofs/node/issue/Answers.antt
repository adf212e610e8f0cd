use Rattle.std.proofs.Common.{List, subst, sym}
use Rattle.causal_inbox.specs.Inbox.{AreRemainingHeld}
use Rattle.crdt_ops.specs.declared.op.Op.{Op}
use Rattle.imap_node.specs.Rooms.{HasRoomFor}
use Rattle.imap_node.proofs.PlanLemmas.{held_after_some, not_empty}
use Rattle.imap_node.proofs.node.issue.Goals as goal
use Rattle.crdt_ops.specs.Ops.{id_of}

pub issue-requires-clause-room : goal.issue-requires-clause-room
issue-requires-clause-room c =
    subst (λ (os : List Op). HasRoomFor c.args.replica.now.applied c.args.replica.now.room os) (sym c.into_vec.ensures)
    (c.requires.room (not_empty c.args.ops c.as_slice.result.now c.is_empty.result c.if-is_empty.false c.is_empty.ensures c.as_slice.ensures))

pub returns-clause-held : goal.returns-clause-held
returns-clause-held c =
    held_after_some c.args.ops c.args.replica.now.held c.issue.new.self.held (not_empty c.args.ops c.as_slice.result.now c.is_empty.result c.if-is_empty.false c.is_empty.ensures c.as_slice.ensures)
    (subst (λ (os : List Op). AreRemainingHeld id_of os c.args.replica.now.held c.issue.new.self.held) c.into_vec.ensures c.issue.ensures.held)
