use Rattle.std.proofs.Common.{subst, sym}
use Rattle.causal_inbox.specs.Inbox.{AreRemainingHeld}
use Rattle.crdt_ops.specs.declared.op.Op.{Op}
use Rattle.imap_node.specs.Nodes.{ReplicaWithRoom}
use Rattle.imap_node.specs.Rooms.{HasRoomFor}
use Rattle.imap_node.proofs.replica.ReplicaState.issue.Goals as goal
use Rattle.crdt_ops.specs.Ops.{id_of}

pub issue-requires-clause-readied : goal.issue-requires-clause-readied
issue-requires-clause-readied c = subst (λ (r : ReplicaWithRoom). HasRoomFor r.applied r.room c.args.ops.items) (sym c.self.view_is) c.requires.room

pub returns-clause-held : goal.returns-clause-held
returns-clause-held c = subst (λ (r : ReplicaWithRoom). AreRemainingHeld id_of c.args.ops.items r.held c.issue.new.self.received.held) c.self.view_is c.issue.ensures.held
