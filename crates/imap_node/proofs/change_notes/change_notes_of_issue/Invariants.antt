use Rattle.std.proofs.Common.{◌≡◌, ◌⊎◌, true, drop}
use Rattle.crdt_ops.specs.Tags.{name_of}
use Rattle.crdt_ops.specs.declared.op.Op.{Op}
use Rattle.merge_laws.specs.Orders.{IsIn}
use Rattle.imap_node.specs.SessionFeeds.{is_named}
use Rattle.imap_node.specs.ChangeNotes.{AreNamed}
use Rattle.imap_node.proofs.change_notes.change_notes_of_issue.Given as goal

abbrev pub invariant-loop-op : goal.invariant-loop-op
invariant-loop-op l = record {
  named : AreNamed l.replica.start l.replica.applied l.ops l.folders.items;
  rest : (o : Op) → IsIn o l.ops → (is_named l.folders.items (name_of o.kind) ≡ true) ⊎ IsIn o (drop l.op-index l.ops);
}
