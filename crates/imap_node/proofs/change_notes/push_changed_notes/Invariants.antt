use Rattle.std.proofs.Common.{◌≡◌, ◌⊎◌, ℕ, true, drop}
use Rattle.merge_laws.specs.Orders.{IsIn}
use Rattle.session_view.specs.NoteChanges.{is_noted}
use Rattle.imap_node.proofs.change_notes.push_changed_notes.Given as goal

abbrev pub invariant-loop-uid : goal.invariant-loop-uid
invariant-loop-uid l = (uid : ℕ) → (is_noted l.fn.notes.items uid ≡ true) ⊎ IsIn uid l.uids → (is_noted l.notes.items uid ≡ true) ⊎ IsIn uid (drop l.uid-index l.uids)
