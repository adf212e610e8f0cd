use Rattle.std.proofs.Common.{◌≡◌, ◌⊎◌, ◌≤◌, ◌<◌, ℕ, true}
use Rattle.session_view.specs.NoteChanges.{is_noted}
use Rattle.imap_node.proofs.change_notes.push_new.Given as goal

abbrev pub invariant-loop-uid : goal.invariant-loop-uid
invariant-loop-uid l =
    (u : ℕ) → ((is_noted l.fn.notes.items u ≡ true) ⊎ ((l.first ≤ u) × (u < l.end))) → (is_noted l.notes.items u ≡ true) ⊎ ((l.uid ≤ u) × (u < l.end))
