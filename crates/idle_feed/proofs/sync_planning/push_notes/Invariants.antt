use Rattle.std.proofs.Common.{◌≡◌, ◌++◌, drop}
use Rattle.idle_feed.proofs.sync_planning.push_notes.Given as goal

abbrev pub invariant-loop-note : goal.invariant-loop-note
invariant-loop-note l = l.all.items ++ drop l.note-index l.notes ≡ l.fn.all.items ++ l.notes
