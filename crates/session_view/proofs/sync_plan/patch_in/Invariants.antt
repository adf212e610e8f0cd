use Rattle.std.proofs.Common.{◌≡◌}
use Rattle.session_view.specs.NoteChanges.{patched_entries}
use Rattle.session_view.specs.Replay.{after_silent}
use Rattle.session_view.proofs.sync_plan.patch_in.Given as goal

abbrev pub invariant-loop-silent : goal.invariant-loop-silent
invariant-loop-silent l = after_silent l.entries.items l.silent-iterator.rest.items ≡ patched_entries l.fn.entries.items l.fn.patch.gone.items l.fn.patch.arrivals.items l.fn.patch.flags.items
