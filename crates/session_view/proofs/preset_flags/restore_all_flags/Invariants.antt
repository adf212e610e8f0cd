use Rattle.std.proofs.Common.{◌≡◌, take, drop, length}
use Rattle.session_view.specs.NoteChanges.{with_flags_restored}
use Rattle.session_view.specs.Replay.{after_silent}
use Rattle.session_view.proofs.preset_flags.restore_all_flags.Given as goal

abbrev pub invariant-loop-i : goal.invariant-loop-i
invariant-loop-i l = record {
  len : length l.silents ≡ length l.fn.silents;
  back : with_flags_restored l.entries.items (take l.i l.silents) ≡ with_flags_restored l.fn.entries.items l.fn.silents;
  set : after_silent l.entries.items (drop l.i l.silents) ≡ l.fn.entries.items;
}
