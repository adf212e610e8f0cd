use Rattle.std.proofs.Common.{◌≡◌, List, ◌++◌, drop}
use Rattle.session_view.specs.NoteChanges.{AreUpTo}
use Rattle.session_view.specs.Replay.{after_silent}
use Rattle.session_view.specs.declared.reply_replay.SilentFlags.{SilentFlags}
use Rattle.session_view.proofs.preset_flags.push_all_to_set.Given as goal

abbrev pub invariant-loop-silent : goal.invariant-loop-silent
invariant-loop-silent l = record {
  up : AreUpTo l.last l.left.items;
  same : (rest : List SilentFlags) → after_silent l.view.items (l.left.items ++ (drop l.silent-index l.silents ++ rest)) ≡ after_silent l.view.items (l.fn.left.items ++ (l.silents ++ rest));
}
