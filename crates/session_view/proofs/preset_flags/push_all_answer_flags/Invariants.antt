use Rattle.std.proofs.Common.{◌≡◌, List, ◌++◌, drop}
use Rattle.session_view.specs.NoteChanges.{AreUpTo, all_fetched_flags}
use Rattle.session_view.specs.Replay.{after_silent}
use Rattle.session_view.specs.declared.reply_replay.SilentFlags.{SilentFlags}
use Rattle.session_view.proofs.preset_flags.push_all_answer_flags.Given as goal

abbrev pub invariant-loop-answer : goal.invariant-loop-answer
invariant-loop-answer l = record {
  up : AreUpTo l.last l.left.items;
  same : (rest : List SilentFlags) → after_silent l.view.items (l.left.items ++ (all_fetched_flags (drop l.answer-index l.answers) ++ rest)) ≡ after_silent l.view.items (l.fn.left.items ++ (all_fetched_flags l.answers ++ rest));
}
