use Rattle.std.proofs.Common.{◌≡◌, drop}
use Rattle.std.specs.List.{list_any}
use Rattle.session_view.specs.NoteChanges.{is_shifting}
use Rattle.session_view.proofs.shifting_answers.are_shifting.Given as goal

abbrev pub invariant-loop-answer : goal.invariant-loop-answer
invariant-loop-answer l = list_any is_shifting (drop l.answer-index l.answers) ≡ list_any is_shifting l.answers
