use Rattle.std.proofs.Common.{◌≡◌, false, take}
use Rattle.std.specs.List.{list_any}
use Rattle.rev1_front.specs.Modes.{turns_rev2_on}
use Rattle.rev1_front.proofs.session.mode_after.Given as goal

abbrev pub invariant-loop-answer : goal.invariant-loop-answer
invariant-loop-answer l = list_any turns_rev2_on (take l.answer-index l.answers) ≡ false
