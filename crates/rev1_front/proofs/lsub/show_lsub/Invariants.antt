use Rattle.std.proofs.Common.{◌≡◌, ◌++◌, ℕ, List, [], take}
use Rattle.rev1_front.specs.LsubLines.{AreLsubLines}
use Rattle.rev1_front.specs.LsubSteps.{AreLevels}
use Rattle.rev1_front.proofs.lsub.show_lsub.Given as goal

abbrev pub invariant-loop-answer : goal.invariant-loop-answer
invariant-loop-answer l =
    (given : List ℕ) × AreLsubLines l.fn.mode l.pattern l.answers [] (take l.answer-index l.answers) given
    × (l.text.items ≡ l.initial.text.items ++ given)
    × AreLevels l.pattern l.answers (take l.answer-index l.answers) l.levels.items
