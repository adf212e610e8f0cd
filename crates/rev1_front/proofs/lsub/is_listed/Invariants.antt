use Rattle.std.proofs.Common.{take}
use Rattle.rev1_front.specs.LsubLines.{IsListed}
use Rattle.rev1_front.proofs.lsub.is_listed.Given as goal

abbrev pub invariant-loop-answer : goal.invariant-loop-answer
invariant-loop-answer l = IsListed l.level (take l.answer-index l.answers) → ⊥
