use Rattle.std.proofs.Common.{take}
use Rattle.imap_query.specs.Patterns.{IsIn}
use Rattle.rev1_front.proofs.lsub.is_level.Given as goal

abbrev pub invariant-loop-other : goal.invariant-loop-other
invariant-loop-other l = IsIn l.level (take l.other-index l.levels) → ⊥
