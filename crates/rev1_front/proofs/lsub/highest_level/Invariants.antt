use Rattle.std.proofs.Common.{◌-◌, length}
use Rattle.rev1_front.proofs.LsubLemmas.{AllLonger}
use Rattle.rev1_front.proofs.lsub.highest_level.Given as goal

abbrev pub invariant-loop-past : goal.invariant-loop-past
invariant-loop-past l = AllLonger l.pattern l.name (length l.name - l.past)
