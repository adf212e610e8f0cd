use Rattle.std.proofs.Common.{take}
use Rattle.link_runtime.specs.Slots.{IsUnrefused}
use Rattle.link_runtime.proofs.link_slots.refusal_of.Given as goal

-- none before has this name
abbrev pub invariant-loop-at : goal.invariant-loop-at
invariant-loop-at l = IsUnrefused l.peer (take l.at l.refused)
