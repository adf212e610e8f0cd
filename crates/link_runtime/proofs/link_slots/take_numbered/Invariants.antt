use Rattle.std.proofs.Common.{◌≡◌, ◌≢◌, take}
use Rattle.std.specs.Arc.{arc_value}
use Rattle.merge_laws.specs.Orders.{IsIn}
use Rattle.link_runtime.specs.Slots.{number_of}
use Rattle.link_runtime.proofs.link_slots.take_numbered.Given as goal

-- no connection before has this number
abbrev pub invariant-loop-at : goal.invariant-loop-at
invariant-loop-at l = ((c : _) → IsIn c (take l.at l.connections.items) → number_of (arc_value c) ≢ l.number) × (l.connections.items ≡ l.initial.connections.items)
