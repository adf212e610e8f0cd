use Rattle.std.proofs.Common.{◌≢◌, take}
use Rattle.merge_laws.specs.Orders.{IsIn}
use Rattle.link_runtime.specs.declared.link_table.LinkEntry.{LinkEntry}
use Rattle.link_runtime.proofs.link_slots.number_place.Given as goal

-- no link before has this number
abbrev pub invariant-loop-at : goal.invariant-loop-at
invariant-loop-at l = (entry : LinkEntry) → IsIn entry (take l.at l.entries) → entry.number ≢ l.number
