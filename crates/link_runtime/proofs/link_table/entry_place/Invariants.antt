use Rattle.std.proofs.Common.{take}
use Rattle.link_runtime.specs.LinkTables.{IsUnlinked}
use Rattle.link_runtime.proofs.link_table.entry_place.Given as goal

-- no link before has this name
abbrev pub invariant-loop-at : goal.invariant-loop-at
invariant-loop-at l = IsUnlinked l.peer (take l.at l.entries)
