use Rattle.std.proofs.Common.{◌≡◌, false, take}
use Rattle.std.specs.List.{list_any}
use Rattle.rev1_fetch.specs.ShownItems.{needs_parts}
use Rattle.rev1_fetch.proofs.shown_items.any_needs_parts.Given as goal

abbrev pub invariant-loop-item : goal.invariant-loop-item
invariant-loop-item l = list_any needs_parts (take l.item-index l.items) ≡ false
