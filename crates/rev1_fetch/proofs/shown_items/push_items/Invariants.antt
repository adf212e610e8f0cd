use Rattle.std.proofs.Common.{◌≡◌, ◌++◌, ◌||◌, not, map, take}
use Rattle.rev1_fetch.specs.ShownItems.{item_text, items_text}
use Rattle.rev1_fetch.proofs.ShownLemmas.{is_none}
use Rattle.rev1_fetch.proofs.shown_items.push_items.Given as goal

abbrev pub invariant-loop-item : goal.invariant-loop-item
invariant-loop-item l =
    (l.is_later ≡ (l.has_before || not (is_none (take l.item-index l.plan))))
    × (l.line.items ≡ l.initial.line.items ++ items_text l.has_before (map (item_text l.message l.parts) (take l.item-index l.plan)))
