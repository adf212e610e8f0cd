use Rattle.std.proofs.Common.{◌≡◌, ◌≤◌, ℕ, List, length, take, true}
use Rattle.std.specs.List.{filter, list_any}
use Rattle.tags_clocks.specs.declared.id.OpId.{OpId}
use Rattle.subs_state.specs.Entries.{room_of, subscribes, tag_in}
use Rattle.subs_state.proofs.subs_table.make_room.Given as goal

abbrev pub invariant-loop-op : goal.invariant-loop-op
invariant-loop-op l =
    ((n : List ℕ) (i : OpId) → tag_in l.tags.entries n i ≡ tag_in l.fn.tags.entries n i)
    × ((n : List ℕ) → list_any (subscribes n) (take l.op-index l.ops) ≡ true → length (filter (subscribes n) l.ops) ≤ room_of n l.tags.entries)
