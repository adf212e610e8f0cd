use Rattle.std.proofs.Common.{◌≡◌, ◌+◌, ℕ, List, drop}
use Rattle.folder_state.specs.OpRoom.{count_of_name, added_tag_count}
use Rattle.folder_state.proofs.tag_counts.tags_by.Given as goal

abbrev pub invariant-loop-op : goal.invariant-loop-op
invariant-loop-op l = (name : List ℕ) → count_of_name name l.counts.entries + added_tag_count (drop l.op-index l.ops) name ≡ added_tag_count l.ops name
