-- Tests of a tag's name and id.

use Rattle.std.specs.Prelude.{ℕ, Bool, ◌&&◌, List}
use Rattle.std.specs.List.{list_any}
use Rattle.std.specs.Str.{bytes_eq}
use Rattle.tags_clocks.specs.declared.id.OpId.{OpId}
use Rattle.crdt_ops.specs.SortedSets.{same_id}

-- Whether the name and the id are these.
abbrev pub is_at : List ℕ → OpId → List ℕ → OpId → Bool
is_at name id other other_id = bytes_eq name other && same_id id other_id

-- Whether the name is this one, and the id one of these.
abbrev pub is_among : List ℕ → OpId → List ℕ → List OpId → Bool
is_among name id other ids = bytes_eq name other && list_any (same_id id) ids
