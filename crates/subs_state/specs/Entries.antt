-- The entries of the table of subscription tags, what they contain, and their room.

use Rattle.std.specs.Prelude.{ℕ, ◌==◌, Bool, false, Option, None, Some, List, [], length}
use Rattle.std.specs.Prelude.{if◌then◌else◌}
use Rattle.std.specs.Global.{Vec}
use Rattle.std.specs.List.{list_any}
use Rattle.std.specs.Map.{lookup}
use Rattle.std.specs.Str.{bytes_eq}
use Rattle.indexmap.specs.IndexSet.{spare}
use Rattle.tags_clocks.specs.declared.id.OpId.{OpId}
use Rattle.crdt_ops.specs.declared.kind.Kind.{Kind}
use Rattle.crdt_ops.specs.declared.kind.Kind.TheVariants.{Create, Delete, Append, Expunge, Store}
use Rattle.crdt_ops.specs.declared.kind.Kind.TheVariants.{Subscribe, Unsubscribe}
use Rattle.crdt_ops.specs.declared.op.Op.{Op}
use Rattle.crdt_ops.specs.SortedSets.{same_id}
use Rattle.subs_state.specs.declared.subs_table.NameTags.{NameTags}

-- The entry of a name, if it has one.
abbrev pub ids_entry : List ℕ → List (Vec ℕ × NameTags) → Option NameTags
ids_entry name tags = lookup (λ (key : Vec ℕ). bytes_eq name key.items) tags

-- The ids of an entry; none without an entry.
abbrev pub ids_in : Option NameTags → List OpId
ids_in None = []
ids_in (Some name_tags) = name_tags.ids.keys

-- Whether there is a tag of this name and id.
abbrev pub tag_in : List (Vec ℕ × NameTags) → List ℕ → OpId → Bool
tag_in tags name id = list_any (same_id id) (ids_in (ids_entry name tags))

-- The name of an entry with ids.
abbrev pub name_with_ids : Vec ℕ × NameTags → Option (List ℕ)
name_with_ids entry = if length entry.1.ids.keys == 0 then None else Some entry.0.items

-- How many further ids an entry takes with no more memory.
abbrev pub room_in : Option NameTags → ℕ
room_in None = 0
room_in (Some name_tags) = spare name_tags.ids

-- How many further tags of a name fit with no more memory.
abbrev pub room_of : List ℕ → List (Vec ℕ × NameTags) → ℕ
room_of name tags = room_in (ids_entry name tags)

-- Whether the kind is a Subscribe to this name.
abbrev pub is_subscribe : List ℕ → Kind → Bool
is_subscribe name (Create folder) = false
is_subscribe name (Delete folder seen) = false
is_subscribe name (Append folder flags date text) = false
is_subscribe name (Expunge folder old_ids) = false
is_subscribe name (Store folder flags old_ids origin) = false
is_subscribe name (Subscribe other) = bytes_eq name other
is_subscribe name (Unsubscribe other seen) = false

-- Whether the operation subscribes to this name.
abbrev pub subscribes : List ℕ → Op → Bool
subscribes name op = is_subscribe name op.kind
