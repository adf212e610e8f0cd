-- The changes that pending operations make to one folder's tags, laid over the stored folder.
use Rattle.std.specs.Prelude.{◌≡◌, ◌⊎◌, ◌||◌, Bool, true, false, Option, None, Some, IsSome, List}
use Rattle.std.specs.Prelude.{[]}
use Rattle.std.specs.Global.{Vec}
use Rattle.std.specs.Map.{lookup}
use Rattle.std.specs.Option.{option_map}
use Rattle.std.specs.declared.cmp.Ordering.{Ordering}
use Rattle.tags_clocks.specs.declared.id.OpId.{OpId}
use Rattle.merge_laws.specs.Orders.{IsIn}
use Rattle.crdt_ops.specs.SortedSets.{IsAscending, id_order, is_some_id, same_id}
use Rattle.crdt_ops.specs.Sets.{MessageTagData, DatedText}
use Rattle.imap_types.specs.declared.version.Version.{Version}
use Rattle.imap_types.specs.Unions.{version_ids}
use Rattle.folder_state.specs.FolderTables.{FolderTables, tag_data_in, has_tag_in}
use Rattle.uid_projection.specs.declared.tag_changes.TagChange.{TagChange}
use Rattle.uid_projection.specs.declared.tag_changes.DatedTextRef.{DatedTextRef}
use Rattle.uid_projection.specs.declared.messages_ahead.MessagesAhead.{MessagesAhead}

abbrev pub is_some : {X : Type 0} → Option X → Bool
is_some None = false
is_some (Some x) = true

-- The data of a message tag after a change, if the tag is present.
abbrev pub change_data : TagChange → Option MessageTagData
change_data change =
    option_map (λ flags. record { flags = flags.now; origin = change.origin }) change.flags

-- A borrowed date and text, as a value.
abbrev pub change_value : DatedTextRef → DatedText
change_value dated = record { date = dated.date.now; text = dated.text.now }

-- The origin that a message tag carries, if the tag is present.
abbrev pub origin_of : Option MessageTagData → Option OpId
origin_of body = option_map (λ (b : MessageTagData). b.origin) body

-- The origin has a present version.
abbrev pub HasOrigin : (OpId → Option MessageTagData) → OpId → Type 0
HasOrigin tag_data origin = (id : OpId) × (origin_of (tag_data id) ≡ Some origin)

-- Whether the id is that of a present version of the origin.
abbrev pub is_version : (OpId → Option MessageTagData) → OpId → OpId → Bool
is_version tag_data origin id = is_some_id origin (origin_of (tag_data id))

-- The value after a change: the changed one, or the stored one if nothing changed.
abbrev pub after_change : {X : Type 0} → X → Option X → X
after_change stored None = stored
after_change stored (Some x) = x

-- Whether the folder tag with this id is present.
abbrev pub tag_over : List (OpId × Bool) → Option FolderTables → OpId → Bool
tag_over tags stored id = after_change (has_tag_in stored id) (lookup (same_id id) tags)

-- The data that the message tag with this id carries, if it is present.
abbrev pub tag_data_over : List (OpId × TagChange) → Option FolderTables → OpId
    → Option MessageTagData
tag_data_over changes stored id =
    after_change (tag_data_in stored id) (option_map change_data (lookup (same_id id) changes))

-- The stored folder.
abbrev pub stored_of : MessagesAhead → Option FolderTables
stored_of messages = option_map (λ folder. folder.now) messages.stored

abbrev pub tag_data_of : MessagesAhead → OpId → Option MessageTagData
tag_data_of messages = tag_data_over messages.changes.entries (stored_of messages)

-- The change of the message tag with this id, if any.
abbrev pub change_of : MessagesAhead → OpId → Option TagChange
change_of messages id = lookup (same_id id) messages.changes.entries

-- The list of ids for this origin, if it has one.
abbrev pub list_of : MessagesAhead → OpId → Option (Vec OpId)
list_of messages origin = lookup (same_id origin) messages.versions.entries

-- The ids of the list, or none without a list.
abbrev pub ids_listed : Option (Vec OpId) → List OpId
ids_listed None = []
ids_listed (Some ids) = ids.items

-- The stored tag with this id has this origin and isn't changed.
abbrev pub IsUnchanged : MessagesAhead → OpId → OpId → Type 0
IsUnchanged messages origin id =
    (change_of messages id ≡ None)
    × (origin_of (tag_data_in (stored_of messages) id) ≡ Some origin)

-- A tag with this id was added for this origin, and is present.
abbrev pub IsAdded : MessagesAhead → OpId → OpId → Type 0
IsAdded messages origin id =
    (change : TagChange)
    × (change_of messages id ≡ Some change)
    × (origin_of (change_data change) ≡ Some origin)

-- The date and text of the Append with this id.
abbrev pub dated_text_over : List (OpId × DatedTextRef) → (OpId → Option DatedText) → OpId
    → Option DatedText
dated_text_over dated_texts stored id =
    after_change (stored id)
    (option_map (λ dated. Some (change_value dated)) (lookup (same_id id) dated_texts))

-- The id is in the list.
abbrev pub IsListed : OpId → Option (Vec OpId) → Type 0
IsListed id None = ⊥
IsListed id (Some ids) = IsIn id ids.items

-- Each origin's list has the ids that it had, and perhaps further ones.
pub record Grows (old new : List (OpId × Vec OpId)) : Type 0 where
  pub touched : (origin : OpId)
      → IsSome (lookup (same_id origin) old)
      → IsSome (lookup (same_id origin) new)
  pub listed : (origin id : OpId)
      → IsListed id (lookup (same_id origin) old)
      → IsListed id (lookup (same_id origin) new)

-- Each added tag is listed for its origin, and the origin of each changed stored tag has a list.
pub record AreListed (changes : List (OpId × TagChange)) (versions : List (OpId × Vec OpId))
    (stored : Option FolderTables) : Type 0 where
  pub listed : (id : OpId) (change : TagChange)
      → lookup (same_id id) changes ≡ Some change → IsSome change.flags
      → IsListed id (lookup (same_id change.origin) versions)
  pub touched : (id origin : OpId)
      → IsSome (lookup (same_id id) changes)
      → origin_of (tag_data_in stored id) ≡ Some origin
      → IsSome (lookup (same_id origin) versions)

-- The lists of these messages are complete.
abbrev pub IsWhole : MessagesAhead → Type 0
IsWhole messages = AreListed messages.changes.entries messages.versions.entries (stored_of messages)

-- These are versions of the origin, in ascending order.
pub record AreSome (tag_data : OpId → Option MessageTagData) (origin : OpId)
    (versions : List Version)
    : Type 0 where
  pub ascending : IsAscending id_order (version_ids versions)
  pub carried : (version : Version) → IsIn version versions
      → tag_data version.id ≡ Some (record { flags = version.flags; origin = origin })

-- The versions with the property `P` were put in their places among the existing ones.
pub record IsPlaced (tag_data : OpId → Option MessageTagData) (origin : OpId) (P : OpId → Type 0)
    (old new : List Version) : Type 0 where
  pub some : AreSome tag_data origin old → AreSome tag_data origin new
  pub stored : (id : OpId) → IsIn id (version_ids old) → IsIn id (version_ids new)
  pub all : (id : OpId) → P id → IsIn id (version_ids new)

-- These are all versions of the origin, in ascending order.
pub record AreAll (tag_data : OpId → Option MessageTagData) (origin : OpId)
    (versions : List Version)
    : Type 0 where
  pub some : AreSome tag_data origin versions
  pub all : (id : OpId) → origin_of (tag_data id) ≡ Some origin → IsIn id (version_ids versions)

-- Versions are ordered by their ids.
abbrev pub by_id : Version → Version → Ordering
by_id a b = id_order a.id b.id

-- A folder tag or a message tag with this id is stored.
abbrev pub IsStoredTag : Option FolderTables → OpId → Type 0
IsStoredTag stored id = (has_tag_in stored id ≡ true) ⊎ IsSome (tag_data_in stored id)

-- Whether a folder tag or a message tag with this id is present.
abbrev pub is_present : List (OpId × Bool) → MessagesAhead → OpId → Bool
is_present tags messages id =
    tag_over tags (stored_of messages) id || is_some (origin_of (tag_data_of messages id))

-- Whether such a tag is present, if there is an id.
abbrev pub is_present_at : List (OpId × Bool) → MessagesAhead → Option OpId → Bool
is_present_at tags messages None = false
is_present_at tags messages (Some id) = is_present tags messages id

-- Whether a folder tag is present after its change, if it was changed.
abbrev pub is_tag : Option Bool → Bool
is_tag None = false
is_tag (Some present) = present

-- Whether a message tag is present after its change, if it was changed.
abbrev pub is_added : Option TagChange → Bool
is_added None = false
is_added (Some change) = is_some change.flags

-- Whether the change of an entry's id has the property.
abbrev pub value_at_key : {X : Type 0} → (Option X → Bool) → List (OpId × X) → Option (OpId × X)
    → Bool
value_at_key test entries None = false
value_at_key test entries (Some entry) = test (lookup (same_id entry.0) entries)
