-- The tables of a folder, their contents, and the tables after changes.

use Rattle.std.specs.Prelude.{◌≡◌, ◌⊎◌, ◌↔◌, ℕ, ◌<◌, ◌≤◌, ◌==◌, not, Bool, true, false, Option}
use Rattle.std.specs.Prelude.{None, Some, IsSome, List, [], ◌++◌, length, if◌then◌else◌}
use Rattle.std.specs.Global.{Vec}
use Rattle.std.specs.List.{filter, list_any}
use Rattle.std.specs.Map.{keys_of, lookup}
use Rattle.std.specs.Option.{option_map}
use Rattle.std.specs.Str.{bytes_eq}
use Rattle.std.specs.declared.cmp.Ordering.{Ordering}
use Rattle.std.specs.Vec.{vec_capacity}
use Rattle.imap_types.specs.declared.flags.Flags.{Flags}
use Rattle.tags_clocks.specs.declared.id.OpId.{OpId}
use Rattle.merge_laws.specs.Orders.{IsIn}
use Rattle.crdt_ops.specs.SortedSets.{IsAscending, id_order, insert_ordered, same_id}
use Rattle.crdt_ops.specs.Sets.{MessageTagData, first_some}
use Rattle.imap_types.specs.declared.version.Version.{Version}
use Rattle.imap_types.specs.Unions.{version_ids}

-- The tables of a folder: the ids of its folder tags, the versions of each origin, the origin of
-- each version by its id, and how many further items of each need no more memory.
pub record FolderTables : Type 0 where
  pub tags : List OpId
  pub messages : List (OpId × Vec Version)
  pub origins : List (OpId × OpId)
  pub spare_tags : ℕ
  pub spare_messages : ℕ
  pub spare_origins : ℕ

-- The folder of this name, if it has tables.
abbrev pub find_folder : List ℕ → List (Vec ℕ × FolderTables) → Option FolderTables
find_folder name folders = lookup (λ (key : Vec ℕ). bytes_eq name key.items) folders

-- What a folder contains: whether the folder tag of this id is present, and the data of the message
-- tag of this id, if it is present.
pub record FolderContents : Type 0 where
  pub tags : OpId → Bool
  pub tag_data : OpId → Option MessageTagData

-- The versions of a list, if there is one.
abbrev pub versions_or_none : Option (Vec Version) → List Version
versions_or_none None = []
versions_or_none (Some versions) = versions.items

-- The versions of an origin.
abbrev pub versions_at : List (OpId × Vec Version) → OpId → List Version
versions_at messages origin = versions_or_none (lookup (same_id origin) messages)

-- The flags of the version with this id.
abbrev pub flags_among : List Version → OpId → Option Flags
flags_among versions id =
    first_some (λ version. if same_id id version.id then Some version.flags else None) versions

-- The data of the version with this id and origin.
abbrev pub tag_data_at : List (OpId × Vec Version) → OpId → Option OpId → Option MessageTagData
tag_data_at messages id None = None
tag_data_at messages id (Some origin) =
    option_map (λ flags. record { flags = flags; origin = origin })
    (flags_among (versions_at messages origin) id)

-- What the tables of a folder contain.
abbrev pub folder_contents : FolderTables → FolderContents
folder_contents folder = record {
  tags = λ id. list_any (same_id id) folder.tags;
  tag_data = λ id. tag_data_at folder.messages id (lookup (same_id id) folder.origins);
}

-- What a folder contains, if it has tables; else it has no tags.
abbrev pub has_tag_in : Option FolderTables → OpId → Bool
has_tag_in None id = false
has_tag_in (Some folder) id = (folder_contents folder).tags id

abbrev pub tag_data_in : Option FolderTables → OpId → Option MessageTagData
tag_data_in None id = None
tag_data_in (Some folder) id = (folder_contents folder).tag_data id

abbrev pub folder_tag_data : Option FolderTables → FolderContents
folder_tag_data folder = record { tags = has_tag_in folder; tag_data = tag_data_in folder }

abbrev pub messages_in : Option FolderTables → List (OpId × Vec Version)
messages_in None = []
messages_in (Some folder) = folder.messages

-- The folder has a tag with this id, of either kind.
abbrev pub HasTagIn : FolderContents → OpId → Type 0
HasTagIn folder id = (folder.tags id ≡ true) ⊎ IsSome (folder.tag_data id)

-- The ids of all tags of a folder.
abbrev pub folder_ids : FolderTables → List OpId
folder_ids folder = folder.tags ++ keys_of folder.origins

abbrev pub ids_in : Option FolderTables → List OpId
ids_in None = []
ids_in (Some folder) = folder_ids folder

-- The versions of an origin in a folder, if it has tables.
abbrev pub versions_in : Option FolderTables → OpId → List Version
versions_in folder origin = versions_at (messages_in folder) origin

-- Whether the folder has a tag.
abbrev pub has_ids : FolderTables → Bool
has_ids folder = not (length (folder_ids folder) == 0)

-- The name of a folder that has a tag.
abbrev pub name_if_tagged : Vec ℕ × FolderTables → Option (List ℕ)
name_if_tagged entry = if has_ids entry.1 then Some entry.0.items else None

-- The versions are those of an origin: at least one, ascending by id, each with the data of its
-- tag.
pub record AreVersionsOf (folder : FolderContents) (origin : OpId) (versions : List Version) :
    Type 0 where
  pub some : 0 < length versions
  pub ascending : IsAscending id_order (version_ids versions)
  pub listed : (i : OpId)
      → IsIn i (version_ids versions)
      ↔ (option_map (λ content. content.origin) (folder.tag_data i) ≡ Some origin)
  pub carried : (v : Version) → IsIn v versions
      → folder.tag_data v.id ≡ Some (record { flags = v.flags; origin = origin })

-- Each message has a version, its versions ascend by id, and an id has an origin exactly when that
-- origin has a version with this id.
pub record AreIndexed (messages : List (OpId × Vec Version)) (origins : List (OpId × OpId)) :
    Type 0 where
  pub some : (o : OpId) (vs : Vec Version)
      → lookup (same_id o) messages ≡ Some vs
      → 0 < length vs.items
  pub ascending : (o : OpId) → IsAscending id_order (version_ids (versions_at messages o))
  pub both : (i o : OpId)
      → (lookup (same_id i) origins ≡ Some o) ↔ IsIn i (version_ids (versions_at messages o))

abbrev pub AreIndexedIn : Option FolderTables → Type 0
AreIndexedIn None = Unit {0}
AreIndexedIn (Some folder) = AreIndexed folder.messages folder.origins

-- ---- changes

-- The order of versions: by their ids.
abbrev pub by_id : Version → Version → Ordering
by_id a b = id_order a.id b.id

-- The versions without the one with this id.
abbrev pub without_version : OpId → List Version → List Version
without_version id versions = filter (λ version. not (same_id id version.id)) versions

-- The version with this id was taken out of the message of this origin, and the message with it if
-- it had no other; other messages stay.
pub record IsTakenOut (origin id : OpId) (old new : List (OpId × Vec Version)) : Type 0 where
  pub here : versions_at new origin ≡ without_version id (versions_at old origin)
  pub others : (o : OpId) → same_id o origin ≡ false
      → lookup (same_id o) new ≡ lookup (same_id o) old
  pub some : (vs : Vec Version) → lookup (same_id origin) new ≡ Some vs → 0 < length vs.items
  pub places : (vs : Vec Version)
      → lookup (same_id origin) new ≡ Some vs
      → (ws : Vec Version)
      × (lookup (same_id origin) old ≡ Some ws)
      × (length vs.items ≤ length ws.items)
      × (vec_capacity vs ≡ vec_capacity ws)

-- The version was added to the message of its origin; other messages stay.
pub record IsPutIn (origin : OpId) (version : Version) (old new : List (OpId × Vec Version)) :
    Type 0 where
  pub here : versions_at new origin ≡ insert_ordered by_id version (versions_at old origin)
  pub others : (o : OpId) → same_id o origin ≡ false
      → lookup (same_id o) new ≡ lookup (same_id o) old

-- The folder is found by its name, and its versions and origins agree.
abbrev pub IsIndexedFolder : List (Vec ℕ × FolderTables) → Vec ℕ × FolderTables → Type 0
IsIndexedFolder folders entry =
    (find_folder entry.0.items folders ≡ Some entry.1) × AreIndexed entry.1.messages entry.1.origins
