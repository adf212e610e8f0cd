-- The room that pending operations need in the tables of folders, and how it changes.

use Rattle.std.specs.Prelude.{◌≡◌, ℕ, ◌+◌, ◌≤◌, Bool, false, Option, None, Some, List, [], ◌∷◌}
use Rattle.std.specs.Prelude.{if◌then◌else◌, length}
use Rattle.std.specs.Global.{Vec}
use Rattle.std.specs.Map.{lookup}
use Rattle.std.specs.Option.{option_map, unwrap_or}
use Rattle.std.specs.Str.{bytes_eq}
use Rattle.std.specs.Vec.{vec_capacity}
use Rattle.tags_clocks.specs.declared.id.OpId.{OpId}
use Rattle.crdt_ops.specs.declared.kind.Kind.{Kind}
use Rattle.crdt_ops.specs.declared.kind.Kind.TheVariants.{Create, Delete, Append, Expunge, Store}
use Rattle.crdt_ops.specs.declared.kind.Kind.TheVariants.{Subscribe, Unsubscribe}
use Rattle.crdt_ops.specs.declared.op.Op.{Op}
use Rattle.crdt_ops.specs.SortedSets.{is_some_id, same_id}
use Rattle.crdt_ops.specs.Sets.{tag_data_by}
use Rattle.imap_types.specs.declared.version.Version.{Version}
use Rattle.folder_state.specs.FolderTables.{FolderTables, find_folder}

-- The folder of the tag that an operation adds.
abbrev pub target : Kind → Option (List ℕ)
target (Create folder) = Some folder
target (Delete folder seen) = None
target (Append folder flags date text) = Some folder
target (Expunge folder old_ids) = Some folder
target (Store folder flags old_ids origin) = Some folder
target (Subscribe name) = None
target (Unsubscribe name seen) = None

-- The origin of the version that an operation of this id and kind adds.
abbrev pub origin_of_op : OpId → Kind → Option OpId
origin_of_op id kind = option_map (λ content. content.origin) (tag_data_by id kind)

abbrev pub is_named : List ℕ → Option (List ℕ) → Bool
is_named name None = false
is_named name (Some other) = bytes_eq name other

-- The number of operations that add a tag of this folder.
abbrev pub added_tag_count : List Op → List ℕ → ℕ
added_tag_count [] name = 0
added_tag_count (op ∷ ops) name =
    (if is_named name (target op.kind) then 1 else 0) + added_tag_count ops name

-- The number of operations that add a version of this origin, in any folder.
abbrev pub added_version_count : List Op → OpId → ℕ
added_version_count [] origin = 0
added_version_count (op ∷ ops) origin =
    (if is_some_id origin (origin_of_op op.id op.kind) then 1 else 0)
    + added_version_count ops origin

-- The number of versions of the origin, if there is one; else 0.
abbrev pub counts_of : (OpId → ℕ) → Option OpId → ℕ
counts_of versions None = 0
counts_of versions (Some origin) = versions origin

-- Counts by folder and by origin.
pub record TagCounts : Type 0 where
  pub tags : List (Vec ℕ × ℕ)
  pub versions : List (OpId × ℕ)

-- The count under a name, and the count under an id.
abbrev pub count_of_name : List ℕ → List (Vec ℕ × ℕ) → ℕ
count_of_name name counts = unwrap_or (lookup (λ (key : Vec ℕ). bytes_eq name key.items) counts) 0

abbrev pub count_at : OpId → List (OpId × ℕ) → ℕ
count_at id counts = unwrap_or (lookup (same_id id) counts) 0

-- ---- room

-- There is room for `count` further tags in the folder; if there is an origin, also for as many
-- message tags of new messages.
pub record HasPlaces (folder : FolderTables) (origin : Option OpId) (count : ℕ) : Type 0 where
  pub tags : count ≤ folder.spare_tags
  pub messages : (o : OpId) → origin ≡ Some o → count ≤ folder.spare_messages
  pub origins : (o : OpId) → origin ≡ Some o → count ≤ folder.spare_origins

-- There is room for this number of further versions in the message of the origin, if it exists.
abbrev pub HasVersionRoom : List (OpId × Vec Version) → OpId → ℕ → Type 0
HasVersionRoom messages origin count =
    (versions : Vec Version)
    → lookup (same_id origin) messages ≡ Some versions
    → length versions.items + count ≤ vec_capacity versions

-- There is room for this number of further versions in the message of the origin, if there is an
-- origin and its message exists.
abbrev pub HasVersionPlaces : FolderTables → Option OpId → ℕ → Type 0
HasVersionPlaces folder None count = Unit {0}
HasVersionPlaces folder (Some origin) count = HasVersionRoom folder.messages origin count

-- The folder has tables, with room for the counted tags in it and for the counted versions in its
-- message of the origin.
abbrev pub HasRoomAt : (List ℕ → ℕ) → (OpId → ℕ) → Option OpId → Option (List ℕ)
    → (List ℕ → Option FolderTables) → Type 0
HasRoomAt tags versions origin None folders = Unit {0}
HasRoomAt tags versions origin (Some name) folders =
    (folder : FolderTables)
    × (folders name ≡ Some folder)
    × HasPlaces folder origin (tags name)
    × HasVersionPlaces folder origin (counts_of versions origin)

-- The folder of the tag that the operation adds has tables, with room for what these operations
-- add.
abbrev pub HasRoomFor : List Op → Op → (List ℕ → Option FolderTables) → Type 0
HasRoomFor ops op folders =
    HasRoomAt (added_tag_count ops) (added_version_count ops) (origin_of_op op.id op.kind)
    (target op.kind)
    folders

-- Each operation that adds a version has an empty list, with room for the versions of its origin
-- that it and the operations after it add.
abbrev pub HaveLists : List Op → List (Vec Version) → Type 0
HaveLists [] lists = Unit {0}
HaveLists (op ∷ ops) [] = ⊥
HaveLists (op ∷ ops) (list ∷ lists) =
    (list.items ≡ [])
    × (counts_of (added_version_count (op ∷ ops)) (origin_of_op op.id op.kind) ≤ vec_capacity list)
    × HaveLists ops lists

-- ---- changes of room

-- Nothing was put in, and no room was lost.
pub record IsNoFuller (old new : FolderTables) : Type 0 where
  pub tags : old.spare_tags ≤ new.spare_tags
  pub messages : old.spare_messages ≤ new.spare_messages
  pub origins : old.spare_origins ≤ new.spare_origins
  pub versions : (o : OpId) (n : ℕ)
      → HasVersionRoom old.messages o n
      → HasVersionRoom new.messages o n

abbrev pub IsNoFullerIn : Option FolderTables → Option FolderTables → Type 0
IsNoFullerIn None new = Unit {0}
IsNoFullerIn (Some old) None = ⊥
IsNoFullerIn (Some old) (Some new) = IsNoFuller old new

abbrev pub AreNoFuller : List (Vec ℕ × FolderTables) → List (Vec ℕ × FolderTables) → Type 0
AreNoFuller old new = (name : List ℕ) → IsNoFullerIn (find_folder name old) (find_folder name new)

-- The versions are the same, with no less room.
abbrev pub IsRoomierList : Option (Vec Version) → Option (Vec Version) → Type 0
IsRoomierList None None = Unit {0}
IsRoomierList None (Some new) = ⊥
IsRoomierList (Some old) None = ⊥
IsRoomierList (Some old) (Some new) =
    (new.items ≡ old.items) × (vec_capacity old ≤ vec_capacity new)

abbrev pub AreRoomierLists : List (OpId × Vec Version) → List (OpId × Vec Version) → Type 0
AreRoomierLists old new =
    (o : OpId) → IsRoomierList (lookup (same_id o) old) (lookup (same_id o) new)

-- The folder has the same tags, and no less room.
pub record IsRoomier (old new : FolderTables) : Type 0 where
  pub tags : new.tags ≡ old.tags
  pub origins : new.origins ≡ old.origins
  pub versions : AreRoomierLists old.messages new.messages
  pub spare_tags : old.spare_tags ≤ new.spare_tags
  pub spare_messages : old.spare_messages ≤ new.spare_messages
  pub spare_origins : old.spare_origins ≤ new.spare_origins

-- A folder has the same tags, and no less room; a new folder has no tags.
abbrev pub IsRoomierIn : Option FolderTables → Option FolderTables → Type 0
IsRoomierIn None None = Unit {0}
IsRoomierIn None (Some new) = (new.tags ≡ []) × (new.messages ≡ []) × (new.origins ≡ [])
IsRoomierIn (Some old) None = ⊥
IsRoomierIn (Some old) (Some new) = IsRoomier old new

abbrev pub AreRoomier : List (Vec ℕ × FolderTables) → List (Vec ℕ × FolderTables) → Type 0
AreRoomier old new = (name : List ℕ) → IsRoomierIn (find_folder name old) (find_folder name new)

-- A tag was put into the folder, as a version of the origin if there is one. The remaining room
-- suffices for the tags after it, even if a new message began in a list with `places` places.
abbrev pub LeavesRoom : List ℕ → Option OpId → ℕ → (List ℕ → Option FolderTables)
    → (List ℕ → Option FolderTables) → Type 0
LeavesRoom name origin places old new =
    (tags : List ℕ → ℕ) (versions : OpId → ℕ) (o : Option OpId) (t : Option (List ℕ))
    → HasRoomAt (λ n. (if bytes_eq n name then 1 else 0) + tags n)
    (λ i. (if is_some_id i origin then 1 else 0) + versions i) o t old
    → counts_of (λ i. (if is_some_id i origin then 1 else 0) + versions i) origin ≤ places
    → HasRoomAt tags versions o t new

-- The tag that an operation adds was put in, and the remaining room suffices for the operations
-- after it.
abbrev pub LeavesRoomAfter : Op → ℕ → (List ℕ → Option FolderTables)
    → (List ℕ → Option FolderTables) → Type 0
LeavesRoomAfter op places old new =
    (rest : List Op) (o : Op)
    → HasRoomFor (op ∷ rest) o old
    → counts_of (added_version_count (op ∷ rest)) (origin_of_op op.id op.kind) ≤ places
    → HasRoomFor rest o new
