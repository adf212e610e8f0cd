-- Lines, UIDs and UIDNEXT (RFC 9051, section 2.3.1.1) and mod-sequences (RFC 7162, section 3.1), as
-- counts over the applied list.

use Rattle.std.specs.Prelude.{ℕ, ◌+◌, Bool, true, false, not, ◌&&◌, Option, None, Some, List, []}
use Rattle.std.specs.Prelude.{◌∷◌, ◌++◌, length, reverse, if◌then◌else◌}
use Rattle.std.specs.List.{list_any}
use Rattle.std.specs.Option.{option_map, unwrap_or}
use Rattle.std.specs.Str.{bytes_eq}
use Rattle.imap_types.specs.Names.{inbox}
use Rattle.tags_clocks.specs.declared.id.OpId.{OpId}
use Rattle.crdt_ops.specs.declared.kind.Kind.{Kind}
use Rattle.crdt_ops.specs.declared.kind.Kind.TheVariants.{Create, Delete, Append, Expunge, Store}
use Rattle.crdt_ops.specs.declared.kind.Kind.TheVariants.{Subscribe, Unsubscribe}
use Rattle.crdt_ops.specs.declared.op.Op.{Op}
use Rattle.crdt_ops.specs.SortedSets.{same_id}
use Rattle.crdt_ops.specs.Sets.{tag_data_from, first_some, origins_of, versions_of}
use Rattle.uid_projection.specs.declared.first_numbers.Counters.{Counters}
use Rattle.uid_projection.specs.Counting.{count_since, count_since_up_to, splits_of}
use Rattle.uid_projection.specs.Incarnations.{folder_exists}

-- ---- lines and UIDs (RFC 9051, section 2.3.1.1)

-- Whether the origin has a version in the folder after these operations.
abbrev pub has_version : List ℕ → OpId → List Op → Bool
has_version folder origin ops = list_any (same_id origin) (origins_of ops folder)

-- A line of an origin is a longest run of positions of the applied list, within an incarnation of
-- the folder, at which the origin has a version in the folder. (If it has one, the folder exists,
-- so each run is within an incarnation.)

-- Whether a line of the origin begins with the operation: the origin has a version in the folder,
-- and had none before.
abbrev pub begins_line_of_origin : List ℕ → OpId → List Op → Op → Bool
begins_line_of_origin folder origin front op =
    has_version folder origin (front ++ op ∷ []) && not (has_version folder origin front)

-- The origin of the folder's message tag that the operation adds, if any.
abbrev pub origin_added : List ℕ → Op → Option OpId
origin_added folder op = option_map (λ body. body.origin) (tag_data_from folder op.id op)

-- Whether the origin, if there is one, has the property.
abbrev pub holds_of_some : (OpId → Bool) → Option OpId → Bool
holds_of_some P None = false
holds_of_some P (Some origin) = P origin

-- Whether a line of the folder begins with the operation. An operation adds at most one message
-- tag, so only a line of that tag's origin can begin.
abbrev pub begins_line : List ℕ → List Op → Op → Bool
begins_line folder front op =
    holds_of_some (λ origin. begins_line_of_origin folder origin front op) (origin_added folder op)

-- The last value that the function has in the list, if any.
abbrev pub last_some : {X Y : Type 0} → (X → Option Y) → List X → Option Y
last_some f xs = first_some f (reverse xs)

-- The number of operations before the one with which the origin's latest line begins. If the origin
-- has a version at the list's end, that is its line there.
abbrev pub line_start_of : List ℕ → List Op → OpId → ℕ
line_start_of folder ops origin =
    unwrap_or
    (last_some
    (λ cut. if begins_line_of_origin folder origin cut.front cut.op then Some (length cut.front)
    else None) (splits_of ops)) 0

-- The first UID of the folder's incarnations.
abbrev pub first_uid : Counters → List ℕ → ℕ
first_uid start folder = if bytes_eq folder inbox then start.uid else 1

-- The UID of the message of this origin: the first UID, plus one for each line of the incarnation
-- that began before its own. Lines of removed messages still count.
abbrev pub uid_of : Counters → List ℕ → List Op → OpId → ℕ
uid_of start folder ops origin =
    first_uid start folder
    + count_since_up_to (line_start_of folder ops origin) (folder_exists folder)
    (begins_line folder) ops

-- The UID of the incarnation's next line.
abbrev pub uidnext_of : Counters → List ℕ → List Op → ℕ
uidnext_of start folder ops =
    first_uid start folder + count_since (folder_exists folder) (begins_line folder) ops

-- ---- mod-sequences (RFC 7162, section 3.1)

-- Whether an operation of this kind is about the folder.
abbrev pub kind_names_folder : List ℕ → Kind → Bool
kind_names_folder folder (Create name) = bytes_eq folder name
kind_names_folder folder (Delete name seen) = bytes_eq folder name
kind_names_folder folder (Append name flags date text) = bytes_eq folder name
kind_names_folder folder (Expunge name old_ids) = bytes_eq folder name
kind_names_folder folder (Store name flags old_ids origin) = bytes_eq folder name
kind_names_folder folder (Subscribe name) = false
kind_names_folder folder (Unsubscribe name seen) = false

abbrev pub names_folder : List ℕ → List Op → Op → Bool
names_folder folder front op = kind_names_folder folder op.kind

-- Whether both lists have the same ids.
abbrev pub same_ids : List OpId → List OpId → Bool
same_ids [] [] = true
same_ids [] (j ∷ js) = false
same_ids (i ∷ is) [] = false
same_ids (i ∷ is) (j ∷ js) = same_id i j && same_ids is js

-- Whether the operation changes which versions of the origin the folder has.
abbrev pub changes_versions : List ℕ → OpId → List Op → Op → Bool
changes_versions folder origin front op =
    not (same_ids (versions_of front folder origin) (versions_of (front ++ op ∷ []) folder origin))

-- The number of operations up to and including the latest one that changed the message's versions.
abbrev pub last_change_of : List ℕ → List Op → OpId → ℕ
last_change_of folder ops origin =
    unwrap_or
    (last_some
    (λ cut. if changes_versions folder origin cut.front cut.op then Some (length cut.front + 1)
    else None) (splits_of ops)) 0

-- The mod-sequence of the message of this origin: 1, plus one for each operation about the folder
-- from the beginning of its incarnation to the latest one that changed the message's versions.
abbrev pub modseq_of : List ℕ → List Op → OpId → ℕ
modseq_of folder ops origin =
    1
    + count_since_up_to (last_change_of folder ops origin) (folder_exists folder)
    (names_folder folder) ops

-- HIGHESTMODSEQ: 1, plus one for each operation about the folder from the beginning of its
-- incarnation.
abbrev pub highest_modseq_of : List ℕ → List Op → ℕ
highest_modseq_of folder ops = 1 + count_since (folder_exists folder) (names_folder folder) ops
