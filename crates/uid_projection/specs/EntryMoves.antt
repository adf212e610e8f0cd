-- How an operation about a folder changes the folder's entries and the origins of its versions.

use Rattle.std.specs.Prelude.{ℕ, ◌<◌, ◌≤◌, ◌^◌, Bool, true, false, not, Option, None, Some, List}
use Rattle.std.specs.Prelude.{[], ◌∷◌, ◌++◌, length, if◌then◌else◌}
use Rattle.std.specs.List.{filter_map, list_any}
use Rattle.std.specs.Option.{option_map}
use Rattle.tags_clocks.specs.declared.id.OpId.{OpId}
use Rattle.mailbox_rows.specs.declared.entry.ListingEntry.{ListingEntry}
use Rattle.mailbox_rows.specs.ListingEntries.{AreBelow, Lacks}
use Rattle.crdt_ops.specs.declared.op.Op.{Op}
use Rattle.crdt_ops.specs.SortedSets.{is_some_id, same_id}
use Rattle.crdt_ops.specs.Sets.{tag_data_by}

-- The origin of the message tag that the operation adds, if any.
abbrev pub added_origin : Op → Option OpId
added_origin op = option_map (λ body. body.origin) (tag_data_by op.id op.kind)

-- Whether the origin loses a version if these ids are removed. The function maps the id of a
-- version to its origin.
abbrev pub loses : (OpId → Option OpId) → List OpId → OpId → Bool
loses origin_of removed origin = list_any (λ id. is_some_id origin (origin_of id)) removed

-- The origins of the versions by id, without the versions with these ids.
abbrev pub origins_without : (OpId → Option OpId) → List OpId → OpId → Option OpId
origins_without origin_of removed id = if list_any (same_id id) removed then None else origin_of id

-- The origins of the versions by id, with a version added: this id, of this origin.
abbrev pub origins_with : (OpId → Option OpId) → OpId → OpId → OpId → Option OpId
origins_with origin_of id origin other = if same_id id other then Some origin else origin_of other

-- The entry with this mod-sequence.
abbrev pub with_modseq : ℕ → ListingEntry → ListingEntry
with_modseq modseq e = record { origin = e.origin; uid = e.uid; modseq = modseq }

-- The entry after the operation: unchanged if its message doesn't change; else with this
-- mod-sequence if the message stays, or removed.
abbrev pub move_of : (OpId → Bool) → (OpId → Bool) → ℕ → ListingEntry → Option ListingEntry
move_of changes stays modseq e =
    if changes e.origin then (if stays e.origin then Some (with_modseq modseq e) else None)
    else Some e

-- The entries after the operation, without the one that it may add.
abbrev pub moved_entries : (OpId → Bool) → (OpId → Bool) → ℕ → List ListingEntry → List ListingEntry
moved_entries changes stays modseq entries = filter_map (move_of changes stays modseq) entries

-- Whether there is an entry of this origin.
abbrev pub has_entry : List ListingEntry → OpId → Bool
has_entry entries origin = list_any (λ e. same_id origin e.origin) entries

-- Whether a message tag of this origin, if one is added, takes a UID: it does if no entry has the
-- origin.
abbrev pub takes_uid : Option OpId → List ListingEntry → Bool
takes_uid None entries = false
takes_uid (Some origin) entries = not (has_entry entries origin)

-- The entries after that of this origin is set: the existing one with this mod-sequence, or a new
-- one after the others.
abbrev pub with_line : OpId → ℕ → ℕ → List ListingEntry → List ListingEntry
with_line origin uid modseq entries =
    if has_entry entries origin
    then moved_entries (λ other. same_id other origin) (λ other. true) modseq entries
    else entries ++ record { origin = origin; uid = uid; modseq = modseq } ∷ []

-- The entries have distinct origins.
abbrev pub AreApart : List ListingEntry → Type 0
AreApart [] = Unit {0}
AreApart (e ∷ entries) = Lacks e.origin entries × AreApart entries

-- An entry with this UID can be put after these.
pub record IsNext (uid : ℕ) (entries : List ListingEntry) : Type 0 where
  pub first : 1 ≤ uid
  pub beyond : AreBelow uid entries
  pub few : length entries < 2 ^ 32
