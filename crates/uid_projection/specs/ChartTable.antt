-- The charts of all folders by name: the list of operations that they are up to, and their room.

use Rattle.std.specs.Prelude.{◌≡◌, ℕ, ◌+◌, ◌≤◌, true, false, Option, None, Some, List, [], ◌∷◌}
use Rattle.std.specs.Prelude.{◌++◌, length}
use Rattle.std.specs.Global.{Vec}
use Rattle.std.specs.Map.{lookup}
use Rattle.std.specs.Str.{bytes_eq}
use Rattle.indexmap.specs.IndexMap.{spare}
use Rattle.imap_types.specs.Names.{inbox}
use Rattle.tags_clocks.specs.declared.id.OpId.{OpId}
use Rattle.crdt_ops.specs.declared.op.Op.{Op}
use Rattle.crdt_ops.specs.SortedSets.{same_id}
use Rattle.crdt_ops.specs.Tags.{name_of, removed_ids}
use Rattle.folder_state.specs.Contents.{Contents, IsMadeBy}
use Rattle.uid_projection.specs.declared.chart.Chart.{Chart}
use Rattle.uid_projection.specs.declared.first_numbers.Counters.{Counters}
use Rattle.uid_projection.specs.Applied.{IsApplied}
use Rattle.uid_projection.specs.Chart.{AreVersions, IsChart}
use Rattle.uid_projection.specs.Exhaustion.{IsExhausted}
use Rattle.uid_projection.specs.Counting.{count_all}
use Rattle.uid_projection.specs.Incarnations.{begins_incarnation, folder_exists, k_of}
use Rattle.uid_projection.specs.UidsAndModSeqs.{kind_names_folder}
use Rattle.uid_projection.specs.EntryMoves.{added_origin}

-- The chart of this folder, if it has one.
abbrev pub chart_at : List ℕ → List (Vec ℕ × Chart) → Option Chart
chart_at folder charts = lookup (λ (key : Vec ℕ). bytes_eq folder key.items) charts

-- The origin of the version with this id in the table, if any.
abbrev pub origin_at : List (OpId × OpId) → OpId → Option OpId
origin_at versions id = lookup (same_id id) versions

-- The chart is that of the folder after these operations, whether the folder exists or not.
pub record IsUpTo (start : Counters) (folder : List ℕ) (ops : List Op) (c : Chart) : Type 0 where
  pub present : c.present ≡ folder_exists folder ops
  pub shows : IsChart start folder ops c.uidnext c.highest c.entries.entries
  pub versions : AreVersions folder ops (origin_at c.versions.entries)
  pub is_k : c.present ≡ true → c.k ≡ k_of start folder ops
  pub small : c.present ≡ true → (folder ≡ inbox → ⊥) → c.k ≤ 65535
  pub latest : c.entries.latest ≤ c.highest

-- The charts are up to these operations, and each existing folder has one.
pub record IsTable (start : Counters) (ops : List Op) (next_k : ℕ) (charts : List (Vec ℕ × Chart)) :
    Type 0 where
  pub is_k : next_k ≡ start.k + count_all begins_incarnation ops
  pub shows : (folder : List ℕ) (c : Chart)
      → chart_at folder charts ≡ Some c
      → IsUpTo start folder ops c
  pub covers : (folder : List ℕ) → chart_at folder charts ≡ None → folder_exists folder ops ≡ false

-- The number of messages that may get a new mod-sequence by the operation: one for each id that it
-- removes, and one to which it may add a version.
abbrev pub modseqs_by : Op → ℕ
modseqs_by o = length (removed_ids o.kind) + 1

-- The number of messages that may get a new mod-sequence by the operations: the sum over all
-- operations.
abbrev pub modseqs_of : List Op → ℕ
modseqs_of [] = 0
modseqs_of (o ∷ ops) = modseqs_by o + modseqs_of ops

-- The chart has `n` further mod-sequences, places for `modseqs` of them in its entries' index and,
-- if an origin is added, places for `n` entries and versions.
pub record IsRoomy (origin : Option OpId) (n modseqs : ℕ) (c : Chart) : Type 0 where
  pub places : (g : OpId) → origin ≡ Some g → n ≤ c.entries.room
  pub version_places : (g : OpId) → origin ≡ Some g → n ≤ spare c.versions
  pub modseq_places : modseqs ≤ c.entries.modseq_room
  pub highest : c.highest + n ≤ 18446744073709551615
  pub uidnext : c.uidnext ≤ 4294967295

-- A chart exists, with room for `n` operations that give `modseqs` mod-sequences.
abbrev pub HasRoomsIn : Option OpId → ℕ → ℕ → Option Chart → Type 0
HasRoomsIn origin n modseqs None = ⊥
HasRoomsIn origin n modseqs (Some c) = IsRoomy origin n modseqs c

-- The folder has a chart, with room for `n` operations that give `modseqs` mod-sequences.
abbrev pub HasRooms : Option OpId → ℕ → ℕ → List ℕ → List (Vec ℕ × Chart) → Type 0
HasRooms origin n modseqs folder charts = HasRoomsIn origin n modseqs (chart_at folder charts)

-- The operation is applied next after the list, with these contents as its result. No counter lacks
-- a number for it.
pub record IsNextOp (start : Counters) (next_k : ℕ) (value : Contents) (list : List Op) (o : Op) :
    Type 0 where
  pub first : 1 ≤ start.uid
  pub applied : IsApplied (list ++ o ∷ [])
  pub made : IsMadeBy value (list ++ o ∷ [])
  pub is_k : next_k ≡ start.k + count_all begins_incarnation list
  pub not_exhausted : IsExhausted start list o → ⊥

-- The operation is applied next after the list that its folder's chart is up to, and the chart has
-- room for it.
pub record IsNextAt (start : Counters) (next_k : ℕ) (value : Contents) (list : List Op) (o : Op)
    (c : Chart) : Type 0 where
  pub next : IsNextOp start next_k value list o
  pub about : kind_names_folder (name_of o.kind) o.kind ≡ true
  pub up : IsUpTo start (name_of o.kind) list c
  pub roomy : IsRoomy (added_origin o) 1 (modseqs_by o) c

-- The operation is applied next after the list that the charts are up to.
pub record IsNextOn (start : Counters) (next_k : ℕ) (charts : List (Vec ℕ × Chart))
    (value : Contents) (list : List Op) (o : Op) : Type 0 where
  pub next : IsNextOp start next_k value list o
  pub table : IsTable start list next_k charts

-- The charts have the same numbers, entries and versions, and the new one has no less room.
pub record IsSame (old new : Chart) : Type 0 where
  pub present : new.present ≡ old.present
  pub k : new.k ≡ old.k
  pub uidnext : new.uidnext ≡ old.uidnext
  pub highest : new.highest ≡ old.highest
  pub entries : new.entries.entries ≡ old.entries.entries
  pub versions : new.versions.entries ≡ old.versions.entries
  pub room : old.entries.room ≤ new.entries.room
  pub version_room : spare old.versions ≤ spare new.versions
  pub modseq_room : old.entries.modseq_room ≤ new.entries.modseq_room
  pub latest : new.entries.latest ≤ old.entries.latest

-- The operation is applied next after the list that the folder's numbers are up to, the folder
-- exists afterwards, and the chart has room for it.
pub record Advances (start : Counters) (folder : List ℕ) (value : Contents) (list : List Op)
    (o : Op) (c : Chart) : Type 0 where
  pub first : 1 ≤ start.uid
  pub applied : IsApplied (list ++ o ∷ [])
  pub made : IsMadeBy value (list ++ o ∷ [])
  pub about : kind_names_folder folder o.kind ≡ true
  pub exists_now : folder_exists folder (list ++ o ∷ []) ≡ true
  pub not_exhausted : IsExhausted start list o → ⊥
  pub shows : IsChart start folder list c.uidnext c.highest c.entries.entries
  pub latest : c.entries.latest ≤ c.highest
  pub versions : AreVersions folder list (origin_at c.versions.entries)
  pub roomy : IsRoomy (added_origin o) 1 (modseqs_by o) c
