-- Logs on devices: what was written and synced, what is found after a crash, and why a log isn't
-- opened.

use Rattle.std.specs.Prelude.{◌≡◌, ℕ, ◌+◌, ◌≤◌, true, false, List, [], ◌∷◌, ◌++◌, Option, Some}
use Rattle.std.specs.Prelude.{None, drop, if◌then◌else◌, length, map, min, nat_lt, take}
use Rattle.std.specs.Option.{option_map}
use Rattle.crdt_ops.specs.Form.{Each}
use Rattle.crdt_ops.specs.Reading.{parts_at}
use Rattle.crdt_ops.specs.declared.op.Op.{Op}
use Rattle.op_log.specs.Crashes.{BeginsWithWrittenLines, HasOnlyWrittenLines}
use Rattle.op_log.specs.Damage.{HasSyncedAtMost, has_commit_beyond}
use Rattle.op_log.specs.Entries.{AreLawful, EndsWithCommit, entry_text, lines_of, ops_of}
use Rattle.op_log.specs.Recovery.{IsLogFault, IsRecovered}
use Rattle.op_log.specs.declared.entry.Entry.{Entry}
use Rattle.op_log.specs.declared.entry.Entry.TheVariants.{Apply, Begin, Commit}
use Rattle.op_log.specs.declared.recovery.LogFault.TheVariants as log_faults
use Rattle.durable_log.specs.Devices.{DeviceState, IsPadded, are_zeros, with_octets_at}
use Rattle.durable_log.specs.Replicas.{has_first_line, other_replica}
use Rattle.durable_log.specs.declared.durable_log.DurableLog.{DurableLog}
use Rattle.durable_log.specs.declared.fault.StoreFault.{StoreFault}
use Rattle.durable_log.specs.declared.fault.StoreFault.TheVariants.{Damaged, Failed, LaterFormat}
use Rattle.durable_log.specs.declared.fault.StoreFault.TheVariants.{NoMemory, NoSpace}
use Rattle.durable_log.specs.declared.fault.StoreFault.TheVariants.{OtherReplica, Unsound}
use Rattle.durable_log.specs.declared.layout.LogLayout.{LogLayout}
use Rattle.durable_log.specs.declared.recovered_log.RecoveredLog.{RecoveredLog}

-- The entry of an operation.
abbrev pub entry_of_op : Op → Entry
entry_of_op op = Apply op

-- A batch: operations, and the commit that ends them.
abbrev pub batch_entries : List Op → ℕ → List Entry
batch_entries ops synced = map entry_of_op ops ++ Commit synced ∷ []

-- The entries of a new log.
abbrev pub first_entries : ℕ → List Entry
first_entries replica = Begin replica ∷ Commit 0 ∷ []

-- The batch to write so that the last commit says what was synced, if it says that fewer operations
-- were than are: the batch of no operation.
abbrev pub missing_commit : ℕ → ℕ → ℕ → List Entry
missing_commit said_count synced_count synced =
    if nat_lt said_count synced_count then batch_entries [] synced else []

-- The last commit says that so many operations at least had been synced: their lines are within the
-- octets that it names.
pub record SaysSynced (count : ℕ) (entries : List Entry) : Type 0 where
  pub front : List Entry
  pub octets : ℕ
  pub last : entries ≡ front ++ Commit octets ∷ []
  pub said : List Entry
  pub rest : List Entry
  pub split : entries ≡ said ++ rest
  pub within : length (lines_of said) ≤ octets
  pub counted : count ≡ length (ops_of said)

-- Of the octets of a log's lines, those which the last commit says had been synced are certain.
abbrev pub IsLastCommitCertain : List Entry → ℕ → Type 0
IsLastCommitCertain entries certain =
    (front : List Entry) (octets : ℕ) → entries ≡ front ++ Commit octets ∷ []
    → min octets (length (lines_of entries)) ≤ certain

-- A log of a replica works, on a device whose contents are known: these entries were written, of
-- which the first were synced. Whole batches were, and zeros follow the last, at least as many as
-- the log has room. The next sync syncs all lines.
pub record HasEntries {D : Type 0} (state : D → DeviceState) (replica : ℕ) (log : DurableLog D)
    (synced_entries entries : List Entry) : Type 0 where
  pub known : (state log.device).is_known ≡ true
  pub works : log.failed ≡ false
  pub octets : IsPadded (lines_of entries) (state log.device).contents
  pub synced_octets : IsPadded (lines_of synced_entries) (state log.device).synced
  pub certain : length (lines_of entries) ≤ (state log.device).certain
  pub written : log.written ≡ length (lines_of entries)
  pub room : log.written + log.room ≤ length (state log.device).contents
  pub count : log.synced ≡ length (lines_of synced_entries)
  pub op_count : log.op_count ≡ length (ops_of entries)
  pub synced_count : log.synced_count ≡ length (ops_of synced_entries)
  pub said_count : SaysSynced log.said_count entries
  pub unsynced : List Entry
  pub split : entries ≡ synced_entries ++ unsynced
  pub commits : Each (HasSyncedAtMost log.synced) unsynced
  pub lawful : AreLawful entries
  pub ends : EndsWithCommit entries
  pub synced_ends : EndsWithCommit synced_entries
  pub begins : has_first_line synced_entries ≡ true
  pub no_other : other_replica replica entries ≡ None

-- A crash may leave this log of a replica: the lines of the first entries had been synced, and
-- those of the others were being written. After the first, any octets may follow; checksums show
-- which whole lines among them were written there.
pub record IsCrashedLog (replica : ℕ) (synced unsynced : List Entry) (log : List ℕ) : Type 0 where
  pub synced_lawful : AreLawful synced
  pub unsynced_lawful : AreLawful unsynced
  pub ends : EndsWithCommit synced
  pub begins : has_first_line synced ≡ true
  pub no_other : other_replica replica (synced ++ unsynced) ≡ None
  pub commits : Each (HasSyncedAtMost (length (lines_of synced))) unsynced
  pub after : List ℕ
  pub split : log ≡ lines_of synced ++ after
  pub first_lines : BeginsWithWrittenLines (map entry_text unsynced) after
  pub only_lines : HasOnlyWrittenLines (map entry_text unsynced) after

-- The fault of a log whose committed entries have so many octets of lines: a later commit says that
-- more had been synced, the first line is missing, or a line names another replica.
abbrev pub entries_fault : ℕ → List Entry → ℕ → List ℕ → Option StoreFault
entries_fault replica entries octets rest =
    if has_commit_beyond octets (parts_at 10 rest) then Some (Damaged octets)
    else (if has_first_line entries
    then option_map OtherReplica (other_replica replica entries) else Some (Damaged 0))

-- Why a log of a replica isn't opened.
abbrev pub IsStoreFault : ℕ → List ℕ → StoreFault → Type 0
IsStoreFault replica log NoMemory = Unit {0}
IsStoreFault replica log Failed = Unit {0}
IsStoreFault replica log NoSpace = ⊥
IsStoreFault replica log LaterFormat = IsLogFault log log_faults.LaterFormat
IsStoreFault replica log (Unsound octets) = IsLogFault log (log_faults.Unsound octets)
IsStoreFault replica log fault =
    (entries : List Entry) × (octets : ℕ) × IsRecovered log entries octets
    × (entries_fault replica entries octets (drop octets log) ≡ Some fault)

-- The entries and their octets are those of a log of the replica that isn't damaged.
pub record IsSoundLog (replica : ℕ) (log : List ℕ) (entries : List Entry) (octets : ℕ) :
    Type 0 where
  pub read : IsRecovered log entries octets
  pub no_fault : entries_fault replica entries octets (drop octets log) ≡ None

-- What was found in the octets of a log: its committed entries, how many octets their lines have,
-- and whether only zeros follow; how many octets remain after these lines once anything but zeros
-- is cut off; and the octets of these lines from a place on that is certain if what the last commit
-- says is.
pub record IsLayout (replica : ℕ) (log : List ℕ) (entries : List Entry) (layout : LogLayout) :
    Type 0 where
  pub sound : IsSoundLog replica log entries layout.octets
  pub padded : layout.is_padded ≡ are_zeros (drop layout.octets log)
  pub within : layout.octets ≤ length log
  pub room : layout.octets + layout.room
      ≤ length (if layout.is_padded then log else take layout.octets log)
  pub place_within : layout.place ≤ length log
  pub place_certain : (certain : ℕ) → IsLastCommitCertain entries certain
      → layout.place ≤ certain
  pub rewritten : with_octets_at layout.place layout.unsynced.items log ≡ log
  pub unsynced_end : layout.place + length layout.unsynced.items ≡ layout.octets

-- These entries were recovered of a log on a device whose contents are known, to which nothing was
-- written since.
pub record IsRecoveredLog {D : Type 0} (state : D → DeviceState) (replica : ℕ)
    (log : RecoveredLog D) (entries : List Entry) : Type 0 where
  pub known : (state log.device).is_known ≡ true
  pub layout : IsLayout replica (state log.device).contents entries log.layout
  pub op_count : log.op_count ≡ length (ops_of entries)

-- A log was recovered, and these are its operations.
pub record HasOps {D : Type 0} (state : D → DeviceState) (replica : ℕ) (log : RecoveredLog D)
    (ops : List Op) : Type 0 where
  pub entries : List Entry
  pub recovered : IsRecoveredLog state replica log entries
  pub ops_are : ops ≡ ops_of entries
