-- The dump of a log, and the octet from which a log without one can't be read.

use Rattle.std.specs.Prelude.{◌≡◌, ◌⊎◌, ℕ, List, Some, drop, false, length, true}
use Rattle.crdt_ops.specs.Reading.{parts_at}
use Rattle.imap_connection.specs.Dumps.{IsDump}
use Rattle.op_log.specs.Damage.{has_commit_beyond}
use Rattle.op_log.specs.Entries.{lines_of, ops_of}
use Rattle.op_log.specs.Recovery.{IsRecovered, IsUnsoundLine}
use Rattle.op_log.specs.declared.entry.Entry.{Entry}
use Rattle.op_log.specs.declared.recovery.LogFault.{LogFault}
use Rattle.op_log.specs.declared.recovery.LogFault.TheVariants as reading
use Rattle.log_dump.specs.EntryOrder.{AreBeforeMisplaced, AreInTurn, first_name}
use Rattle.log_dump.specs.declared.fault.LogDumpFault.{LogDumpFault}
use Rattle.log_dump.specs.declared.fault.LogDumpFault.TheVariants.{NoMemory, Unreadable}

-- These are the log's committed entries, and no later commit says that more had been synced.
pub record IsUndamagedLog (log : List ℕ) (entries : List Entry) : Type 0 where
  pub octets : ℕ
  pub read : IsRecovered log entries octets
  pub undamaged : has_commit_beyond octets (parts_at 10 (drop octets log)) ≡ false

-- The lines of the log's committed entries are so many octets, and a later commit says that more
-- had been synced.
abbrev pub IsDamagedAt : List ℕ → ℕ → Type 0
IsDamagedAt log octets =
    (entries : List Entry) × IsRecovered log entries octets
    × (has_commit_beyond octets (parts_at 10 (drop octets log)) ≡ true)

-- The text is the dump of the replica whose log this is: of one that applied the operations of its
-- committed batches.
pub record IsLogDump (log text : List ℕ) : Type 0 where
  pub replica : ℕ
  pub entries : List Entry
  pub read : IsUndamagedLog log entries
  pub named : first_name entries ≡ Some replica
  pub in_turn : AreInTurn replica entries
  pub dump : IsDump replica (ops_of entries) text

-- After so many octets of the log a line can't be read: it has the checksum of its text, which is
-- the text of no entry; or the octets before it are the committed lines of a damaged log.
abbrev pub HasUnreadLineAt : List ℕ → ℕ → Type 0
HasUnreadLineAt log octets =
    ((text : List ℕ) × IsUnsoundLine log octets text) ⊎ IsDamagedAt log octets

-- After so many octets of an undamaged log follows the first of its committed lines that no log has
-- there.
abbrev pub HasMisplacedLineAt : List ℕ → ℕ → Type 0
HasMisplacedLineAt log octets =
    (entries front : List Entry) × IsUndamagedLog log entries × AreBeforeMisplaced entries front
    × (octets ≡ length (lines_of front))

-- A log can't be read after so many octets.
abbrev pub IsUnreadableAt : List ℕ → ℕ → Type 0
IsUnreadableAt log octets = HasUnreadLineAt log octets ⊎ HasMisplacedLineAt log octets

-- Why a log has no dump.
abbrev pub IsLogDumpFault : List ℕ → LogDumpFault → Type 0
IsLogDumpFault log NoMemory = Unit {0}
IsLogDumpFault log (Unreadable octets) = IsUnreadableAt log octets

-- ---- what the code reads, step by step

-- Why a log's entries aren't read.
abbrev pub IsReadFault : List ℕ → LogDumpFault → Type 0
IsReadFault log NoMemory = Unit {0}
IsReadFault log (Unreadable octets) = HasUnreadLineAt log octets

-- The fault of a log that isn't read.
abbrev pub dump_fault_of : LogFault → LogDumpFault
dump_fault_of (reading.Unsound octets) = Unreadable octets
dump_fault_of reading.LaterFormat = Unreadable 0
dump_fault_of reading.NoMemory = NoMemory
