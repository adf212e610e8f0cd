-- What a reader has of a log of a replica whose octets it was fed in pieces.

use Rattle.std.specs.Prelude.{◌≡◌, ◌⊎◌, ℕ, ◌≤◌, Bool, true, false, ◌&&◌, ◌||◌, ◌==◌, List, [], ◌∷◌}
use Rattle.std.specs.Prelude.{◌++◌, None, drop, if◌then◌else◌, length, map}
use Rattle.std.specs.Option.{option_or}
use Rattle.crdt_ops.specs.Reading.{cut_at}
use Rattle.op_log.specs.Entries.{AreLawful, committed_entries, entry_text, lines_of, ops_of}
use Rattle.op_log.specs.Lines.{recovered_texts}
use Rattle.op_log.specs.Recovery.{IsRecovered}
use Rattle.op_log.specs.Replicas.{has_first_line, other_replica}
use Rattle.op_log.specs.declared.entry.Entry.{Entry}
use Rattle.op_log.specs.declared.entry.Entry.TheVariants.{Apply, Begin, Commit}
use Rattle.op_log.specs.declared.lines_read.LineFacts.{LineFacts}
use Rattle.op_log.specs.declared.lines_read.LinesRead.{LinesRead}
use Rattle.op_log.specs.declared.reader.LogContents.{LogContents}
use Rattle.op_log.specs.declared.reader.LogReader.{LogReader}

-- These entries end with the commit of this number, if there are any.
abbrev pub EndWithNumber : List Entry → ℕ → Type 0
EndWithNumber entries synced =
    (entries ≡ []) ⊎ ((front : List Entry) × (entries ≡ front ++ Commit synced ∷ []))

-- The facts are those of the lines of these entries.
pub record AreFacts (replica : ℕ) (entries : List Entry) (facts : LineFacts) : Type 0 where
  pub octets : facts.octets ≡ length (lines_of entries)
  pub begins : facts.begins ≡ has_first_line entries
  pub other : facts.other ≡ other_replica replica entries

-- The facts of lines and of the next one, up to whose end there are so many octets.
abbrev pub facts_after : ℕ → LineFacts → Entry → ℕ → LineFacts
facts_after replica facts entry octets = record {
  octets = octets;
  begins = facts.begins || ((facts.octets == 0) && has_first_line (entry ∷ []));
  other = option_or facts.other (other_replica replica (entry ∷ []));
}

-- The number of octets of which the last commit says that they had been synced, after this entry.
abbrev pub number_after : Entry → ℕ → ℕ
number_after (Begin replica) before = before
number_after (Apply op) before = before
number_after (Commit synced) before = synced

-- The first lines of a log were read, and the rest remains.
pub record HasReadLines (replica : ℕ) (log rest : List ℕ) (lines : LinesRead) : Type 0 where
  pub all : List Entry
  pub texts : recovered_texts log ≡ map entry_text all ++ recovered_texts rest
  pub lawful : AreLawful all
  pub split : log ≡ lines_of all ++ rest
  pub replica_is : lines.replica ≡ replica
  pub ops : lines.ops.items ≡ ops_of all
  pub all_facts : AreFacts replica all lines.all
  pub committed_facts : AreFacts replica (committed_entries all) lines.committed
  pub op_count : lines.op_count ≡ length (ops_of (committed_entries all))
  pub synced : EndWithNumber (committed_entries all) lines.synced

-- No line is read of these octets: whatever follows them, if the reader has ended; else up to the
-- next line end (10).
abbrev pub IsRest : Bool → List ℕ → Type 0
IsRest true rest = (more : List ℕ) → recovered_texts (rest ++ more) ≡ []
IsRest false rest = cut_at 10 rest ≡ None

-- A reader was fed these octets, in whatever pieces: it has read all whole lines up to the first
-- whose checksum isn't that of its text, and has the octets from a place on that isn't after the
-- last commit.
pub record HasRead (replica : ℕ) (log : List ℕ) (reader : LogReader) : Type 0 where
  pub rest : List ℕ
  pub lines : HasReadLines replica log rest reader.lines
  pub is_rest : IsRest reader.ended rest
  pub kept : reader.kept.items ≡ drop reader.start log
  pub start : reader.start ≤ reader.lines.committed.octets

-- A reader has further octets, of which it hasn't read the rest: it reads on if it hasn't ended.
pub record HasFed (replica : ℕ) (log rest : List ℕ) (reader : LogReader) : Type 0 where
  pub lines : HasReadLines replica log rest reader.lines
  pub kept : reader.kept.items ≡ drop reader.start log
  pub start : reader.start ≤ reader.lines.committed.octets

-- What was read of a log: these are its committed entries, and the octets from a place on that
-- isn't after them.
pub record AreContents (replica : ℕ) (log : List ℕ) (entries : List Entry)
    (contents : LogContents) : Type 0 where
  pub read : IsRecovered log entries contents.octets
  pub ops : contents.ops.items ≡ ops_of entries
  pub begins : contents.begins ≡ has_first_line entries
  pub other : contents.other ≡ other_replica replica entries
  pub synced : EndWithNumber entries contents.synced
  pub kept : contents.kept.items ≡ drop contents.start log
  pub start : contents.start ≤ contents.octets
