-- What is read of a log.

use Rattle.std.specs.Prelude.{◌≡◌, ◌≢◌, ℕ, List, ◌∷◌, ◌++◌, length, map}
use Rattle.op_log.specs.Entries.{AreLawful, IsLawful, committed_entries, entry_text, lines_of}
use Rattle.op_log.specs.Formats.{line_fault}
use Rattle.op_log.specs.Lines.{recovered_texts}
use Rattle.op_log.specs.declared.entry.Entry.{Entry}
use Rattle.op_log.specs.declared.recovery.LogFault.{LogFault}
use Rattle.op_log.specs.declared.recovery.LogFault.TheVariants.{NoMemory}

-- The texts of the log's whole lines are those of entries, of which these are the committed ones;
-- their lines are the log's first octets, and this is their number.
pub record IsRecovered (log : List ℕ) (entries : List Entry) (octets : ℕ) : Type 0 where
  pub all : List Entry
  pub texts : recovered_texts log ≡ map entry_text all
  pub lawful : AreLawful all
  pub entries_are : entries ≡ committed_entries all
  pub after : List ℕ
  pub split : log ≡ lines_of entries ++ after
  pub octets_are : octets ≡ length (lines_of entries)

-- After so many octets of the log, the lines of entries, follows a line with the checksum of this
-- text, which is the text of no entry.
pub record IsUnsoundLine (log : List ℕ) (octets : ℕ) (text : List ℕ) : Type 0 where
  pub front : List Entry
  pub back : List (List ℕ)
  pub texts : recovered_texts log ≡ map entry_text front ++ text ∷ back
  pub octets_are : octets ≡ length (lines_of front)
  pub none : (entry : Entry) → IsLawful entry → text ≢ entry_text entry

-- Why a log isn't read.
abbrev pub IsLogFault : List ℕ → LogFault → Type 0
IsLogFault log NoMemory = Unit {0}
IsLogFault log fault =
    (octets : ℕ) × (text : List ℕ) × IsUnsoundLine log octets text
    × (fault ≡ line_fault octets text)
