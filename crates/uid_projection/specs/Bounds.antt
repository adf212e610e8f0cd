-- The bounds of a replica's numbers (RFC 9051, section 2.3.1.1; RFC 7162, section 3.1), and when
-- the rows of a listing can be written as text.

use Rattle.std.specs.Prelude.{◌≡◌, ℕ, ◌+◌, ◌<◌, ◌≤◌, ◌^◌, List, [], length, Some}
use Rattle.crdt_ops.specs.declared.kind.Kind.{Kind}
use Rattle.crdt_ops.specs.declared.kind.Kind.TheVariants.{Append}
use Rattle.crdt_ops.specs.declared.op.Op.{Op}
use Rattle.crdt_ops.specs.Form.{HasWords, IsInForm}
use Rattle.imap_types.specs.DateTimes.{IsDateTime}
use Rattle.mailbox_rows.specs.ListedMessage.{ListedMessage}
use Rattle.mailbox_rows.specs.RowViews.{AreRisingRows}
use Rattle.merge_laws.specs.Orders.{IsIn}
use Rattle.uid_projection.specs.declared.first_numbers.Counters.{Counters}
use Rattle.uid_projection.specs.Applied.{IsApplied}
use Rattle.uid_projection.specs.Exhaustion.{Exhausts}
use Rattle.uid_projection.specs.Incarnations.{uidvalidity_of}
use Rattle.uid_projection.specs.UidsAndModSeqs.{highest_modseq_of, uidnext_of}
use Rattle.uid_projection.specs.Listing.{listing}

-- The first numbers that a replica's counters can begin with: a replica's number of 16 bits and a
-- UID of 32 bits, both at least 1.
pub record IsLawfulStart (start : Counters) : Type 0 where
  pub named : 1 ≤ start.replica
  pub replica : start.replica ≤ 65535
  pub first : 1 ≤ start.uid
  pub uid : start.uid ≤ 4294967295

-- A list that a replica with these first numbers may have applied: no counter was used up by any of
-- its operations.
pub record IsLasting (start : Counters) (ops : List Op) : Type 0 where
  pub applied : IsApplied ops
  pub not_exhausted : Exhausts start [] ops → ⊥

-- A row's numbers are at least 1; its UID is below UIDNEXT, and its mod-sequence is at most one
-- more than the number of operations.
pub record IsRowWithin (uidnext count : ℕ) (row : ListedMessage) : Type 0 where
  pub uid_from : 1 ≤ row.uid
  pub uid : row.uid < uidnext
  pub modseq_from : 1 ≤ row.modseq
  pub modseq : row.modseq ≤ 1 + count

-- A folder's numbers are at least 1 and fit in their bits, and its rows ascend (RFC 9051, section
-- 2.3.1.1; RFC 7162, section 3.1).
pub record HasBounds (start : Counters) (folder : List ℕ) (ops : List Op) : Type 0 where
  pub uidnext_from : 1 ≤ uidnext_of start folder ops
  pub uidnext : uidnext_of start folder ops ≤ 4294967295
  pub highest_from : 1 ≤ highest_modseq_of folder ops
  pub highest : highest_modseq_of folder ops ≤ 1 + length ops
  pub validity_from : (uidvalidity : ℕ)
      → uidvalidity_of start folder ops ≡ Some uidvalidity
      → 1 ≤ uidvalidity
  pub validity : (uidvalidity : ℕ)
      → uidvalidity_of start folder ops ≡ Some uidvalidity
      → uidvalidity ≤ 4294967295
  pub rising : AreRisingRows 1 (listing start folder ops)
  pub rows : (row : ListedMessage)
      → IsIn row (listing start folder ops)
      → IsRowWithin (uidnext_of start folder ops) (length ops) row

-- The number of octets that the operation appends fits in 64 bits.
abbrev pub IsCountable : Kind → Type 0
IsCountable (Append folder flags date text) = length text < 2 ^ 64
IsCountable _ = Unit {0}

-- Each operation can be written as text, and the number of octets that it appends fits in 64 bits.
abbrev pub AreWritable : List Op → Type 0
AreWritable ops = (op : Op) → IsIn op ops → IsInForm op × IsCountable op.kind

-- A row can be written as text: its keywords are atoms in their one spelling, its date is a
-- date-time, and the number of its text's octets fits in 64 bits.
pub record IsWritableRow (row : ListedMessage) : Type 0 where
  pub flags : HasWords row.flags
  pub date : IsDateTime row.date
  pub text : length row.text < 2 ^ 64
