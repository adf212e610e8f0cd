-- A message as a mailbox's listing shows it (RFC 9051, section 2.3; RFC 7162, section 3.1).

use Rattle.std.specs.Prelude.{ℕ, List}
use Rattle.imap_types.specs.declared.flags.Flags.{Flags}
use Rattle.tags_clocks.specs.declared.id.OpId.{OpId}

-- A message of a mailbox's listing: its UID, its mod-sequence, its origin (the id of its Append),
-- the ids of its versions' tags (ascending, one at least), the union of their flags, its date and
-- text.
pub record ListedMessage : Type 0 where
  pub uid : ℕ
  pub modseq : ℕ
  pub origin : OpId
  pub versions : List OpId
  pub flags : Flags
  pub date : List ℕ
  pub text : List ℕ

-- A message of a listing without its origin, date and text.
pub record ListedHead : Type 0 where
  pub uid : ℕ
  pub modseq : ℕ
  pub versions : List OpId
  pub flags : Flags
