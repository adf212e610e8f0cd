-- The entries of a replica's log: what its lines say.

use Rattle.std.specs.Prelude.{◌≡◌, ℕ, ◌≤◌, Bool, true, false, if◌then◌else◌, List, [], ◌∷◌, ◌++◌}
use Rattle.std.specs.Prelude.{codes, map}
use Rattle.std.specs.Fmt.{decimal}
use Rattle.crdt_ops.specs.Form.{IsInForm}
use Rattle.crdt_ops.specs.Sound.{IsSound}
use Rattle.crdt_ops.specs.Text.{op_text}
use Rattle.crdt_ops.specs.declared.op.Op.{Op}
use Rattle.text_fields.specs.Fields.{IsReplica}
use Rattle.op_log.specs.Lines.{log_of}
use Rattle.op_log.specs.declared.entry.Entry.{Entry}
use Rattle.op_log.specs.declared.entry.Entry.TheVariants.{Begin, Apply, Commit}

-- The text of an entry.
abbrev pub entry_text : Entry → List ℕ
entry_text (Begin replica) = codes "log 1 " ++ decimal replica
entry_text (Apply op) = codes "op " ++ op_text op
entry_text (Commit synced) = codes "commit " ++ decimal synced

-- The lines of entries.
abbrev pub lines_of : List Entry → List ℕ
lines_of entries = log_of (map entry_text entries)

-- A log may have this entry: its operation is sound and has a text, its numbers are in range.
abbrev pub IsLawful : Entry → Type 0
IsLawful (Begin replica) = IsReplica replica
IsLawful (Apply op) = IsSound op × IsInForm op
IsLawful (Commit synced) = synced ≤ 18446744073709551615

-- Each of them is an entry that a log may have.
abbrev pub AreLawful : List Entry → Type 0
AreLawful [] = Unit {0}
AreLawful (entry ∷ entries) = IsLawful entry × AreLawful entries

-- The entry's operation, if it has one, before others.
abbrev pub with_op_before : Entry → List Op → List Op
with_op_before (Begin replica) ops = ops
with_op_before (Apply op) ops = op ∷ ops
with_op_before (Commit synced) ops = ops

-- The operations of entries, in their order.
abbrev pub ops_of : List Entry → List Op
ops_of [] = []
ops_of (entry ∷ entries) = with_op_before entry (ops_of entries)

-- Whether an entry ends a batch.
abbrev pub is_commit : Entry → Bool
is_commit (Begin replica) = false
is_commit (Apply op) = false
is_commit (Commit synced) = true

-- An entry before committed ones; if there are none, only a commit is committed.
abbrev pub with_entry_before : Entry → List Entry → List Entry
with_entry_before entry [] = if is_commit entry then entry ∷ [] else []
with_entry_before entry (next ∷ entries) = entry ∷ next ∷ entries

-- The entries up to the last commit: whole batches.
abbrev pub committed_entries : List Entry → List Entry
committed_entries [] = []
committed_entries (entry ∷ entries) = with_entry_before entry (committed_entries entries)

-- The last entry, if any, is a commit.
abbrev pub EndsWithCommit : List Entry → Type 0
EndsWithCommit entries = committed_entries entries ≡ entries
