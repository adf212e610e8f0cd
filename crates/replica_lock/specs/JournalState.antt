-- A journal's entries, and the blocks that store them.

use Rattle.std.specs.Prelude.{ℕ, List, flat_map}
use Rattle.replica_lock.specs.declared.book.JournalEntry.{JournalEntry}
use Rattle.replica_lock.specs.declared.journal.Block.{Block}

-- The entries in order, and how many further entries can be appended without asking for memory.
pub record JournalState : Type 0 where
  pub items : List JournalEntry
  pub room : ℕ

-- The entries of all blocks, one after another.
abbrev pub entries_of : List Block → List JournalEntry
entries_of blocks = flat_map (λ block. block.entries.items) blocks
