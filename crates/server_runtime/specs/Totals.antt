-- What a replica served, as counts over its whole history.

use Rattle.std.specs.Prelude.{◌≡◌, List, ◌++◌, length}
use Rattle.std.specs.List.{filter}
use Rattle.replica_lock.specs.Histories.{BookState, IsPast, entry_count, has_opened, is_command}
use Rattle.replica_lock.specs.declared.book.JournalEntry.{JournalEntry}
use Rattle.server_runtime.specs.declared.totals.Totals.{Totals}

-- What a replica served: the numbers of operations applied, of entries ever made and of those that
-- were forgotten; and over a whole history of the book, forgotten entries included, the numbers of
-- sessions opened and of commands.
pub record AreTotals (book : BookState) (totals : Totals) : Type 0 where
  pub operations : totals.operations ≡ length book.node.applied
  pub entries : totals.entries ≡ entry_count book
  pub forgotten_count : totals.forgotten_count ≡ book.forgotten_count
  pub history : (past : List JournalEntry) × IsPast book past
      × (totals.sessions ≡ length (filter has_opened (past ++ book.journal)))
      × (totals.commands ≡ length (filter is_command (past ++ book.journal)))
