use Rattle.std.proofs.Common.{take}
use Rattle.merge_laws.specs.Orders.{IsIn}
use Rattle.replica_lock.specs.Histories.{BookState}
use Rattle.server_laws.specs.Interleavings.{HasHistory}
use Rattle.server_laws.proofs.books.books_keep_the_headline.Given as goal

abbrev pub invariant-loop-book : goal.invariant-loop-book
invariant-loop-book l = (book : BookState) → IsIn book (take l.book-index l.books) → HasHistory book
