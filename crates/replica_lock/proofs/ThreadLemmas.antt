-- A replica under its lock may be shared among threads; for its node this is in
-- `Rattle.imap_node.proofs.ThreadLemmas`.
use denote.RattleType.{RattleType}
use denote.Param.Send.{IsSend, IsSync, sendable, view_send, recorded_send, recorded_sync, struct_send, struct_sync}
use denote.Struct.Declared.{shape}
use Rattle.std.proofs.sync.Condvar.TheSendSync as condvar
use Rattle.std.proofs.sync.Mutex.TheSendSync as mutex
use Rattle.std.proofs.sync.ledger.Book.TheSendSync as calls
use Rattle.std.specs.declared.sync.ledger.Ledger as ledger
use Rattle.imap_node.proofs.ThreadLemmas.{node_send}
use Rattle.replica_lock.proofs.session_signals.SessionSignals.TheSendSync as signals
use Rattle.replica_lock.proofs.journal.Journal.TheSendSync as journal
use Rattle.replica_lock.specs.contracts.book.Book as book
use Rattle.replica_lock.specs.contracts.book.Book.TheInside as book_inside
use Rattle.replica_lock.specs.contracts.counted_book.CountedBook as locked
use Rattle.replica_lock.specs.contracts.counted_book.CountedBook.TheInside as counted_inside
use Rattle.replica_lock.specs.contracts.shared.Shared as shared

pub book_send : IsSend book.the_row
book_send = view_send book_inside.the_row _ _ _ _
    (recorded_send (book_inside.the_field).row _ _ (book_inside.the_type).to_one
    (struct_send (shape book_inside.the_type) (node_send, (search sendable, (journal.the_send, (search sendable, (search sendable, (search sendable, (search sendable, tt)))))))))

module _ (L : RattleType) (g : ledger.Ghosts L.Denot) where
  locked_send : IsSend L → IsSend (locked.the_row L g)
  locked_send ledger = view_send (counted_inside.the_row L g) _ _ _ _
      (recorded_send (counted_inside.the_field L g).row _ _ (counted_inside.the_type L g).to_one
      (struct_send (shape (counted_inside.the_type L g)) (book_send, (search (calls.the_send, sendable), (search sendable, (search sendable, (search sendable, (search sendable, tt))))))))

  pub shared_send : IsSend L → IsSync L → IsSend (shared.the_row L g)
  shared_send ledger shares = recorded_send (shared.the_field L g).row _ _ (shared.the_type L g).to_one
      (struct_send (shape (shared.the_type L g)) (search (mutex.the_send, locked_send), (condvar.the_field_send, (signals.the_field_send, tt))))

  pub shared_sync : IsSend L → IsSync L → IsSync (shared.the_row L g)
  shared_sync ledger shares = recorded_sync (shared.the_field L g).row _ _ (shared.the_type L g).to_one
      (struct_sync (shape (shared.the_type L g)) (search (mutex.the_sync, locked_send), (condvar.the_field_sync, (signals.the_field_sync, tt))))
