-- The state shared by the threads of a connection, and by those of a replica, may be shared among threads.
use denote.Param.Send.{IsSend, IsSync, sendable, recorded_sync, struct_sync}
use denote.RattleType.{RattleType}
use denote.Ref.{NamedLft}
use denote.Struct.Declared.{shape}
use Rattle.std.proofs.Crossing.{Vec-send}
use Rattle.std.proofs.option.Option.TheSendSync as option
use Rattle.std.proofs.sync.Mutex.TheSendSync as mutex
use Rattle.std.specs.contracts.alloc.Global as heap
use Rattle.std.specs.contracts.impls.GlobalAllocator.TheImpl.{ghosts}
use Rattle.std.specs.contracts.sync.Mutex as locked
use Rattle.std.specs.contracts.vec.Vec as list
use Rattle.std.specs.declared.sync.ledger.Ledger as ledger
use Rattle.replica_lock.proofs.ThreadLemmas.{book_send, shared_sync}
use Rattle.replica_lock.proofs.pass.Pass.TheSendSync as passes
use Rattle.replica_lock.specs.contracts.pass.Pass as pass
use Rattle.server_runtime.proofs.server_state.ServerState.TheSendSync as server
use Rattle.server_runtime.proofs.replica_store.ReplicaStore.TheSendSync as store
use Rattle.server_runtime.proofs.replica_threads.ThreadSetup.TheSendSync as setup
use Rattle.server_runtime.proofs.connection_threads.Protocol.TheSendSync as protocol
use Rattle.server_runtime.proofs.connection_threads.SessionPasses.TheSendSync as session
use Rattle.server_runtime.proofs.shared_phase.SharedPhase.TheSendSync as phase
use Rattle.server_runtime.proofs.client_state.ClientConnection.TheSendSync as client
use Rattle.server_runtime.proofs.replica_clients.ReplicaClients.TheSendSync as clients
use Rattle.server_runtime.proofs.connection_demand.ConnectionDemand.TheSendSync as demand
use Rattle.server_runtime.proofs.replica_threads.AcceptedConnection.TheSendSync as accepted
use Rattle.server_runtime.proofs.replica_threads.OpenGate.TheSendSync as open_gate
use Rattle.server_runtime.proofs.replica_threads.ReplicaInputs.TheSendSync as ends
use Rattle.server_runtime.specs.contracts.replica_threads.SetupSlot as slot
use Rattle.server_runtime.specs.contracts.connection_threads.ReplicaContext as context
use Rattle.server_runtime.specs.contracts.replica_threads.AcceptedConnection as accepted_row
use Rattle.server_runtime.specs.contracts.replica_threads.OpenGate as gate
use Rattle.server_runtime.specs.contracts.connection_threads.ConnectionContext as connection
use Rattle.server_runtime.specs.contracts.linked_replica.LinkedReplica as linked
use Rattle.server_runtime.specs.contracts.replica_threads.ServedReplica as served

module _ (L : RattleType) (g : ledger.Ghosts L.Denot) where
  pub pass_shared : IsSync (locked.the_row (pass.the_row L g))
  pass_shared = mutex.the_sync _ (passes.the_send L g)

  pub returned_shared : IsSync (locked.the_row (list.the_row (pass.the_row L g) heap.the_row ghosts))
  returned_shared = mutex.the_sync _ (Vec-send _ (passes.the_send L g))

  pub accepted_shared : IsSync (locked.the_row (list.the_row (accepted_row.the_row L gate.the_row g) heap.the_row ghosts))
  accepted_shared = mutex.the_sync _ (Vec-send (accepted_row.the_row L gate.the_row g) (search (accepted.the_send, accepted.the_field_send, client.the_send, client.the_sync, open_gate.the_send, open_gate.the_field_send, session.the_send, session.the_field_send, protocol.the_send, option.the_field_send, passes.the_send, sendable) depth 30 fits 20000))

module _ (a : NamedLft) (L : RattleType) (g : ledger.Ghosts L.Denot) where
  pub context_sync : IsSend L → IsSync L → IsSync (context.the_row a L g)
  context_sync ledger shares = recorded_sync (context.the_field a L g).row _ _ (context.the_type a L g).to_one
      (struct_sync (shape (context.the_type a L g))
      (search (server.the_sync, sendable), (search sendable, (search (shared_sync, sendable), (search (option.the_field_sync, store.the_sync, sendable) depth 30 fits 20000, (search (clients.the_sync, sendable), tt))))))

  pub connection_sync : IsSend L → IsSync L → IsSync (connection.the_row a L g)
  connection_sync ledger shares = recorded_sync (connection.the_field a L g).row _ _ (connection.the_type a L g).to_one
      (struct_sync (shape (connection.the_type a L g))
      (search (context_sync, sendable), (search (client.the_sync, sendable), (search (pass_shared, sendable), (search (protocol.the_sync, sendable), (search (mutex.the_sync, option.the_field_send, passes.the_send, sendable) depth 30 fits 20000, (search (phase.the_sync, sendable), tt)))))))

  pub served_sync : IsSend L → IsSync L → IsSync (served.the_row a L g)
  served_sync ledger shares = recorded_sync (served.the_field a L g).row _ _ (served.the_type a L g).to_one
      (struct_sync (shape (served.the_type a L g)) (search (context_sync, sendable), (search (ends.the_sync, sendable), (search (returned_shared, sendable), (search (accepted_shared, sendable), (search (demand.the_sync, sendable), tt))))))

module _ (a : NamedLft) (L R : RattleType) (g : ledger.Ghosts L.Denot) where
  pub linked_sync : IsSend L → IsSync L → IsSync R → IsSync (linked.the_row a L R g)
  linked_sync ledger shares runs = recorded_sync (linked.the_field a L R g).row _ _ (linked.the_type a L R g).to_one
      (struct_sync (shape (linked.the_type a L R g))
      (search sendable, (search sendable, (search (context_sync, sendable), (search (pass_shared, sendable), tt)))))

module _ (a : NamedLft) where
  pub slot_sync : IsSync (slot.the_row a)
  slot_sync = recorded_sync (slot.the_field a).row _ _ (slot.the_type a).to_one
      (struct_sync (shape (slot.the_type a))
      (search sendable, (search (mutex.the_sync, option.the_field_send, setup.the_send, setup.the_field_send, sendable) depth 30, (search (mutex.the_sync, option.the_field_send, book_send, sendable) depth 30, tt))))
