use denote.Param.Send.{IsSend, IsSync, sendable, recorded_sync, struct_sync}
use denote.RattleType.{RattleType}
use denote.Ref.{NamedLft}
use denote.Struct.Declared.{shape}
use Rattle.std.specs.declared.sync.ledger.Ledger as ledger
use Rattle.replica_lock.proofs.ThreadLemmas.{shared_sync}
use Rattle.replica_lock.proofs.pass.Pass.TheSendSync as pass
use Rattle.link_tests.proofs.channels.Channels.TheSendSync as channels
use Rattle.link_tests.specs.contracts.caller.Replica as replica
use Rattle.link_tests.proofs.scene.run_both.Goals as goal

module _ (a : NamedLft) (L R : RattleType) (g : ledger.Ghosts L.Denot) where
  replica_sync : IsSend L → IsSync L → IsSync R → IsSync (replica.the_row a L R g)
  replica_sync ledger shares waits = recorded_sync (replica.the_field a L R g).row _ _ (replica.the_type a L R g).to_one
      (struct_sync (shape (replica.the_type a L R g)) (search (shared_sync, sendable), (search (channels.the_field_sync, sendable), tt)))

pub join-requires-send-F : goal.join-requires-send-F
join-requires-send-F g c κs within = search (replica_sync, pass.the_send, sendable) depth 60 fits 20000
