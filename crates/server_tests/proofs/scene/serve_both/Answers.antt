use denote.Param.Send.{IsSend, IsSync, sendable, recorded_sync, struct_sync}
use denote.RattleType.{RattleType}
use denote.Ref.{NamedLft}
use denote.Struct.Declared.{shape}
use Rattle.std.proofs.alloc.Global.TheSendSync as heap
use Rattle.std.specs.declared.sync.ledger.Ledger as ledger
use Rattle.replica_lock.proofs.ThreadLemmas.{shared_sync}
use Rattle.replica_lock.proofs.pass.Pass.TheSendSync as pass
use Rattle.server_runtime.proofs.server_state.ServerState.TheSendSync as state
use Rattle.server_tests.proofs.gates.Signs.TheSendSync as signs
use Rattle.server_tests.proofs.scene.Hold.TheSendSync as hold
use Rattle.server_tests.proofs.scene.Side.TheSendSync as side
use Rattle.server_tests.specs.contracts.scene.Setup as setup
use Rattle.server_tests.proofs.scene.serve_both.Goals as goal

module _ (a : NamedLft) (L M : RattleType) (g : ledger.Ghosts L.Denot) (h : ledger.Ghosts M.Denot) where
  stage_sync : IsSend L → IsSync L → IsSend M → IsSync M → IsSync (setup.the_row a L M g h)
  stage_sync one shares other others = recorded_sync (setup.the_field a L M g h).row _ _ (setup.the_type a L M g h).to_one
      (struct_sync (shape (setup.the_type a L M g h)) (
        search (state.the_sync, sendable),
        (search (shared_sync, sendable), (search (shared_sync, sendable), (search (signs.the_sync, sendable), (search (hold.the_sync, sendable), tt)))),
      ))

pub join-requires-send-F : goal.join-requires-send-F
join-requires-send-F g c κs within = search (stage_sync, pass.the_send, side.the_send, side.the_field_send, heap.the_sync, sendable) depth 60 fits 20000
