use denote.Param.Send.{sendable}
use Rattle.std.proofs.alloc.Global.TheSendSync as heap
use Rattle.server_runtime.proofs.ThreadLemmas.{served_sync}
use Rattle.server_runtime.proofs.replica_threads.fn.accept_all.scope.Goals as goal

pub spawn-requires-send-F : goal.spawn-requires-send-F
spawn-requires-send-F g c κs within = search (served_sync, heap.the_send, sendable) depth 60 fits 20000
