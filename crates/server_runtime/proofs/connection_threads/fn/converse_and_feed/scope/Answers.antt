use denote.Param.Send.{sendable}
use Rattle.std.proofs.alloc.Global.TheSendSync as heap
use Rattle.server_runtime.proofs.ThreadLemmas.{connection_sync}
use Rattle.server_runtime.proofs.connection_threads.fn.converse_and_feed.scope.Goals as goal

pub spawn-requires-send-F : goal.spawn-requires-send-F
spawn-requires-send-F g c κs within = search (connection_sync, heap.the_sync, heap.the_send, heap.the_field_send, sendable) depth 60 fits 20000
