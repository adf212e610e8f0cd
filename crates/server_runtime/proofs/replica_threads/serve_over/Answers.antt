use denote.Param.Send.{sendable}
use Rattle.std.proofs.alloc.Global.TheSendSync as heap
use Rattle.server_runtime.proofs.ThreadLemmas.{context_sync}
use Rattle.server_runtime.proofs.replica_threads.serve_over.Goals as goal

pub map_vec-requires-sync-F : goal.map_vec-requires-sync-F
map_vec-requires-sync-F g c κs within = search (context_sync, heap.the_sync, sendable) depth 60 fits 20000
