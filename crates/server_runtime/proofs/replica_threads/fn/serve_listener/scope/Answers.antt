use denote.Param.Send.{sendable}
use Rattle.std.proofs.alloc.Global.TheSendSync as heap
use Rattle.replica_lock.proofs.pass.Pass.TheSendSync as pass
use Rattle.server_runtime.proofs.ThreadLemmas.{pass_shared, served_sync}
use Rattle.server_runtime.proofs.replica_threads.fn.serve_listener.scope.Goals as goal

pub spawn-requires-send-F : goal.spawn-requires-send-F
spawn-requires-send-F g c κs within = search (served_sync, pass.the_send, heap.the_send, heap.the_field_send, sendable) depth 60 fits 20000

pub spawn-requires-in-Some-copy_pass-send-F : goal.spawn-requires-in-Some-copy_pass-send-F
spawn-requires-in-Some-copy_pass-send-F g c κs within = search (served_sync, pass.the_send, heap.the_send, heap.the_field_send, sendable) depth 60 fits 20000

pub spawn-requires-in-Some-process_pass-send-F : goal.spawn-requires-in-Some-process_pass-send-F
spawn-requires-in-Some-process_pass-send-F g c κs within = search (served_sync, pass.the_send, heap.the_send, heap.the_field_send, sendable) depth 60 fits 20000

pub spawn-requires-then-is_some-send-F : goal.spawn-requires-then-is_some-send-F
spawn-requires-then-is_some-send-F g c κs within = search (served_sync, heap.the_send, sendable) depth 60 fits 20000

pub spawn-requires-2-send-F : goal.spawn-requires-2-send-F
spawn-requires-2-send-F g c κs within = search (served_sync, heap.the_send, sendable) depth 60 fits 20000

pub spawn-requires-then-has_rev1-send-F : goal.spawn-requires-then-has_rev1-send-F
spawn-requires-then-has_rev1-send-F g c κs within = search (served_sync, pass_shared, heap.the_send, sendable) depth 60 fits 20000
