use denote.Param.Send.{sendable}
use Rattle.std.proofs.Common.{map, ◌∙◌, sym, subst, ℕ, ◌<◌}
use Rattle.std.proofs.lemmas.List.{length-map}
use Rattle.replica_lock.proofs.ThreadLemmas.{book_send}
use Rattle.std.proofs.alloc.Global.TheSendSync as heap
use Rattle.server_runtime.proofs.EndLemmas.{both_ok, ends_of_calls}
use Rattle.server_runtime.proofs.ThreadLemmas.{slot_sync}
use Rattle.server_runtime.proofs.server_state.ServerState.TheSendSync as server
use Rattle.server_runtime.proofs.replica_threads.run_all.Goals as goal

pub map_indices-requires-send-X : goal.map_indices-requires-send-X
map_indices-requires-send-X g c κs within = search (book_send, sendable) depth 60 fits 20000

pub map_indices-requires-sync-F : goal.map_indices-requires-sync-F
map_indices-requires-sync-F g c κs within = search (server.the_sync, slot_sync, heap.the_sync, sendable) depth 60 fits 20000

pub returns : goal.returns
returns g c = both_ok _ _ _ c.map_indices.result c.map_indices.ensures.len c.map_indices.ensures.each
    (λ ends count each. ends_of_calls (map (λ slot. slot.replica) c.args.slots.now) ends.items
    (sym ends.ok.0 ∙ count ∙ sym (length-map c.args.slots.now (λ slot. slot.replica)))
    (λ i name end inside named. (each i end (subst (λ (k : ℕ). i < k) (length-map c.args.slots.now (λ slot. slot.replica)) inside)).1.met name named))
