use Rattle.std.proofs.Common.{◌≡◌, drop}
use Rattle.std.specs.List.{fold}
use Rattle.crdt_ops.specs.SortedSets.{id_order, sorted_set, insert_ordered}
use Rattle.folder_state.proofs.folder_lists.ids_in_order.Given as goal

abbrev pub invariant-loop-id : goal.invariant-loop-id
invariant-loop-id l = fold (λ done id. insert_ordered id_order id done) l.ids (drop l.id-index l.list) ≡ sorted_set id_order l.list
