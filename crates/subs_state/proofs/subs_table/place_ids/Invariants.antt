use Rattle.std.proofs.Common.{◌≡◌, drop}
use Rattle.std.specs.List.{fold}
use Rattle.crdt_ops.specs.SortedSets.{id_order, insert_ordered}
use Rattle.subs_state.proofs.subs_table.place_ids.Given as goal

abbrev pub invariant-loop-id : goal.invariant-loop-id
invariant-loop-id l =
    fold (λ done id. insert_ordered id_order id done) l.ids (drop l.id-index l.listed)
    ≡ fold (λ done id. insert_ordered id_order id done) l.fn.ids l.listed
