use Rattle.std.proofs.Common.{sym, subst}
use Rattle.merge_laws.specs.Orders.{IsIn}
use Rattle.crdt_ops.specs.SortedSets.{IsListOf, id_order}
use Rattle.crdt_ops.proofs.OrderLemmas.{id_order_same, id_order_total, in_order_lists}
use Rattle.folder_state.proofs.Listing.{folded}
use Rattle.folder_state.proofs.folder_lists.ids_in_order.Goals as goal

pub returns : goal.returns
returns c =
    let list = c.args.list.now in
    subst (IsListOf id_order (λ i. IsIn i list)) (sym (folded c.loop-id.ids list c.loop-id.id-index c.loop-id-test.false c.loop-id.invariant)) (in_order_lists id_order_total id_order_same list)
