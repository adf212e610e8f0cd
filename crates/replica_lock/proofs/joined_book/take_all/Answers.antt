use Rattle.replica_lock.specs.JoinedBook.{IsJoinFault}
use Rattle.replica_lock.proofs.JoinLemmas.{if_err_of_equal, joined_book_next, join_fault_at}
use Rattle.replica_lock.proofs.joined_book.take_all.Goals as goal

pub returns-in_err-take-clause-fault : goal.returns-in_err-take-clause-fault
returns-in_err-take-clause-fault c = λ none.
    if_err_of_equal c.from_residual.result _ (IsJoinFault c.args.book.now.node.start.replica c.args.ops.now) c.from_residual.ensures.1
    (join_fault_at c.args.book.now.node.start.replica c.args.ops.now c.loop-op.op-index c.op-item.result c.loop-op-test.true c.op-item.is c.loop-op.book c.loop-op.invariant _ c.in_err-take.ensures.fault none)

pub loop-op-preserved : goal.loop-op-preserved
loop-op-preserved c =
    let next = c.in_ok-take.ensures.ok in
    joined_book_next c.args.book.now.node.start.replica c.args.ops.now c.loop-op.op-index c.op-item.result c.loop-op-test.true c.op-item.is c.loop-op.book c.loop-op.invariant c.take.new.book next.0 next.1 next.2
