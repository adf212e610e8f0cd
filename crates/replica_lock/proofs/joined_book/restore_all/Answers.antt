use Rattle.std.proofs.Common.{◌∙◌, ◌+◌, reverse}
use Rattle.replica_lock.specs.JoinedBook.{IsRestoreFault}
use Rattle.replica_lock.proofs.JoinLemmas.{all_reversed, fewer_left, if_err_of_equal, next_of_rest, next_of_reversed, restored_book_next, restored_book_none, restore_fault_at}
use Rattle.replica_lock.proofs.joined_book.restore_all.Goals as goal

pub returns-in_err-restore_op-clause-fault : goal.returns-in_err-restore_op-clause-fault
returns-in_err-restore_op-clause-fault c =
    let (i, left, book) = c.loop-op.invariant in
    let op = c.in-Some.op in
    let first = next_of_reversed c.args.ops.items c.loop-op.later.items c.take_last.new.later.items i c.take_last.result op left c.take_last.ensures.taken c.in-Some.is in
    let next = next_of_rest c.args.ops.items i op (reverse c.take_last.new.later.items) first in
    if_err_of_equal c.from_residual.result _ (IsRestoreFault c.args.book.now.node.start.replica c.args.ops.items) c.from_residual.ensures.1
    (restore_fault_at c.args.book.now.node.start.replica c.args.ops.items i op next.0 next.1 c.loop-op.book book _ c.in_err-restore_op.ensures.fault)

pub loop-op-init : goal.loop-op-init
loop-op-init c =
    (0, all_reversed c.args.ops.items c.reverse.new.self.items c.reverse.ensures.items, restored_book_none c.args.book.now.node.start.replica c.args.book.now c.requires)

pub loop-op-smaller : goal.loop-op-smaller
loop-op-smaller c = fewer_left c.loop-op.later.items c.take_last.new.later.items c.take_last.result c.in-Some.op c.take_last.ensures.taken c.in-Some.is

pub loop-op-preserved : goal.loop-op-preserved
loop-op-preserved c =
    let (i, left, book) = c.loop-op.invariant in
    let op = c.in-Some.op in
    let first = next_of_reversed c.args.ops.items c.loop-op.later.items c.take_last.new.later.items i c.take_last.result op left c.take_last.ensures.taken c.in-Some.is in
    let next = next_of_rest c.args.ops.items i op (reverse c.take_last.new.later.items) first in
    let ok = c.in_ok-restore_op.ensures.ok in
    (i + 1, next.2, restored_book_next c.args.book.now.node.start.replica c.args.ops.items i op next.0 next.1 c.loop-op.book book c.restore_op.new.book ok.0 ok.1 ok.2)
