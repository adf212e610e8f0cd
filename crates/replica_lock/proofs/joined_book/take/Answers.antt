use Rattle.std.proofs.Common.{subst}
use Rattle.std.specs.Prelude.{IfErr, OnOk, List, [], ◌∷◌, ◌≡◌}
use Rattle.crdt_ops.specs.declared.op.Op.{Op}
use Rattle.imap_node.specs.Operations.{clock_of, id_of}
use Rattle.merge_laws.specs.Orders.{IsRipe}
use Rattle.replica_lock.specs.JoinedBook.{IsApplyFault, book_with_op}
use Rattle.uid_projection.specs.Exhaustion.{Exhausts}
use Rattle.replica_lock.proofs.joined_book.take.Goals as goal

pub returns-clause-ok : goal.returns-clause-ok
returns-clause-ok c =
    let old = c.args.book.now in
    subst (λ (op : Op). OnOk c.deliver.result ((c.deliver.new.book ≡ book_with_op old op) × IsRipe id_of clock_of old.node.applied op × (¬ Exhausts old.node.start old.node.applied (op ∷ []))))
    c.in-Ok.ensures c.deliver.ensures.ok

pub returns-clause-fault : goal.returns-clause-fault
returns-clause-fault c = subst (λ (op : Op). IfErr c.deliver.result (IsApplyFault c.args.book.now.node op)) c.in-Ok.ensures c.deliver.ensures.fault
