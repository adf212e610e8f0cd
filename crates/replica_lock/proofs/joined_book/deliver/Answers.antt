use Rattle.std.proofs.Common.{◌∙◌, ap, refl}
use Rattle.replica_lock.specs.JoinedBook.{join_fault_of}
use Rattle.replica_lock.proofs.JoinLemmas.{take_err, take_ok, take_written}
use Rattle.replica_lock.proofs.joined_book.deliver.Goals as goal

pub returns-clause-ok : goal.returns-clause-ok
returns-clause-ok c =
    let old = c.args.book.now in
    let new = c.step.new.self in
    let outcome = c.in-Ok.outcome in
    take_written old new c.args.op c.args.op outcome c.join_fault_of-checked.result refl c.in-Ok.ensures.entry c.step.ensures.forgotten_count
    (take_ok old.node c.args.op c.requires outcome new.node c.in-Ok.ensures.step c.join_fault_of-checked.result (c.join_fault_of-checked.ensures ∙ ap (λ i. join_fault_of i outcome) c.id-id.ensures))

pub returns-clause-fault : goal.returns-clause-fault
returns-clause-fault c =
    let old = c.args.book.now in
    let new = c.step.new.self in
    let outcome = c.in-Ok.outcome in
    take_err old.node c.args.op c.requires outcome new.node c.in-Ok.ensures.step c.join_fault_of-checked.result (c.join_fault_of-checked.ensures ∙ ap (λ i. join_fault_of i outcome) c.id-id.ensures)
