use Rattle.std.proofs.Common.{◌++◌, List, append-nil, ap, sym, ◌∙◌}
use Rattle.crdt_ops.specs.declared.op.Op.{Op}
use Rattle.imap_node.specs.Mailboxes.{mail_state}
use Rattle.imap_node.proofs.ReportLemmas.{empty_by_length}
use Rattle.imap_node.proofs.replica_after.ReplicaAfterReplicaMail.is_unchanged.Goals as goal

pub returns : goal.returns
returns c = λ t.
    let replica = c.args.self.now.replica.now in
    let ops = c.args.self.now.ops.now in
    ap (λ (more : List Op). mail_state replica.start (replica.applied ++ more)) (empty_by_length ops (sym c.is_empty.ensures ∙ t))
    ∙ ap (λ (all : List Op). mail_state replica.start all) (append-nil replica.applied)
