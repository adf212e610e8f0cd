use Rattle.std.proofs.Common.{◌∙◌, ℕ, None, [], ap, subst, sym}
use Rattle.imap_node.specs.Operations.{id_of}
use Rattle.replica_lock.specs.Histories.{BookState}
use Rattle.replica_lock.specs.JoinedBook.{IsJoinFault, joined_book}
use Rattle.uid_projection.specs.Exhaustion.{Exhausts}
use Rattle.uid_projection.specs.declared.first_numbers.Counters.{Counters}
use Rattle.causal_inbox.specs.OwnIds.{IsLeastOwn}
use Rattle.replica_lock.proofs.book.Book.join.Goals as goal

pub returns-in-Err : goal.returns-in-Err
returns-in-Err c =
    let name = ap (λ (b : BookState). b.node.start.replica) c.in-Ok.ensures in
    subst (λ (n : ℕ). IsJoinFault n c.args.ops.now c.in-Err.fault) name
    (c.in-Err.ensures.fault (subst (λ (n : ℕ). IsLeastOwn id_of n c.args.ops.now None) (sym name) c.in_default.ensures))

pub returns : goal.returns
returns c =
    let joined = (c.in_default-take_all.ensures {u = tt}).ok in (
      joined.0 ∙ ap (λ (b : BookState). joined_book b.node.start.replica c.args.ops.now) c.in-Ok.ensures,
      c.in_default.ensures,
      joined.1,
      subst (λ (s : Counters). ¬ Exhausts s [] c.args.ops.now) (ap (λ (b : BookState). b.node.start) c.in-Ok.ensures) joined.2,
    )
