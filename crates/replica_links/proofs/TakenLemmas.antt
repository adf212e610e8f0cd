use Rattle.std.proofs.Common.{◌≡◌, Option, Some, inl, ap, ◌∙◌}
use Rattle.crdt_ops.specs.declared.op.Op.{Op}
use Rattle.replica_links.specs.Links.{IsTakenBy, intake_of}
use Rattle.replica_links.specs.declared.took.Took.{Took}
use Rattle.replica_lock.specs.Passes.{PassState, IsCalled}
use Rattle.replica_lock.specs.declared.event.BookEvent.TheVariants.{Deliver}
use Rattle.replica_lock.specs.declared.outcome.Outcome.{Outcome}

-- an operation was taken by a call, and the pass has the call's outcome
pub taken_by : (p : PassState) (op : Op) (took : Took) (q : PassState) (last : Option Outcome) → IsCalled p (Deliver op) q → last ≡ q.last → ((outcome : Outcome) → last ≡ Some outcome → took ≡ intake_of outcome) → IsTakenBy p op took q
taken_by p op took q last c e h =
    let noted : q.last ≡ Some c.2 = ap (λ (x : PassState). x.last) c.6 in
    inl (c, (c.2, noted, h c.2 (e ∙ noted)))
