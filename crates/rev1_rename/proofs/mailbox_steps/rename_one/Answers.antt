use Rattle.std.proofs.Common.{[], ◌∷◌, ◌++◌, refl}
use Rattle.rev1_rename.specs.Steps.{IsDeletion, IsRenaming}
use Rattle.rev1_rename.proofs.CallLemmas.{at_fault, exchanges_append, on_ok_map}
use Rattle.rev1_rename.proofs.DeleteLemmas.{emptied_then_deleted, nothing_deleted}
use Rattle.rev1_rename.proofs.mailbox_steps.rename_one.Goals as goal

pub returns-in_err-empty : goal.returns-in_err-empty
returns-in_err-empty g c =
    let it = c.empty.ensures in
    (it.0, it.1, nothing_deleted (c.args.mailbox.now ∷ []) [] it.0 it.2, at_fault c.from_residual.result _ _ c.from_residual.ensures.1)

pub returns : goal.returns
returns g c =
    let m = c.args.mailbox.now in
    let first = c.in_ok-empty.ensures in
    let then = c.delete_old.ensures in (
      first.0 ++ then.0,
      exchanges_append first.0 then.0 c.args.pass.now c.empty.new.pass c.delete_old.new.pass first.1 then.1,
      emptied_then_deleted m first.0 then.0 first.3 first.2 then.2,
      on_ok_map c.delete_old.result (IsDeletion m then.0) (IsRenaming m (first.0 ++ then.0)) then.3 (λ d. (first.0, then.0, first.3, d, refl)),
    )
