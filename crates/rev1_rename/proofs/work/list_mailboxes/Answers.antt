use Rattle.std.proofs.Common.{◌∷◌, [], refl}
use Rattle.rev1_rename.specs.Steps.{done}
use Rattle.rev1_rename.specs.Turns.{list_all}
use Rattle.rev1_rename.proofs.CallLemmas.{at_error}
use Rattle.rev1_rename.proofs.TurnLemmas.{listed, not_listed}
use Rattle.rev1_rename.proofs.work.list_mailboxes.Goals as goal

pub returns-in_err-reply-clause-err : goal.returns-in_err-reply-clause-err
returns-in_err-reply-clause-err g c =
    at_error c.from_residual-in_err-reply.result _ (not_listed c.in_ok-from_slice.field-0 c.in_ok-from_slice-2.field-0 c.give.result c.args.pass.now c.give.new.pass c.give.ensures)

pub returns-in_err-names_in-clause-err : goal.returns-in_err-names_in-clause-err
returns-in_err-names_in-clause-err g c =
    let reply = c.in_ok-reply.reply in
    at_error c.from_residual-in_err-names_in.result _ (done list_all reply ∷ [], listed c.in_ok-from_slice.field-0 c.in_ok-from_slice-2.field-0 reply c.args.pass.now c.give.new.pass c.in_ok-from_slice.ensures c.in_ok-from_slice-2.ensures c.in_ok-reply.ensures.1, (refl, tt))
