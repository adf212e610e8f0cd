use Rattle.std.proofs.Common.{sym}
use Rattle.imap_syntax.specs.declared.command.Command.TheVariants as commands
use Rattle.rev1_rename.proofs.CallLemmas.{at_fault, given_any}
use Rattle.rev1_rename.proofs.DeleteLemmas.{at_most_of_name, deleted_old}
use Rattle.rev1_rename.proofs.mailbox_steps.delete_old.Goals as goal

pub returns-in_err-deleted : goal.returns-in_err-deleted
returns-in_err-deleted g c =
    let given = given_any (commands.Delete c.in_ok-name.name) c.give.result c.args.pass.now c.give.new.pass c.give.ensures in
    (given.0, given.1, at_most_of_name c.in_ok-name.name c.args.mailbox.now.from given.0 c.in_ok-name.ensures given.2, at_fault c.from_residual-in_err-deleted.result _ _ c.from_residual-in_err-deleted.ensures.1)

pub returns : goal.returns
returns g c =
    deleted_old c.args.mailbox.now c.in_ok-name.name c.in_ok-deleted.deleted c.args.pass.now c.give.new.pass (sym c.if-is_inbox.ensures) c.in_ok-name.ensures c.in_ok-deleted.ensures
