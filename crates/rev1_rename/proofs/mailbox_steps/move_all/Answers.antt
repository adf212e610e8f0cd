use Rattle.std.proofs.Common.{refl, true}
use Rattle.imap_syntax.specs.declared.command.Command.TheVariants as commands
use Rattle.rev1_rename.proofs.CallLemmas.{at_fault, at_most_deletes_nothing, given_any}
use Rattle.rev1_rename.proofs.EmptyLemmas.{moved_all}
use Rattle.rev1_rename.proofs.mailbox_steps.move_all.Goals as goal

pub returns-in_err-moved : goal.returns-in_err-moved
returns-in_err-moved g c =
    let command = commands.Move (record { by_uid = true; messages = c.in_ok-all_messages.field-0; name = c.in_ok-copy.field-0 }) in
    let given = given_any command c.give.result c.args.pass.now c.give.new.pass c.give.ensures in
    (given.0, given.1, at_most_deletes_nothing command given.0 refl given.2, at_fault c.from_residual-in_err-moved.result _ _ c.from_residual-in_err-moved.ensures.1)

pub returns : goal.returns
returns g c =
    moved_all c.args.name.now c.in_ok-copy.field-0 c.in_ok-all_messages.field-0 c.in_ok-moved.moved c.args.pass.now c.give.new.pass c.in_ok-copy.ensures c.in_ok-all_messages.ensures c.in_ok-moved.ensures
