use Rattle.rev1_rename.proofs.CallLemmas.{gives_of_call}
use Rattle.rev1_rename.proofs.exchange.give_command.Goals as goal

pub returns-in-Ok-command : goal.returns-in-Ok-command
returns-in-Ok-command g c =
    gives_of_call c.args.command c.in-Ok.tag c.args.moment c.args.pass.now c.command.new.pass c.done_reply.result _ c.in-Ok-command.ensures.called c.last.ensures c.done_reply.ensures
