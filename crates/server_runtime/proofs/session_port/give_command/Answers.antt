use Rattle.std.proofs.Common.{Bor, false, inr}
use Rattle.std.specs.Option.{option_map}
use Rattle.server_runtime.proofs.CallLemmas.{command_by, stays_open}
use Rattle.server_runtime.proofs.session_port.give_command.Goals as goal
use Rattle.replica_lock.specs.declared.outcome.Outcome.{Outcome}

pub returns-in-Ok-clause-response : goal.returns-in-Ok-clause-response
returns-in-Ok-clause-response g c = (
  command_by false c.args.tagged c.args.moment c.reply_of_outcome.result c.args.pass.now c.command.new.pass (option_map (λ (o : Bor Outcome). o.now) c.last.result) c.in-Ok.ensures.called c.last.ensures c.reply_of_outcome.ensures,
  inr (c.args.moment, c.in-Ok.ensures.called),
)

pub returns-in-Ok-clause-session : goal.returns-in-Ok-clause-session
returns-in-Ok-clause-session g c =
    stays_open false c.reply_of_outcome.result c.args.pass.now c.command.new.pass c.args.tagged c.requires.session
    (command_by false c.args.tagged c.args.moment c.reply_of_outcome.result c.args.pass.now c.command.new.pass (option_map (λ (o : Bor Outcome). o.now) c.last.result) c.in-Ok.ensures.called c.last.ensures c.reply_of_outcome.ensures)
