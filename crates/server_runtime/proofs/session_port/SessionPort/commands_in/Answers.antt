use Rattle.imap_connection.specs.declared.fault.PortFault.TheVariants.{PassedOver}
use Rattle.server_runtime.specs.Calls.{stores}
use Rattle.server_runtime.proofs.CallLemmas.{carries_at_any, none_given}
use Rattle.server_runtime.proofs.session_port.SessionPort.commands_in.Goals as goal

pub returns-then-is_none : goal.returns-then-is_none
returns-then-is_none g c = none_given (stores c.args.self.now.context.now.store) c.args.commands.items c.args.replies.now.items PassedOver c.args.pass.now c.requires.some c.requires.none

pub returns : goal.returns
returns g c = carries_at_any (stores c.args.self.now.context.now.store) c.args.commands.items c.give_all-response.new.replies.items c.give_all-response.result c.args.pass.now c.give_all-response.new.pass c.give_all-response.ensures
