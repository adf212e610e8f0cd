use Rattle.std.proofs.Common.{Bor}
use Rattle.std.specs.Option.{option_map}
use Rattle.server_runtime.specs.Calls.{stores}
use Rattle.server_runtime.proofs.CallLemmas.{line_by}
use Rattle.server_runtime.proofs.session_port.SessionPort.line_in.Goals as goal
use Rattle.replica_lock.specs.declared.outcome.Outcome.{Outcome}

pub returns-in-Ok-clause-response : goal.returns-in-Ok-clause-response
returns-in-Ok-clause-response g c = line_by (stores c.args.self.now.context.now.store) c.args.line c.reply_of_outcome.result c.args.pass.now c.done.new.pass (option_map (λ (o : Bor Outcome). o.now) c.last.result) c.in-Ok.ensures.called c.last.ensures c.reply_of_outcome.ensures
