use Rattle.std.proofs.Common.{Bor, inr, subst}
use Rattle.std.specs.Option.{option_map}
use Rattle.server_runtime.proofs.CallLemmas.{opens_by}
use Rattle.server_runtime.proofs.session_port.SessionPort.open_in.Goals as goal
use Rattle.imap_node.specs.declared.sessions.Auth.{Auth}
use Rattle.replica_lock.specs.Passes.{IsCalled}
use Rattle.replica_lock.specs.declared.event.BookEvent.TheVariants as events
use Rattle.replica_lock.specs.declared.outcome.Outcome.{Outcome}

pub returns-in-Ok-open-clause-response : goal.returns-in-Ok-open-clause-response
returns-in-Ok-open-clause-response g c =
    opens_by c.args.self.now.context.now.server.now.access c.login_of.result c.in-Ok.auth c.login_of_outcome.result c.args.pass.now c.open.new.pass (option_map (λ (o : Bor Outcome). o.now) c.last.result) c.login_of.ensures c.in-Ok.ensures
    c.in-Ok-open.ensures.called c.last.ensures c.login_of_outcome.ensures.ok c.login_of_outcome.ensures.full

pub returns-in-Ok-open-clause-once : goal.returns-in-Ok-open-clause-once
returns-in-Ok-open-clause-once g c = inr (subst (λ (auth : Auth). IsCalled c.args.pass.now (events.Open auth) c.open.new.pass) c.in-Ok.ensures c.in-Ok-open.ensures.called)
