use Rattle.std.proofs.Common.{ℕ, Bor, inr, subst}
use Rattle.std.specs.Option.{option_map}
use Rattle.server_runtime.specs.Calls.{stores}
use Rattle.server_runtime.proofs.CallLemmas.{command_by, command_refused}
use Rattle.server_runtime.proofs.session_port.SessionPort.command_in.Goals as goal
use Rattle.replica_lock.specs.Passes.{LacksRoomInSession}
use Rattle.replica_lock.specs.declared.event.BookEvent.TheVariants as events
use Rattle.replica_lock.specs.declared.faults.CallFault.{CallFault}
use Rattle.replica_lock.specs.declared.outcome.Outcome.{Outcome}

pub returns-in-Ok-clause-response : goal.returns-in-Ok-clause-response
returns-in-Ok-clause-response g c =
    command_by (stores c.args.self.now.context.now.store) c.args.tagged c.moment_now-moment.result c.reply_of_outcome.result c.args.pass.now c.give_with_room.new.pass (option_map (λ (o : Bor Outcome). o.now) c.last-in-Ok.result) c.in-Ok.ensures.called c.last-in-Ok.ensures c.reply_of_outcome.ensures

pub returns-in-Ok-clause-once : goal.returns-in-Ok-clause-once
returns-in-Ok-clause-once g c = inr (c.moment_now-moment.result, c.in-Ok.ensures.called)

pub returns-in-Err-NoStoreRoom-clause-response : goal.returns-in-Err-NoStoreRoom-clause-response
returns-in-Err-NoStoreRoom-clause-response g c =
    command_refused (stores c.args.self.now.context.now.store) c.args.tagged c.moment_now-moment.result c.in-Err-NoStoreRoom.field-0-0 c.refuse_for_room.result c.args.pass.now c.give_with_room.new.pass c.refuse_for_room.ensures
    c.in-Err-NoStoreRoom.ensures.unchanged
    (subst (λ (fault : CallFault). LacksRoomInSession c.args.pass.now (λ (n : ℕ). events.Command n c.moment_now-moment.result c.args.tagged) fault) c.in-Err-NoStoreRoom.field-0-is c.in-Err-NoStoreRoom.ensures.lacking)
