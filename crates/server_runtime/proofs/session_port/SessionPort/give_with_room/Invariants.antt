use Rattle.std.proofs.Common.{◌≡◌}
use Rattle.replica_lock.specs.Passes.{LacksRoomInSession}
use Rattle.replica_lock.specs.declared.event.BookEvent.TheVariants as events
use Rattle.server_runtime.proofs.session_port.SessionPort.give_with_room.Given as goal

-- no call was made yet, the command is to be given, and the last fault says what it lacked
abbrev pub invariant-loop : goal.invariant-loop
invariant-loop g l =
    (l.pass ≡ l.initial.pass) × (l.pending ≡ l.fn.tagged)
    × LacksRoomInSession l.initial.pass (λ n. events.Command n l.fn.moment l.fn.tagged) l.last
