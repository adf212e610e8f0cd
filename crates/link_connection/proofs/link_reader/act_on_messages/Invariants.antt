use Rattle.std.proofs.Common.{◌≡◌, ◌++◌}
use Rattle.link_connection.specs.Received.{AreActedOn}
use Rattle.link_connection.proofs.link_reader.act_on_messages.Given as goal

abbrev pub invariant-loop-message : goal.invariant-loop-message
invariant-loop-message g l =
    AreActedOn g.R.Receiver.acts l.initial.receiver l.yielded l.receiver
    × (l.fn.messages.items ≡ l.yielded ++ l.message-iterator.rest.items)
