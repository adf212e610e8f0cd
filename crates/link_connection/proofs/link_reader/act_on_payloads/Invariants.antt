use Rattle.std.proofs.Common.{◌≡◌, ◌++◌}
use Rattle.link_connection.specs.Received.{ActsOnPayloads}
use Rattle.link_connection.proofs.link_reader.act_on_payloads.Given as goal

abbrev pub invariant-loop-payload : goal.invariant-loop-payload
invariant-loop-payload g l =
    ActsOnPayloads g.R.Receiver.acts l.initial.receiver l.yielded l.receiver
    × (l.fn.payloads.items ≡ l.yielded ++ l.payload-iterator.rest.items)
