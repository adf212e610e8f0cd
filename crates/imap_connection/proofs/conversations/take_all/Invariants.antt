use Rattle.std.proofs.Common.{◌≡◌, ℕ, List, take}
use Rattle.imap_connection.specs.Devices.{IsOutput}
use Rattle.imap_connection.specs.Conversations.{HasTaken}
use Rattle.imap_connection.proofs.conversations.take_all.Given as goal

abbrev pub invariant-loop-item : goal.invariant-loop-item
invariant-loop-item g l =
    record {
      conversation : (output : List ℕ) × HasTaken g.P.Port.steps l.initial.port l.initial.idling (take l.item-index l.items) output l.port l.idling l.batch
          × IsOutput (g.K.Sink.taken l.initial.sink) l.initial.text.items output (g.K.Sink.taken l.sink) l.text.items;
      failures : g.K.Sink.failures l.sink ≡ g.K.Sink.failures l.initial.sink;
    }
