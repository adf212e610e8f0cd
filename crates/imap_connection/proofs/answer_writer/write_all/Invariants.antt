use Rattle.std.proofs.Common.{◌≡◌, take}
use Rattle.imap_connection.specs.Devices.{IsOutput}
use Rattle.imap_connection.specs.Requests.{texts}
use Rattle.imap_connection.proofs.answer_writer.write_all.Given as goal

abbrev pub invariant-loop-answer : goal.invariant-loop-answer
invariant-loop-answer g l =
    record {
      output : IsOutput (g.K.Sink.taken l.initial.sink) l.initial.text.items (texts (take l.answer-index l.answers)) (g.K.Sink.taken l.sink) l.text.items;
      failures : g.K.Sink.failures l.sink ≡ g.K.Sink.failures l.initial.sink;
    }
