use Rattle.std.proofs.Common.{◌≡◌, ℕ, List, take}
use Rattle.imap_connection.specs.Devices.{IsOutput}
use Rattle.rev1_connection.specs.ShownReplies.{AreShownIn}
use Rattle.rev1_connection.proofs.reply_writer.write_each.Given as goal

abbrev pub invariant-loop-answer : goal.invariant-loop-answer
invariant-loop-answer g l =
    record {
      output : (given : List ℕ) × AreShownIn l.mode l.manner l.answers (take l.answer-index l.answers) given
          × IsOutput (g.K.Sink.taken l.initial.sink) l.initial.text.items given (g.K.Sink.taken l.sink) l.text.items;
      failures : g.K.Sink.failures l.sink ≡ g.K.Sink.failures l.initial.sink;
    }
