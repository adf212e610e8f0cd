use Rattle.std.proofs.Common.{◌≡◌, ℕ, List, take}
use Rattle.imap_connection.specs.Devices.{IsOutput}
use Rattle.rev1_connection.specs.Handling.{AnswersItem, StopsAt}
use Rattle.rev1_connection.specs.ItemConversations.{Converses}
use Rattle.rev1_connection.proofs.conversation.answer_items.Given as goal

abbrev pub invariant-loop-item : goal.invariant-loop-item
invariant-loop-item g l =
    record {
      conversation : (output : List ℕ) × Converses (AnswersItem g.P.Port.steps g.P.RenamePort.renames) (StopsAt g.P.Port.steps g.P.RenamePort.renames) l.initial.port l.initial.session (take l.item-index l.items) output l.port l.session
          × IsOutput (g.K.Sink.taken l.initial.sink) l.initial.text.items output (g.K.Sink.taken l.sink) l.text.items;
      failures : g.K.Sink.failures l.sink ≡ g.K.Sink.failures l.initial.sink;
    }
