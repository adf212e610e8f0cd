use Rattle.std.proofs.Common.{drop}
use Rattle.imap_connection.specs.Conversation.{items_at}
use Rattle.imap_connection.proofs.TurnLemmas.{Underway}
use Rattle.imap_connection.proofs.talk_steps.take_all.Given as goal

abbrev pub invariant-loop-item : goal.invariant-loop-item
invariant-loop-item l = Underway l.fn.node.state l.session (items_at l.moment l.items) l.fn.turns.items l.node.state (items_at l.moment (drop l.item-index l.items)) l.turns.items
