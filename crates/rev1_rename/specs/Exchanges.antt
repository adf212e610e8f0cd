-- What RENAME gives to a session, one command after another.

use Rattle.std.specs.Prelude.{◌≡◌, ◌⊎◌, ℕ, Bool, true, false, List, [], ◌∷◌}
use Rattle.std.specs.Prelude.{Option, Some, None, Result, Ok, Err, nat_lt}
use Rattle.std.specs.List.{filter_map, list_any}
use Rattle.imap_answers.specs.declared.answer.Answer.{Answer}
use Rattle.imap_answers.specs.declared.answer.Answer.TheVariants as answers
use Rattle.imap_answers.specs.declared.mailbox.MailboxState.TheVariants.{Selectable}
use Rattle.imap_node.specs.Replies.{is_done, reply_answers}
use Rattle.imap_node.specs.declared.reply.Reply.{Reply}
use Rattle.imap_syntax.specs.declared.command.Command.{Command}
use Rattle.replica_lock.specs.Passes.{IsCalledIn, PassState}
use Rattle.replica_lock.specs.declared.event.BookEvent.TheVariants as events
use Rattle.replica_lock.specs.declared.outcome.Outcome.{Outcome}
use Rattle.replica_lock.specs.declared.outcome.Outcome.TheVariants.{Replied}
use Rattle.rev1_rename.specs.declared.exchange.RenameFault.{RenameFault}

-- A command that a session was given, and the outcome of that call.
pub record Exchange : Type 0 where
  pub command : Command
  pub outcome : Outcome

-- A pass gave its session the command, at some moment and with some tag, with this outcome.
abbrev pub IsExchange : PassState → Exchange → PassState → Type 0
IsExchange p exchange q =
    (tag : List ℕ)
    × (moment : ℕ)
    × IsCalledIn p (λ n. events.Command n moment (record { tag = tag; command = exchange.command })) q
    × (q.last ≡ Some exchange.outcome)

-- A pass made just these calls, one after another.
abbrev pub AreExchanges : PassState → List Exchange → PassState → Type 0
AreExchanges p [] q = q ≡ p
AreExchanges p (exchange ∷ exchanges) q =
    (r : PassState) × IsExchange p exchange r × AreExchanges r exchanges q

-- The command was carried out.
abbrev pub is_carried_out : Outcome → Bool
is_carried_out (Replied reply) = is_done reply
is_carried_out _ = false

-- The result of giving a command: the reply that carries it out; or, with a fault, at most one call
-- with it was made.
abbrev pub Gives : PassState → Command → Result Reply RenameFault → PassState → Type 0
Gives p command (Ok reply) q =
    (is_done reply ≡ true) × IsExchange p (record { command = command; outcome = Replied reply }) q
Gives p command (Err fault) q =
    (q ≡ p)
    ⊎ ((outcome : Outcome) × IsExchange p (record { command = command; outcome = outcome }) q)

-- An answer that says that a mailbox has messages (RFC 9051, section 7.4.1).
abbrev pub is_some_exist : Answer → Bool
is_some_exist (answers.Exists count) = nat_lt 0 count
is_some_exist _ = false

-- The answers to a SELECT say that the mailbox has messages.
abbrev pub has_messages : Reply → Bool
has_messages reply = list_any is_some_exist (reply_answers reply)

-- The mailbox that an answer to LIST says to exist (RFC 9051, section 7.3.1).
abbrev pub listed_name : Answer → Option (List ℕ)
listed_name (answers.List name Selectable subscribed) = Some name
listed_name _ = None

-- The mailboxes that answers to a LIST say to exist, in their order.
abbrev pub names_of_answers : List Answer → List (List ℕ)
names_of_answers answers = filter_map listed_name answers
