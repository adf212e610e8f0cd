-- The answers that a reply sends (RFC 9051, section 7).

use Rattle.std.specs.Prelude.{ℕ, Bool, true, false, List, [], ◌∷◌, Option, Some, None}
use Rattle.std.specs.Prelude.{if◌then◌else◌}
use Rattle.imap_answers.specs.declared.answer.Answer.{Answer}
use Rattle.imap_answers.specs.declared.answer.Answer.TheVariants as answers
use Rattle.imap_answers.specs.declared.codes.Notice.TheVariants.{Closed}
use Rattle.imap_answers.specs.declared.fixed_words.Refusal.{Refusal}
use Rattle.imap_answers.specs.declared.fixed_words.Refusal.TheVariants.{NoMemory}
use Rattle.imap_commands.specs.declared.session.Session.{Session}
use Rattle.imap_node.specs.Nodes.{NodeState}
use Rattle.imap_node.specs.Sessions.{session_at}
use Rattle.imap_node.specs.declared.reply.Reply.{Reply}
use Rattle.imap_node.specs.declared.reply.Reply.TheVariants.{Done, Refused}

-- The answers to a refused input: CLOSED first if a mailbox was left (RFC 9051, section 7.1), and
-- the tagged line.
abbrev pub refused_answers : List ℕ → Refusal → Bool → List Answer
refused_answers tag why closed =
    if closed then answers.UntaggedOk Closed ∷ answers.Refused tag why ∷ []
    else answers.Refused tag why ∷ []

-- The answers of a reply to the command or the IDLE with this tag, in the order in which they are
-- sent.
abbrev pub answers_of : List ℕ → Reply → List Answer
answers_of tag (Done given silent issued) = given
answers_of tag (Refused why closed) = refused_answers tag why closed

-- The answers of a reply to a poll; none if it is refused.
abbrev pub polled_answers : Reply → List Answer
polled_answers (Done given silent issued) = given
polled_answers (Refused why closed) = []

-- The input was refused because memory ran out.
abbrev pub is_out_of_memory : Reply → Bool
is_out_of_memory (Done given silent issued) = false
is_out_of_memory (Refused NoMemory closed) = true
is_out_of_memory (Refused why closed) = false

-- The tag of the IDLE that the session is in, if it idles.
abbrev pub tag_of_idling : Option Session → Option (List ℕ)
tag_of_idling None = None
tag_of_idling (Some session) = session.idling

abbrev pub idling_at : NodeState → ℕ → Option (List ℕ)
idling_at node session = tag_of_idling (session_at node.sessions session)
