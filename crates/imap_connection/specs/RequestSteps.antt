-- The steps in which the code takes an item. `Conversation` says what the node answers to one.

use Rattle.std.specs.Prelude.{◌≡◌, ◌⊎◌, ℕ, false, Option, Some, None, List, [], ◌∷◌}
use Rattle.imap_syntax.specs.Commands.{IsSpelled}
use Rattle.imap_syntax.specs.Faults.{HasTag, IsTagged}
use Rattle.imap_grammar.specs.declared.fault.ParseFault.{ParseFault}
use Rattle.imap_grammar.specs.declared.fault.ParseFault.TheVariants as faults
use Rattle.imap_answers.specs.declared.answer.Answer.{Answer}
use Rattle.imap_answers.specs.declared.answer.Answer.TheVariants as answers
use Rattle.imap_answers.specs.declared.fixed_words.ByeReason.TheVariants as reasons
use Rattle.imap_answers.specs.declared.fixed_words.Continuation.TheVariants as continuations
use Rattle.imap_answers.specs.declared.fixed_words.Refusal.{Refusal}
use Rattle.imap_answers.specs.declared.fixed_words.Refusal.TheVariants as refusals
use Rattle.imap_lex.specs.declared.item.Item.{Item}
use Rattle.imap_lex.specs.declared.item.Item.TheVariants.{Ready, Frame, Refused}
use Rattle.imap_node.specs.Nodes.{IsIdlingAt, NodeState}
use Rattle.imap_node.specs.Responses.{Responds}
use Rattle.imap_node.specs.declared.input.Input.TheVariants as inputs
use Rattle.imap_node.specs.declared.reply.Reply.{Reply}
use Rattle.imap_connection.specs.Conversation.{IsPrefixOf, IsLine, turns_of_answers}
use Rattle.imap_connection.specs.FaultAnswers.{IsFaultAnswer, IsLiteralAnswer}
use Rattle.imap_connection.specs.Replies.{answers_of, is_out_of_memory}
use Rattle.imap_connection.specs.declared.request.Request.{Request}
use Rattle.imap_connection.specs.declared.request.Request.TheVariants.{Immediate, Command, Line}
use Rattle.imap_connection.specs.declared.turn.TalkFaultKind.{TalkFaultKind}
use Rattle.imap_connection.specs.declared.turn.TalkFaultKind.TheVariants as kinds
use Rattle.imap_connection.specs.declared.turn.Turn.{Turn}

-- What an item is to a session that idles with this tag, or doesn't idle: a continuation request
-- for a literal, the answer to a fault or to a command beginning that is refused for its literal;
-- the command that it spells; or a line (RFC 2177, section 3).
abbrev pub IsRequest : Option (List ℕ) → Item → Request → Type 0
IsRequest idling Ready (Immediate answer) = answer ≡ answers.Continue continuations.Ready
IsRequest None (Frame octets) (Immediate answer) = IsFaultAnswer octets answer
IsRequest None (Frame octets) (Command tagged) = IsSpelled tagged octets
IsRequest None (Refused octets) (Immediate answer) = IsLiteralAnswer octets answer
IsRequest (Some tag) (Frame octets) (Line own line) = (own ≡ tag) × IsLine (Frame octets) line
IsRequest (Some tag) (Refused octets) (Line own line) = (own ≡ tag) × IsLine (Refused octets) line
IsRequest idling item request = ⊥

-- The session is open and awaits this request: a command if it doesn't idle, a line if it does.
abbrev pub AwaitsRequest : NodeState → ℕ → Request → Type 0
AwaitsRequest node session (Immediate answer) = Unit {0}
AwaitsRequest node session (Command tagged) = IsIdlingAt node session → ⊥
AwaitsRequest node session (Line tag line) = IsIdlingAt node session

-- The node carries out a request, and gives these answers.
abbrev pub HandlesRequest : NodeState → ℕ → ℕ → Request → List Answer → NodeState → Type 0
HandlesRequest old session moment (Immediate answer) given new = (given ≡ answer ∷ []) × (new ≡ old)
HandlesRequest old session moment (Command tagged) given new =
    (reply : Reply)
    × Responds old session (inputs.Command moment tagged) reply new
    × (given ≡ answers_of tagged.tag reply)
HandlesRequest old session moment (Line tag line) given new =
    (reply : Reply)
    × Responds old session (inputs.Line line) reply new
    × (is_out_of_memory reply ≡ false)
    × (given ≡ answers_of tag reply)

-- The request is a line of IDLE.
abbrev pub IsOfLine : Request → Type 0
IsOfLine (Line tag line) = Unit {0}
IsOfLine _ = ⊥

-- Memory ran out during the answers: the request was not carried out; or it was, and some of its
-- turns were added; or it is a line that was refused.
abbrev pub FailsRequest : TalkFaultKind → NodeState → ℕ → ℕ → Request → List Turn → NodeState
    → Type 0
FailsRequest kinds.NoMemory old session moment request front new =
    ((front ≡ []) × (new ≡ old))
    ⊎ ((given : List Answer) × HandlesRequest old session moment request given new
    × IsPrefixOf front (turns_of_answers given))
FailsRequest kinds.LineRefused old session moment request front new =
    IsOfLine request × (front ≡ turns_of_answers (answers.Bye reasons.NoMemory ∷ [])) × (new ≡ old)
FailsRequest (kinds.Framing why) old session moment request front new = ⊥

-- The reason that a fault of the parser gives for a frame with a tag.
abbrev pub reason_for : ParseFault → Refusal
reason_for faults.NoTag = refusals.BadSyntax
reason_for faults.UnknownCommand = refusals.UnknownCommand
reason_for faults.BadSyntax = refusals.BadSyntax
reason_for faults.NotInProfile = refusals.NotInProfile
reason_for faults.NoMemory = refusals.NoMemory

-- The answer to a frame with this fault, with or without a tag.
abbrev pub AnswersFault : ParseFault → List ℕ → Answer → Type 0
AnswersFault why frame answer =
    ((HasTag frame → ⊥) × (answer ≡ answers.NoTag))
    ⊎ ((tag : List ℕ) × (rest : List ℕ) × IsTagged frame tag rest
    × (answer ≡ answers.Refused tag (reason_for why)))
