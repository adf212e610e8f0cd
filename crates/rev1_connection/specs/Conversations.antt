-- The whole conversation of `converse_rev1` with a client that speaks IMAP4rev1 (RFC 3501): the
-- calls of the port, the octets read, what is written, and how it ended.

use Rattle.std.specs.Prelude.{◌≡◌, ◌⊎◌, ℕ, Bool, List, [], ◌++◌, Option, Result, Ok, Err}
use Rattle.imap_answers.specs.declared.fixed_words.Login.{Login}
use Rattle.imap_lex.specs.Framing.{cut_from, start}
use Rattle.imap_lex.specs.declared.limits.Limits.{Limits}
use Rattle.imap_node.specs.declared.reply.Reply.{Reply}
use Rattle.imap_connection.specs.Conversations.{IsWritten}
use Rattle.imap_connection.specs.Devices.{GivesOctets}
use Rattle.imap_connection.specs.EndReasons.{bye_text_of, end_reason_of}
use Rattle.imap_connection.specs.PortCalls.{PortCall}
use Rattle.imap_connection.specs.declared.end_reason.Ended.{Ended}
use Rattle.imap_connection.specs.declared.end_reason.Ended.TheVariants.{NoMemory}
use Rattle.imap_connection.specs.declared.fault.PortFault.{PortFault}
use Rattle.rev1_front.specs.FrontTexts.{greeting_line}
use Rattle.rev1_front.specs.declared.session.Mode.TheVariants.{Rev1}
use Rattle.rev1_connection.specs.Handling.{AnswersItem, StopsAt, awake}
use Rattle.rev1_connection.specs.ItemConversations.{EndsOverOctets}
use Rattle.rev1_connection.specs.declared.rename_port.RenameEnd.{RenameEnd}

-- `steps` relates the port before and after a command or a line of IDLE, `renames` before and after
-- a RENAME.
module _ {S : Type 0} (steps : S → PortCall → Result Reply PortFault → S → Type 0)
    (renames : S → List ℕ → List ℕ → Result RenameEnd PortFault → S → Type 0) where
  -- A conversation after its session was opened: the greeting is the first answer, and the session
  -- speaks IMAP4rev1 and awaits a command; or memory ran out for the greeting, and nothing was
  -- read.
  abbrev pub HoldsConversation : S → Login → Limits → List ℕ → Ended → Bool → List ℕ → S → Type 0
  HoldsConversation old login limits octets ended at_end output new =
      ((rest : List ℕ) × (output ≡ greeting_line login ++ rest)
      × EndsOverOctets (AnswersItem steps renames) (StopsAt steps renames) old (awake Rev1)
      (cut_from limits (Ok start) octets) ended at_end rest new)
      ⊎ ((ended ≡ NoMemory) × (octets ≡ []) × (output ≡ []) × (new ≡ old))

-- `opens` and `closes` relate the port before and after its session is opened, and before and after
-- it is closed.
module _ {S : Type 0} (opens : S → Result Login PortFault → S → Type 0)
    (steps : S → PortCall → Result Reply PortFault → S → Type 0)
    (renames : S → List ℕ → List ℕ → Result RenameEnd PortFault → S → Type 0)
    (closes : S → S → Type 0) where
  -- A whole conversation, from the opening of its session to its close: the calls of the port, what
  -- was read, what was written and how it ended. If the session can't be opened, that is the only
  -- call, and nothing is read.
  abbrev pub IsConversation : S → S → Limits → Option (List ℕ) → Option (List ℕ) → Bool
      → Option (List ℕ) → Option (List ℕ) → Ended → Type 0
  IsConversation old new limits left rest at_end taken written result =
      ((fault : PortFault) × opens old (Err fault) new × (rest ≡ left)
      × IsWritten (end_reason_of fault) (bye_text_of (end_reason_of fault)) result taken written)
      ⊎ ((login : Login) × (first : S) × (last : S) × (octets : List ℕ) × (ended : Ended)
      × (output : List ℕ)
      × opens old (Ok login) first
      × closes last new
      × GivesOctets left octets rest
      × HoldsConversation steps renames first login limits octets ended at_end output last
      × IsWritten ended (output ++ bye_text_of ended) result taken written)
