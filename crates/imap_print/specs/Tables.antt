-- The fixed texts of answers that a reader tries, in order: if one text is a prefix of another, the
-- longer one is tried first (RFC 9051, section 7).

use Rattle.std.specs.Prelude.{true, false, List, [], ◌∷◌}
use Rattle.imap_answers.specs.declared.fixed_words.Login.{Login}
use Rattle.imap_answers.specs.declared.fixed_words.Login.TheVariants as login
use Rattle.imap_answers.specs.declared.fixed_words.Continuation.{Continuation}
use Rattle.imap_answers.specs.declared.fixed_words.Continuation.TheVariants as continuation
use Rattle.imap_answers.specs.declared.fixed_words.EnabledExtensions.{EnabledExtensions}
use Rattle.imap_answers.specs.declared.fixed_words.EnabledExtensions.TheVariants as enabled
use Rattle.imap_answers.specs.declared.fixed_words.ByeReason.{ByeReason}
use Rattle.imap_answers.specs.declared.fixed_words.ByeReason.TheVariants as bye
use Rattle.imap_answers.specs.declared.fixed_words.Refusal.{Refusal}
use Rattle.imap_answers.specs.declared.fixed_words.Refusal.TheVariants as refusal
use Rattle.imap_answers.specs.declared.fixed_words.CompletedWord.{CompletedWord}
use Rattle.imap_answers.specs.declared.fixed_words.CompletedWord.TheVariants as command
use Rattle.imap_answers.specs.declared.mailbox.MailboxState.TheVariants as state
use Rattle.imap_print.specs.declared.fixed_texts.Attributes.{Attributes}

-- The greetings.
abbrev pub logins : List Login
logins =
    login.Required ∷ login.PreAuthenticated ∷ []

-- The continuation requests.
abbrev pub continuations : List Continuation
continuations =
    continuation.Ready ∷ continuation.Idling ∷ []

-- The answers to ENABLE.
abbrev pub enabled_words : List EnabledExtensions
enabled_words =
    enabled.CondstoreImap4Rev2 ∷ enabled.Imap4Rev2Condstore ∷ enabled.Condstore ∷ enabled.Imap4Rev2
    ∷ enabled.Nothing ∷ []

-- The reasons to end a connection.
abbrev pub bye_reasons : List ByeReason
bye_reasons =
    bye.LoggingOut ∷ bye.LineTooLong ∷ bye.LiteralTooLong ∷ bye.NulInText ∷ bye.NoMemory
    ∷ bye.ReplicaChanged ∷ bye.TooManySessions ∷ []

-- The reasons to refuse a command.
abbrev pub refusals : List Refusal
refusals =
    refusal.NoSuchMailbox ∷ refusal.NoDestination ∷ refusal.MailboxExists ∷ refusal.NameNotAllowed
    ∷ refusal.InboxStays ∷ refusal.NotInProfile ∷ refusal.LoginFailed ∷ refusal.ReadOnly
    ∷ refusal.TooManyKeywords ∷ refusal.TooManyVersions ∷ refusal.KeywordTooLong
    ∷ refusal.NumberUsedUp ∷ refusal.LiteralTooLong ∷ refusal.NoMemory ∷ refusal.NoStoreRoom
    ∷ refusal.UnknownCommand ∷ refusal.BadSyntax ∷ refusal.NotNow ∷ refusal.NoSuchMessage
    ∷ refusal.DoneExpected ∷ []

-- The names of completed commands.
abbrev pub commands : List CompletedWord
commands =
    command.Capability ∷ command.Noop ∷ command.Logout ∷ command.Login ∷ command.Enable
    ∷ command.Select ∷ command.Examine ∷ command.Create ∷ command.Delete ∷ command.Subscribe
    ∷ command.Unsubscribe ∷ command.List ∷ command.Namespace ∷ command.Status ∷ command.Append
    ∷ command.Idle ∷ command.Close ∷ command.Unselect ∷ command.Expunge ∷ command.Search
    ∷ command.Fetch ∷ command.Store ∷ command.Copy ∷ command.Move ∷ command.UidFetch
    ∷ command.UidStore ∷ command.UidSearch ∷ command.UidCopy ∷ command.UidMove ∷ command.UidExpunge
    ∷ []

-- The attributes of names in LIST.
abbrev pub all_attributes : List Attributes
all_attributes =
    record { state = state.Selectable; subscribed = false }
    ∷ record { state = state.Selectable; subscribed = true }
    ∷ record { state = state.NoSelect; subscribed = false }
    ∷ record { state = state.NoSelect; subscribed = true }
    ∷ record { state = state.NonExistent; subscribed = false }
    ∷ record { state = state.NonExistent; subscribed = true } ∷ []
