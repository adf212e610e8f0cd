-- The parts of answers that are fixed texts (RFC 9051, sections 7.1 to 7.3 and 7.6; the words after
-- codes are this project's own).

use Rattle.std.specs.Prelude.{ℕ, Bool, true, false, List, codes}
use Rattle.imap_answers.specs.declared.fixed_words.Login.{Login}
use Rattle.imap_answers.specs.declared.fixed_words.Login.TheVariants as login
use Rattle.imap_answers.specs.declared.fixed_words.Continuation.{Continuation}
use Rattle.imap_answers.specs.declared.fixed_words.Continuation.TheVariants as continuation
use Rattle.imap_answers.specs.declared.fixed_words.EnabledExtensions.{EnabledExtensions}
use Rattle.imap_answers.specs.declared.fixed_words.EnabledExtensions.TheVariants as enabled
use Rattle.imap_answers.specs.declared.fixed_words.ByeReason.{ByeReason}
use Rattle.imap_answers.specs.declared.fixed_words.ByeReason.TheVariants as bye
use Rattle.imap_answers.specs.declared.fixed_words.Refusal.{Refusal}
use Rattle.imap_answers.specs.declared.fixed_words.Refusal.TheVariants as refusal
use Rattle.imap_answers.specs.declared.fixed_words.CompletedWord.{CompletedWord}
use Rattle.imap_answers.specs.declared.fixed_words.CompletedWord.TheVariants as command
use Rattle.imap_answers.specs.declared.mailbox.MailboxState.{MailboxState}
use Rattle.imap_answers.specs.declared.mailbox.MailboxState.TheVariants as state

-- The greetings, without their line ends (RFC 9051, sections 7.1.1 and 7.1.4).
abbrev pub greeting_text : Login → List ℕ
greeting_text login.Required = codes "* OK [CAPABILITY IMAP4rev2 IDLE CONDSTORE] ready"
greeting_text login.PreAuthenticated = codes "* PREAUTH [CAPABILITY IMAP4rev2 IDLE CONDSTORE] ready"

-- The continuation requests (RFC 9051, section 7.6; RFC 2177).
abbrev pub continuation_text : Continuation → List ℕ
continuation_text continuation.Ready = codes "+ ready"
continuation_text continuation.Idling = codes "+ idling"

-- The answer to ENABLE: the extensions that are on now (RFC 9051, section 7.2.1).
abbrev pub enabled_text : EnabledExtensions → List ℕ
enabled_text enabled.Nothing = codes "* ENABLED"
enabled_text enabled.Condstore = codes "* ENABLED CONDSTORE"
enabled_text enabled.Imap4Rev2 = codes "* ENABLED IMAP4rev2"
enabled_text enabled.CondstoreImap4Rev2 = codes "* ENABLED CONDSTORE IMAP4rev2"
enabled_text enabled.Imap4Rev2Condstore = codes "* ENABLED IMAP4rev2 CONDSTORE"

-- The answer that announces the end of a connection, with its reason (RFC 9051, section 7.1.5).
abbrev pub bye_text : ByeReason → List ℕ
bye_text bye.LoggingOut = codes "* BYE logging out"
bye_text bye.LineTooLong = codes "* BYE line too long"
bye_text bye.LiteralTooLong = codes "* BYE literal too long"
bye_text bye.NulInText = codes "* BYE NUL in text"
bye_text bye.NoMemory = codes "* BYE no memory"
bye_text bye.ReplicaChanged = codes "* BYE replica changed"
bye_text bye.TooManySessions = codes "* BYE too many sessions"

-- The text after the tag of a refused command (RFC 9051, sections 7.1.2 and 7.1.3).
abbrev pub refusal_text : Refusal → List ℕ
refusal_text refusal.NoSuchMailbox = codes "NO [NONEXISTENT] no such mailbox"
refusal_text refusal.NoDestination = codes "NO [TRYCREATE] no such mailbox"
refusal_text refusal.MailboxExists = codes "NO [ALREADYEXISTS] mailbox exists"
refusal_text refusal.NameNotAllowed = codes "NO [CANNOT] name not allowed"
refusal_text refusal.InboxStays = codes "NO [CANNOT] INBOX stays"
refusal_text refusal.NotInProfile = codes "NO [CANNOT] not in this profile"
refusal_text refusal.LoginFailed = codes "NO [AUTHENTICATIONFAILED] login failed"
refusal_text refusal.ReadOnly = codes "NO mailbox is read-only"
refusal_text refusal.TooManyKeywords = codes "NO [LIMIT] too many keywords"
refusal_text refusal.TooManyVersions = codes "NO [LIMIT] too many versions"
refusal_text refusal.KeywordTooLong = codes "NO [LIMIT] keyword too long"
refusal_text refusal.NumberUsedUp = codes "NO [LIMIT] number used up"
refusal_text refusal.LiteralTooLong = codes "NO [LIMIT] literal too long"
refusal_text refusal.NoMemory = codes "NO [UNAVAILABLE] no memory"
refusal_text refusal.NoStoreRoom = codes "NO [UNAVAILABLE] no room in the store"
refusal_text refusal.UnknownCommand = codes "BAD unknown command"
refusal_text refusal.BadSyntax = codes "BAD syntax"
refusal_text refusal.NotNow = codes "BAD not now"
refusal_text refusal.NoSuchMessage = codes "BAD no such message"
refusal_text refusal.DoneExpected = codes "BAD DONE expected"

-- A command's name in capitals, as a tagged OK repeats it.
abbrev pub command_text : CompletedWord → List ℕ
command_text command.Capability = codes "CAPABILITY"
command_text command.Noop = codes "NOOP"
command_text command.Logout = codes "LOGOUT"
command_text command.Login = codes "LOGIN"
command_text command.Enable = codes "ENABLE"
command_text command.Select = codes "SELECT"
command_text command.Examine = codes "EXAMINE"
command_text command.Create = codes "CREATE"
command_text command.Delete = codes "DELETE"
command_text command.Subscribe = codes "SUBSCRIBE"
command_text command.Unsubscribe = codes "UNSUBSCRIBE"
command_text command.List = codes "LIST"
command_text command.Namespace = codes "NAMESPACE"
command_text command.Status = codes "STATUS"
command_text command.Append = codes "APPEND"
command_text command.Idle = codes "IDLE"
command_text command.Close = codes "CLOSE"
command_text command.Unselect = codes "UNSELECT"
command_text command.Expunge = codes "EXPUNGE"
command_text command.Search = codes "SEARCH"
command_text command.Fetch = codes "FETCH"
command_text command.Store = codes "STORE"
command_text command.Copy = codes "COPY"
command_text command.Move = codes "MOVE"
command_text command.UidFetch = codes "UID FETCH"
command_text command.UidStore = codes "UID STORE"
command_text command.UidSearch = codes "UID SEARCH"
command_text command.UidCopy = codes "UID COPY"
command_text command.UidMove = codes "UID MOVE"
command_text command.UidExpunge = codes "UID EXPUNGE"

-- The attributes of a name in LIST (RFC 9051, section 7.3.1).
abbrev pub attributes_text : MailboxState → Bool → List ℕ
attributes_text state.Selectable false = codes "()"
attributes_text state.Selectable true = codes "(\\Subscribed)"
attributes_text state.NoSelect false = codes "(\\Noselect)"
attributes_text state.NoSelect true = codes "(\\Noselect \\Subscribed)"
attributes_text state.NonExistent false = codes "(\\NonExistent)"
attributes_text state.NonExistent true = codes "(\\NonExistent \\Subscribed)"
