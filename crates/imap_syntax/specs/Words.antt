-- The words of commands and of their items and flags (RFC 9051, section 9).

use Rattle.std.specs.Prelude.{ℕ, List, [], ◌∷◌, codes, Bool, true, false}
use Rattle.imap_syntax.specs.declared.word.CommandWord.{CommandWord}
use Rattle.imap_syntax.specs.declared.word.CommandWord.TheVariants.{Capability, Noop, Logout, Login}
use Rattle.imap_syntax.specs.declared.word.CommandWord.TheVariants.{Enable, Select, Examine, Create}
use Rattle.imap_syntax.specs.declared.word.CommandWord.TheVariants.{Delete, Subscribe, Unsubscribe}
use Rattle.imap_syntax.specs.declared.word.CommandWord.TheVariants.{ListNames, Namespace, Status}
use Rattle.imap_syntax.specs.declared.word.CommandWord.TheVariants.{Append, Idle, Close, Unselect}
use Rattle.imap_syntax.specs.declared.word.CommandWord.TheVariants.{Expunge, Search, Fetch, Store}
use Rattle.imap_syntax.specs.declared.word.CommandWord.TheVariants.{Copy, Move, Uid, Rename}
use Rattle.imap_syntax.specs.declared.word.CommandWord.TheVariants.{StartTls, Authenticate}
use Rattle.imap_syntax.specs.declared.fetch.FetchWord.{FetchWord}
use Rattle.imap_syntax.specs.declared.fetch.FetchWord.TheVariants as fetch
use Rattle.imap_syntax.specs.declared.fetch.SectionWord.{SectionWord}
use Rattle.imap_syntax.specs.declared.fetch.SectionWord.TheVariants as section
use Rattle.imap_syntax.specs.declared.flags.SystemFlag.{SystemFlag}
use Rattle.imap_syntax.specs.declared.flags.SystemFlag.TheVariants as system
use Rattle.imap_syntax.specs.declared.store.StoreAction.{StoreAction}
use Rattle.imap_syntax.specs.declared.store.StoreMode.{StoreMode}
use Rattle.imap_syntax.specs.declared.store.StoreMode.TheVariants as store
use Rattle.imap_syntax.specs.declared.status.StatusItem.{StatusItem}
use Rattle.imap_syntax.specs.declared.status.StatusItem.TheVariants as status

-- The words of commands (RFC 9051, section 9, command; RFC 2177, section 3, for IDLE).
abbrev pub command_word : CommandWord → List ℕ
command_word Capability = codes "CAPABILITY"
command_word Noop = codes "NOOP"
command_word Logout = codes "LOGOUT"
command_word Login = codes "LOGIN"
command_word Enable = codes "ENABLE"
command_word Select = codes "SELECT"
command_word Examine = codes "EXAMINE"
command_word Create = codes "CREATE"
command_word Delete = codes "DELETE"
command_word Subscribe = codes "SUBSCRIBE"
command_word Unsubscribe = codes "UNSUBSCRIBE"
command_word ListNames = codes "LIST"
command_word Namespace = codes "NAMESPACE"
command_word Status = codes "STATUS"
command_word Append = codes "APPEND"
command_word Idle = codes "IDLE"
command_word Close = codes "CLOSE"
command_word Unselect = codes "UNSELECT"
command_word Expunge = codes "EXPUNGE"
command_word Search = codes "SEARCH"
command_word Fetch = codes "FETCH"
command_word Store = codes "STORE"
command_word Copy = codes "COPY"
command_word Move = codes "MOVE"
command_word Uid = codes "UID"
command_word Rename = codes "RENAME"
command_word StartTls = codes "STARTTLS"
command_word Authenticate = codes "AUTHENTICATE"

-- All words of commands.
abbrev pub command_words : List CommandWord
command_words =
    Capability ∷ Noop ∷ Logout ∷ Login ∷ Enable ∷ Select ∷ Examine ∷ Create ∷ Delete ∷ Subscribe
    ∷ Unsubscribe ∷ ListNames
    ∷ Namespace ∷ Status ∷ Append ∷ Idle ∷ Close ∷ Unselect ∷ Expunge ∷ Search ∷ Fetch ∷ Store
    ∷ Copy ∷ Move ∷ Uid ∷ Rename
    ∷ StartTls ∷ Authenticate ∷ []

-- The commands with a form that takes UIDs (RFC 9051, section 6.4.9).
abbrev pub uid_words : List CommandWord
uid_words = Copy ∷ Move ∷ Expunge ∷ Fetch ∷ Store ∷ Search ∷ []

-- The words of STATUS items (RFC 9051, section 9, status-att; RFC 7162, section 3.1.7, for
-- HIGHESTMODSEQ).
abbrev pub status_word : StatusItem → List ℕ
status_word status.Messages = codes "MESSAGES"
status_word status.UidNext = codes "UIDNEXT"
status_word status.UidValidity = codes "UIDVALIDITY"
status_word status.Unseen = codes "UNSEEN"
status_word status.Deleted = codes "DELETED"
status_word status.Size = codes "SIZE"
status_word status.HighestModSeq = codes "HIGHESTMODSEQ"

-- All items of STATUS.
abbrev pub status_items : List StatusItem
status_items =
    status.Messages ∷ status.UidNext ∷ status.UidValidity ∷ status.Unseen ∷ status.Deleted
    ∷ status.Size ∷ status.HighestModSeq ∷ []

-- The flags that a client may set, without their `\` (RFC 9051, section 9, flag).
abbrev pub system_word : SystemFlag → List ℕ
system_word system.Answered = codes "Answered"
system_word system.Flagged = codes "Flagged"
system_word system.Deleted = codes "Deleted"
system_word system.Seen = codes "Seen"
system_word system.Draft = codes "Draft"

abbrev pub system_flags : List SystemFlag
system_flags = system.Answered ∷ system.Flagged ∷ system.Deleted ∷ system.Seen ∷ system.Draft ∷ []

-- The words of STORE, with and without `.SILENT` (RFC 9051, section 9, store-att-flags).
abbrev pub mode_word : StoreMode → Bool → List ℕ
mode_word store.Replace false = codes "FLAGS"
mode_word store.Replace true = codes "FLAGS.SILENT"
mode_word store.Add false = codes "+FLAGS"
mode_word store.Add true = codes "+FLAGS.SILENT"
mode_word store.Remove false = codes "-FLAGS"
mode_word store.Remove true = codes "-FLAGS.SILENT"

abbrev pub store_word : StoreAction → List ℕ
store_word action = mode_word action.mode action.silent

abbrev pub store_actions : List StoreAction
store_actions =
    record { mode = store.Replace; silent = false } ∷ record { mode = store.Replace; silent = true }
    ∷ record { mode = store.Add; silent = false } ∷ record { mode = store.Add; silent = true }
    ∷ record { mode = store.Remove; silent = false } ∷ record { mode = store.Remove; silent = true }
    ∷ []

-- The words of FETCH items (RFC 9051, section 9, fetch-att; RFC 7162, section 7, for MODSEQ).
abbrev pub fetch_word : FetchWord → List ℕ
fetch_word fetch.Flags = codes "FLAGS"
fetch_word fetch.InternalDate = codes "INTERNALDATE"
fetch_word fetch.Size = codes "RFC822.SIZE"
fetch_word fetch.Uid = codes "UID"
fetch_word fetch.ModSeq = codes "MODSEQ"
fetch_word fetch.Body = codes "BODY"
fetch_word fetch.BodyPeek = codes "BODY.PEEK"

abbrev pub fetch_words : List FetchWord
fetch_words =
    fetch.Flags ∷ fetch.InternalDate ∷ fetch.Size ∷ fetch.Uid ∷ fetch.ModSeq ∷ fetch.Body
    ∷ fetch.BodyPeek ∷ []

-- The words of sections (RFC 9051, section 9, section-msgtext).
abbrev pub section_word : SectionWord → List ℕ
section_word section.Header = codes "HEADER"
section_word section.Text = codes "TEXT"
section_word section.Fields = codes "HEADER.FIELDS"
section_word section.FieldsNot = codes "HEADER.FIELDS.NOT"

abbrev pub section_words : List SectionWord
section_words = section.Header ∷ section.Text ∷ section.Fields ∷ section.FieldsNot ∷ []
