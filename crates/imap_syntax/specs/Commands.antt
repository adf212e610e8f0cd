-- Which frame spells which command (RFC 9051, sections 6 and 9; RFC 7162, section 7; RFC 2177,
-- section 3).

use Rattle.std.specs.Prelude.{ℕ, Bool, true, false, List, codes, ◌++◌, ◌∷◌, [], ◌⊎◌}
use Rattle.imap_syntax.specs.Keys.{charset, return_options, search_keys}
use Rattle.imap_syntax.specs.Languages.{◌⌢◌, nothing, sp, crlf, word, in_parens, listed, optional}
use Rattle.imap_syntax.specs.Dates.{date_time}
use Rattle.imap_syntax.specs.Items.{fetched}
use Rattle.imap_syntax.specs.MessageFlags.{stored, append_flags}
use Rattle.imap_syntax.specs.Sets.{sequence_set}
use Rattle.imap_syntax.specs.Strings.{run, astring, pattern, mailbox, number_to, literal}
use Rattle.imap_syntax.specs.Words.{command_word, status_word, store_word}
use Rattle.imap_syntax.specs.declared.octet_class.OctetClass.TheVariants.{Tag, Atom}
use Rattle.imap_syntax.specs.declared.command.Command.{Command}
use Rattle.imap_syntax.specs.declared.command.Command.TheVariants as commands
use Rattle.imap_syntax.specs.declared.command.Tagged.{Tagged}
use Rattle.imap_syntax.specs.declared.status.StatusItem.{StatusItem}
use Rattle.imap_syntax.specs.declared.word.CommandWord.{CommandWord}
use Rattle.imap_syntax.specs.declared.word.CommandWord.TheVariants as words

-- The first word of a command: UID if the command takes UIDs (RFC 9051, section 6.4.9).
abbrev pub first_word : Bool → CommandWord → CommandWord
first_word true own = words.Uid
first_word false own = own

-- If the first word is UID, a space and the command's own word; else nothing.
abbrev pub own_word : Bool → CommandWord → List ℕ → Type 0
own_word true own = sp ⌢ word (command_word own)
own_word false own = nothing

-- The word of each command (RFC 9051, section 6).
abbrev pub word_of : Command → CommandWord
word_of commands.Capability = words.Capability
word_of commands.Noop = words.Noop
word_of commands.Logout = words.Logout
word_of (commands.Login user password) = words.Login
word_of (commands.Enable names) = words.Enable
word_of (commands.Select name condstore) = words.Select
word_of (commands.Examine name condstore) = words.Examine
word_of (commands.Create name) = words.Create
word_of (commands.Delete name) = words.Delete
word_of (commands.Subscribe name) = words.Subscribe
word_of (commands.Unsubscribe name) = words.Unsubscribe
word_of (commands.ListNames asked) = words.ListNames
word_of commands.Namespace = words.Namespace
word_of (commands.Status name items) = words.Status
word_of (commands.Append asked) = words.Append
word_of commands.Idle = words.Idle
word_of commands.Close = words.Close
word_of commands.Unselect = words.Unselect
word_of commands.Expunge = words.Expunge
word_of (commands.UidExpunge uids) = words.Uid
word_of (commands.Search asked) = first_word asked.by_uid words.Search
word_of (commands.Fetch asked) = first_word asked.by_uid words.Fetch
word_of (commands.Store asked) = first_word asked.by_uid words.Store
word_of (commands.Copy asked) = first_word asked.by_uid words.Copy
word_of (commands.Move asked) = first_word asked.by_uid words.Move

-- The parameter of SELECT and EXAMINE (RFC 7162, section 3.1.8).
abbrev pub condstore_parameter : Bool → List ℕ → Type 0
condstore_parameter true = sp ⌢ in_parens (word (codes "CONDSTORE"))
condstore_parameter false = nothing

-- An item of STATUS (RFC 9051, section 9, status-att).
abbrev pub status_item : StatusItem → List ℕ → Type 0
status_item item = word (status_word item)

-- The option SUBSCRIBED, or none, between parentheses (RFC 9051, section 9, list-select-opts and
-- list-return-opts).
abbrev pub options : Bool → List ℕ → Type 0
options true = in_parens (word (codes "SUBSCRIBED"))
options false = in_parens nothing

-- The selection of LIST: the option and a space. If there is no option, all of it may be missing.
abbrev pub selection : Bool → List ℕ → Type 0
selection true text = (options true ⌢ sp) text
selection false text = nothing text ⊎ (options false ⌢ sp) text

-- The return options of LIST: RETURN and the option. If there is no option, all of it may be
-- missing.
abbrev pub returns : Bool → List ℕ → Type 0
returns true text = (sp ⌢ word (codes "RETURN") ⌢ sp ⌢ options true) text
returns false text = nothing text ⊎ (sp ⌢ word (codes "RETURN") ⌢ sp ⌢ options false) text

-- A modifier with its mod-sequence (RFC 7162, section 7, fetch-modifier and store-modifier).
abbrev pub modifier : List ℕ → ℕ → List ℕ → Type 0
modifier letters value = in_parens (word letters ⌢ sp ⌢ number_to 9223372036854775807 value)

-- The arguments of each command, after its word.
abbrev pub arguments : Command → List ℕ → Type 0
-- RFC 9051, section 6.1.1
arguments commands.Capability = nothing
-- RFC 9051, section 6.1.2
arguments commands.Noop = nothing
-- RFC 9051, section 6.1.3
arguments commands.Logout = nothing
-- RFC 9051, section 6.2.3
arguments (commands.Login user password) = sp ⌢ astring user ⌢ sp ⌢ astring password
-- RFC 9051, section 6.3.1
arguments (commands.Enable names) = sp ⌢ listed sp (run Atom) names
-- RFC 9051, section 6.3.2
arguments (commands.Select name condstore) = sp ⌢ mailbox name ⌢ condstore_parameter condstore
-- RFC 9051, section 6.3.3
arguments (commands.Examine name condstore) = sp ⌢ mailbox name ⌢ condstore_parameter condstore
-- RFC 9051, section 6.3.4
arguments (commands.Create name) = sp ⌢ mailbox name
-- RFC 9051, section 6.3.5
arguments (commands.Delete name) = sp ⌢ mailbox name
-- RFC 9051, section 6.3.7
arguments (commands.Subscribe name) = sp ⌢ mailbox name
-- RFC 9051, section 6.3.8
arguments (commands.Unsubscribe name) = sp ⌢ mailbox name
-- RFC 9051, section 6.3.9
arguments (commands.ListNames asked) =
    sp ⌢ selection asked.subscribed_only ⌢ astring asked.reference ⌢ sp ⌢ pattern asked.pattern ⌢
    returns asked.return_subscribed
-- RFC 9051, section 6.3.10
arguments commands.Namespace = nothing
-- RFC 9051, section 6.3.11
arguments (commands.Status name items) =
    sp ⌢ mailbox name ⌢ sp ⌢ in_parens (listed sp status_item items)
-- RFC 9051, section 6.3.12
arguments (commands.Append asked) =
    sp ⌢ mailbox asked.name ⌢ append_flags asked.flags ⌢ optional date_time asked.date ⌢ sp ⌢
    literal asked.text
-- RFC 2177, section 3
arguments commands.Idle = nothing
-- RFC 9051, section 6.4.1
arguments commands.Close = nothing
-- RFC 9051, section 6.4.2
arguments commands.Unselect = nothing
-- RFC 9051, section 6.4.3
arguments commands.Expunge = nothing
-- RFC 9051, section 6.4.9
arguments (commands.UidExpunge uids) = own_word true words.Expunge ⌢ sp ⌢ sequence_set uids
-- RFC 9051, section 6.4.4; RFC 7162, section 3.1.5
arguments (commands.Search asked) =
    own_word asked.by_uid words.Search ⌢ sp ⌢ return_options asked.options ⌢ charset ⌢ search_keys
    asked.steps
-- RFC 9051, section 6.4.5; RFC 7162, section 3.1.4.1
arguments (commands.Fetch asked) =
    own_word asked.by_uid words.Fetch ⌢ sp ⌢ sequence_set asked.messages ⌢ sp ⌢ fetched asked.items
    ⌢ optional (modifier (codes "CHANGEDSINCE")) asked.changed_since
-- RFC 9051, section 6.4.6; RFC 7162, section 3.1.3
arguments (commands.Store asked) =
    own_word asked.by_uid words.Store ⌢ sp ⌢ sequence_set asked.messages ⌢ optional
    (modifier (codes "UNCHANGEDSINCE")) asked.unchanged_since
    ⌢ sp ⌢ word (store_word asked.action) ⌢ sp ⌢ stored asked.flags
-- RFC 9051, section 6.4.7
arguments (commands.Copy asked) =
    own_word asked.by_uid words.Copy ⌢ sp ⌢ sequence_set asked.messages ⌢ sp ⌢ mailbox asked.name
-- RFC 9051, section 6.4.8
arguments (commands.Move asked) =
    own_word asked.by_uid words.Move ⌢ sp ⌢ sequence_set asked.messages ⌢ sp ⌢ mailbox asked.name

-- A command without its tag: its word in any letter case, and its arguments.
abbrev pub command : Command → List ℕ → Type 0
command this = word (command_word (word_of this)) ⌢ arguments this

-- A whole frame: the tag, a space, the command and CRLF (RFC 9051, section 9, command).
abbrev pub IsSpelled : Tagged → List ℕ → Type 0
IsSpelled tagged = run Tag tagged.tag ⌢ sp ⌢ command tagged.command ⌢ crlf

-- The line that ends IDLE (RFC 2177, section 3).
abbrev pub EndsIdle : List ℕ → Type 0
EndsIdle = word (codes "DONE" ++ 13 ∷ 10 ∷ [])
