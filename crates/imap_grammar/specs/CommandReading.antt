-- The parser's steps for whole commands, as functions with the same results as the code.
-- `IsSpelled` of `imap_syntax` says which frame spells which command (RFC 9051, section 9); `parse`
-- is proved to answer that.

use Rattle.std.specs.Prelude.{◌≡◌, ℕ, Bool, true, false, ◌==◌, nat_lt, List, [], ◌∷◌, codes, length}
use Rattle.std.specs.Prelude.{take, drop, Option, Some, None, Result, Err, if◌then◌else◌}
use Rattle.std.specs.Option.{unwrap_or}
use Rattle.imap_types.specs.declared.sequence_set.SequenceRange.{SequenceRange}
use Rattle.imap_types.specs.declared.flags.Flags.{Flags}
use Rattle.imap_types.specs.DateTimeTests.{is_date_time}
use Rattle.imap_grammar.specs.Reading.{IsReading, after, after_word, before, both, fetched_at}
use Rattle.imap_grammar.specs.Reading.{flag_group_at, flags_of, is_nil, listed_at, literal_at}
use Rattle.imap_grammar.specs.Reading.{map_read}
use Rattle.imap_grammar.specs.Reading.{mailbox_at, modifier_at, named, named_at, no_flags}
use Rattle.imap_grammar.specs.Reading.{parens_at, peeked_at, run_at, set_at, spaced, span}
use Rattle.imap_grammar.specs.Reading.{store_flags_at, text_at, zeroed, ◌>>=◌}
use Rattle.imap_syntax.specs.declared.flags.Flag.{Flag}
use Rattle.imap_syntax.specs.declared.fetch.FetchItem.{FetchItem}
use Rattle.imap_syntax.specs.declared.store.StoreAction.{StoreAction}
use Rattle.imap_syntax.specs.Strings.{is_in}
use Rattle.imap_syntax.specs.Words.{command_word, command_words, status_word, status_items}
use Rattle.imap_syntax.specs.Words.{store_actions, store_word, uid_words}
use Rattle.imap_syntax.specs.declared.octet_class.OctetClass.TheVariants.{Tag, Atom, Astring}
use Rattle.imap_syntax.specs.declared.octet_class.OctetClass.TheVariants.{Pattern}
use Rattle.imap_syntax.specs.declared.command.Command.{Command}
use Rattle.imap_syntax.specs.declared.command.Command.TheVariants as commands
use Rattle.imap_syntax.specs.declared.command.Tagged.{Tagged}
use Rattle.imap_grammar.specs.declared.fault.ParseFault.{ParseFault}
use Rattle.imap_grammar.specs.declared.fault.ParseFault.TheVariants.{NoTag, UnknownCommand}
use Rattle.imap_syntax.specs.declared.word.CommandWord.{CommandWord}
use Rattle.imap_syntax.specs.declared.word.CommandWord.TheVariants as words
use Rattle.imap_grammar.specs.KeyReading.{search_at}

-- ---- Commands, after their words.

-- LOGIN: a user and a password.
abbrev pub login_at : List ℕ → Option (Command × List ℕ)
login_at =
    map_read (λ parts. commands.Login parts.0 parts.1)
    (spaced (both (text_at Astring) (spaced (text_at Astring))))

-- ENABLE: names of extensions.
abbrev pub enable_at : List ℕ → Option (Command × List ℕ)
enable_at = map_read commands.Enable (spaced (listed_at 32 (run_at Atom)))

-- ` (CONDSTORE)` or nothing (RFC 7162, section 3.1.8).
abbrev pub condstore_at : List ℕ → Option (Bool × List ℕ)
condstore_at [] = Some (false, [])
condstore_at (octet ∷ octets) =
    if octet
    == 32 then (after (40 ∷ []) octets
    >>= λ inner. after_word (codes "CONDSTORE") inner
    >>= λ tail. after (41 ∷ []) tail >>= λ rest. Some (true, rest))
    else Some (false, octet ∷ octets)

-- The mailbox of SELECT or EXAMINE, and whether CONDSTORE follows.
abbrev pub opened_at : List ℕ → Option ((List ℕ × Bool) × List ℕ)
opened_at = spaced (both mailbox_at condstore_at)

abbrev pub select_at : List ℕ → Option (Command × List ℕ)
select_at = map_read (λ parts. commands.Select parts.0 parts.1) opened_at

abbrev pub examine_at : List ℕ → Option (Command × List ℕ)
examine_at = map_read (λ parts. commands.Examine parts.0 parts.1) opened_at

abbrev pub create_at : List ℕ → Option (Command × List ℕ)
create_at = map_read commands.Create (spaced mailbox_at)

abbrev pub delete_at : List ℕ → Option (Command × List ℕ)
delete_at = map_read commands.Delete (spaced mailbox_at)

abbrev pub subscribe_at : List ℕ → Option (Command × List ℕ)
subscribe_at = map_read commands.Subscribe (spaced mailbox_at)

abbrev pub unsubscribe_at : List ℕ → Option (Command × List ℕ)
unsubscribe_at = map_read commands.Unsubscribe (spaced mailbox_at)

-- Whether the octets after the opening parenthesis are `SUBSCRIBED)`; else they are `)`.
abbrev pub options_inner_at : List ℕ → Option (Bool × List ℕ)
options_inner_at [] = None
options_inner_at (octet ∷ octets) =
    if octet == 41 then Some (false, octets)
    else (after_word (codes "SUBSCRIBED") (octet ∷ octets)
    >>= λ tail. after (41 ∷ []) tail >>= λ rest. Some (true, rest))

-- `(SUBSCRIBED)` or `()`.
abbrev pub options_at : List ℕ → Option (Bool × List ℕ)
options_at octets = after (40 ∷ []) octets >>= options_inner_at

-- The selection options of LIST and a space, or nothing.
abbrev pub selection_at : List ℕ → Option (Bool × List ℕ)
selection_at [] = Some (false, [])
selection_at (octet ∷ octets) =
    if octet == 40 then before options_at (after (32 ∷ [])) (octet ∷ octets)
    else Some (false, octet ∷ octets)

-- A space, RETURN and the return options of LIST, or nothing.
abbrev pub returns_at : List ℕ → Option (Bool × List ℕ)
returns_at [] = Some (false, [])
returns_at (octet ∷ octets) =
    if octet == 32 then (after_word (codes "RETURN") octets >>= spaced options_at)
    else Some (false, octet ∷ octets)

-- LIST: selection options, a reference, a pattern and return options.
abbrev pub list_parts_at : List ℕ → Option ((Bool × (List ℕ × (List ℕ × Bool))) × List ℕ)
list_parts_at =
    spaced (both selection_at (both (text_at Astring) (spaced (both (text_at Pattern) returns_at))))

abbrev pub list_of : Bool × (List ℕ × (List ℕ × Bool)) → Command
list_of parts =
    commands.ListNames (record {
      subscribed_only = parts.0;
      reference = parts.1.0;
      pattern = parts.1.1.0;
      return_subscribed = parts.1.1.1;
    })

abbrev pub list_at : List ℕ → Option (Command × List ℕ)
list_at = map_read list_of list_parts_at

-- A date-time of 28 octets; its day may begin with a space.
abbrev pub date_time_at : List ℕ → Option (List ℕ × List ℕ)
date_time_at octets =
    if nat_lt (length octets) 28 then None
    else (if is_date_time (zeroed (take 28 octets))
    then Some (zeroed (take 28 octets), drop 28 octets)
    else None)

-- The flags of a group, or no flags if there is no group.
abbrev pub flags_given : Option (List Flag) → Flags
flags_given given = flags_of no_flags (unwrap_or given [])

-- A space and the flags of APPEND, or nothing.
abbrev pub append_flags_at : List ℕ → Option (Flags × List ℕ)
append_flags_at = map_read flags_given (peeked_at 40 flag_group_at)

-- A space and the date-time of APPEND, or nothing.
abbrev pub append_date_at : List ℕ → Option (Option (List ℕ) × List ℕ)
append_date_at = peeked_at 34 date_time_at

-- The literal of APPEND.
abbrev pub literal_text_at : List ℕ → Option (List ℕ × List ℕ)
literal_text_at [] = None
literal_text_at (octet ∷ octets) = if octet == 123 then literal_at octets else None

-- APPEND: a mailbox, flags, a date-time and a literal.
abbrev pub append_parts_at : List ℕ
    → Option ((List ℕ × (Flags × (Option (List ℕ) × List ℕ))) × List ℕ)
append_parts_at =
    spaced (both mailbox_at (both append_flags_at (both append_date_at (spaced literal_text_at))))

abbrev pub append_of : List ℕ × (Flags × (Option (List ℕ) × List ℕ)) → Command
append_of parts =
    commands.Append
    (record { name = parts.0; flags = parts.1.0; date = parts.1.1.0; text = parts.1.1.1 })

abbrev pub append_at : List ℕ → Option (Command × List ℕ)
append_at = map_read append_of append_parts_at

-- STATUS: a mailbox and items.
abbrev pub status_at : List ℕ → Option (Command × List ℕ)
status_at =
    map_read (λ parts. commands.Status parts.0 parts.1) (spaced
    (both mailbox_at (spaced (parens_at (listed_at 32 (named_at status_word status_items))))))

-- COPY and MOVE: a set of messages and the destination mailbox.
abbrev pub copied_at : List ℕ → Option ((List SequenceRange × List ℕ) × List ℕ)
copied_at = spaced (both set_at (spaced mailbox_at))

abbrev pub copy_of : Bool → List SequenceRange × List ℕ → Command
copy_of by_uid parts =
    commands.Copy (record { by_uid = by_uid; messages = parts.0; name = parts.1 })

abbrev pub copy_at : Bool → List ℕ → Option (Command × List ℕ)
copy_at by_uid = map_read (copy_of by_uid) copied_at

abbrev pub move_of : Bool → List SequenceRange × List ℕ → Command
move_of by_uid parts =
    commands.Move (record { by_uid = by_uid; messages = parts.0; name = parts.1 })

abbrev pub move_at : Bool → List ℕ → Option (Command × List ℕ)
move_at by_uid = map_read (move_of by_uid) copied_at

abbrev pub uid_expunge_at : List ℕ → Option (Command × List ℕ)
uid_expunge_at = map_read commands.UidExpunge (spaced set_at)

-- FETCH: a set of messages, items and CHANGEDSINCE.
abbrev pub fetch_parts_at : List ℕ
    → Option ((List SequenceRange × (List FetchItem × Option ℕ)) × List ℕ)
fetch_parts_at =
    spaced (both set_at (spaced (both fetched_at (modifier_at (codes "CHANGEDSINCE")))))

abbrev pub fetch_of : Bool → List SequenceRange × (List FetchItem × Option ℕ) → Command
fetch_of by_uid parts =
    commands.Fetch
    (record { by_uid = by_uid; messages = parts.0; items = parts.1.0; changed_since = parts.1.1 })

abbrev pub fetch_at : Bool → List ℕ → Option (Command × List ℕ)
fetch_at by_uid = map_read (fetch_of by_uid) fetch_parts_at

-- STORE: a set of messages, UNCHANGEDSINCE, an action and flags.
abbrev pub store_parts_at : List ℕ
    → Option ((List SequenceRange × (Option ℕ × (StoreAction × Flags))) × List ℕ)
store_parts_at =
    spaced (both set_at (both (modifier_at (codes "UNCHANGEDSINCE"))
    (spaced (both (named_at store_word store_actions) (spaced store_flags_at)))))

abbrev pub store_of : Bool → List SequenceRange × (Option ℕ × (StoreAction × Flags)) → Command
store_of by_uid parts =
    commands.Store (record {
      by_uid = by_uid;
      messages = parts.0;
      unchanged_since = parts.1.0;
      action = parts.1.1.0;
      flags = parts.1.1.1;
    })

abbrev pub store_at : Bool → List ℕ → Option (Command × List ℕ)
store_at by_uid = map_read (store_of by_uid) store_parts_at

-- The arguments of a command that follows UID (RFC 9051, section 6.4.9).
abbrev pub uid_arguments_at : CommandWord → List ℕ → Option (Command × List ℕ)
uid_arguments_at words.Copy octets = copy_at true octets
uid_arguments_at words.Move octets = move_at true octets
uid_arguments_at words.Expunge octets = uid_expunge_at octets
uid_arguments_at words.Search octets = search_at true octets
uid_arguments_at words.Fetch octets = fetch_at true octets
uid_arguments_at words.Store octets = store_at true octets
uid_arguments_at _ octets = None

-- UID: a command's word and its arguments.
abbrev pub uid_at : List ℕ → Option (Command × List ℕ)
uid_at octets =
    spaced (named_at command_word uid_words) octets >>= λ own. uid_arguments_at own.0 own.1

-- The arguments of the command with this word; none if this server doesn't support the command.
abbrev pub arguments_at : CommandWord → List ℕ → Option (Command × List ℕ)
arguments_at words.Capability octets = Some (commands.Capability, octets)
arguments_at words.Noop octets = Some (commands.Noop, octets)
arguments_at words.Logout octets = Some (commands.Logout, octets)
arguments_at words.Login octets = login_at octets
arguments_at words.Enable octets = enable_at octets
arguments_at words.Select octets = select_at octets
arguments_at words.Examine octets = examine_at octets
arguments_at words.Create octets = create_at octets
arguments_at words.Delete octets = delete_at octets
arguments_at words.Subscribe octets = subscribe_at octets
arguments_at words.Unsubscribe octets = unsubscribe_at octets
arguments_at words.ListNames octets = list_at octets
arguments_at words.Namespace octets = Some (commands.Namespace, octets)
arguments_at words.Status octets = status_at octets
arguments_at words.Append octets = append_at octets
arguments_at words.Idle octets = Some (commands.Idle, octets)
arguments_at words.Close octets = Some (commands.Close, octets)
arguments_at words.Unselect octets = Some (commands.Unselect, octets)
arguments_at words.Expunge octets = Some (commands.Expunge, octets)
arguments_at words.Copy octets = copy_at false octets
arguments_at words.Move octets = move_at false octets
arguments_at words.Search octets = search_at false octets
arguments_at words.Fetch octets = fetch_at false octets
arguments_at words.Store octets = store_at false octets
arguments_at words.Uid octets = uid_at octets
arguments_at _ octets = None

-- ---- Frames.

-- The tag of a frame, and the octets after its space.
abbrev pub tag_at : List ℕ → Option (List ℕ × List ℕ)
tag_at frame = run_at Tag frame >>= λ tag. after (32 ∷ []) tag.1 >>= λ rest. Some (tag.0, rest)

-- The command's word that the octets begin with.
abbrev pub word_at : List ℕ → Option CommandWord
word_at octets = named command_word command_words (span (is_in Atom) octets).0

-- The arguments and CRLF, after which nothing may follow.
abbrev pub ended_at : CommandWord → List ℕ → Option Command
ended_at known octets =
    arguments_at known octets
    >>= λ this. after (13 ∷ 10 ∷ []) this.1 >>= λ rest. if is_nil rest then Some this.0 else None

-- The command with its tag.
abbrev pub tagged_at : List ℕ → CommandWord → List ℕ → Option Tagged
tagged_at tag known octets =
    ended_at known octets >>= λ this. Some (record { tag = tag; command = this })

-- The result of parsing a frame with this tag, by the command's word after it, if any.
abbrev pub AnswersWord : Result Tagged ParseFault → List ℕ → Option CommandWord → List ℕ → Type 0
AnswersWord answer tag None octets = answer ≡ Err UnknownCommand
AnswersWord answer tag (Some known) octets = IsReading (λ x. x) answer (tagged_at tag known octets)

-- The result of parsing a frame, by its tag and the octets after it, if it has a tag.
abbrev pub AnswersTag : Result Tagged ParseFault → Option (List ℕ × List ℕ) → Type 0
AnswersTag answer None = answer ≡ Err NoTag
AnswersTag answer (Some tag) = AnswersWord answer tag.0 (word_at tag.1) (span (is_in Atom) tag.1).1
