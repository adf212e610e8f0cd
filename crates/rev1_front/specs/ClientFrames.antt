-- What a client's frame is (RFC 3501, sections 6 and 9).

use Rattle.std.specs.Prelude.{◌≡◌, ◌⊎◌, ℕ, Bool, true, false, List, [], ◌∷◌, ◌++◌, codes, IsTrue}
use Rattle.std.specs.Prelude.{Option, Some, None}
use Rattle.std.specs.List.{list_all}
use Rattle.imap_types.specs.Names.{fold_inbox}
use Rattle.imap_syntax.specs.Commands.{EndsIdle, IsSpelled}
use Rattle.imap_syntax.specs.Faults.{HasTag, IsTagged, NamesCommand, begins_with_class}
use Rattle.imap_syntax.specs.Languages.{◌⌢◌, nothing, sp, word}
use Rattle.imap_syntax.specs.Strings.{is_in}
use Rattle.imap_syntax.specs.declared.arguments.ListNames.{ListNames}
use Rattle.imap_syntax.specs.declared.command.Command.{Command}
use Rattle.imap_syntax.specs.declared.command.Command.TheVariants as commands
use Rattle.imap_syntax.specs.declared.command.Tagged.{Tagged}
use Rattle.imap_syntax.specs.declared.idle.IdleLine.{IdleLine}
use Rattle.imap_syntax.specs.declared.idle.IdleLine.TheVariants as lines
use Rattle.imap_syntax.specs.declared.octet_class.OctetClass.TheVariants.{Atom}
use Rattle.imap_grammar.specs.declared.fault.ParseFault.{ParseFault}
use Rattle.imap_grammar.specs.declared.fault.ParseFault.TheVariants as faults
use Rattle.imap_answers.specs.declared.answer.Answer.{Answer}
use Rattle.imap_answers.specs.declared.answer.Answer.TheVariants as answers
use Rattle.imap_answers.specs.declared.fixed_words.Refusal.{Refusal}
use Rattle.imap_answers.specs.declared.fixed_words.Refusal.TheVariants as refusals
use Rattle.rev1_front.specs.FrameForms.{front_word_text, reworded}
use Rattle.rev1_front.specs.InnerNames.{HasInnerNames}
use Rattle.rev1_front.specs.Names.{IsInner}
use Rattle.rev1_front.specs.Plain.{IsResponseLine}
use Rattle.rev1_front.specs.SearchReading.{search_read}
use Rattle.rev1_front.specs.declared.search_days.SentDay.{SentDay}
use Rattle.rev1_front.specs.StatusForms.{HasRecent}
use Rattle.rev1_front.specs.declared.authentication.PlainResponse.{PlainResponse}
use Rattle.rev1_front.specs.declared.authentication.PlainResponse.TheVariants as responses
use Rattle.rev1_front.specs.declared.fixed_texts.FrontRefusal.TheVariants as reasons
use Rattle.rev1_front.specs.declared.form.Form.{Form}
use Rattle.rev1_front.specs.declared.form.Form.TheVariants as forms
use Rattle.rev1_front.specs.declared.frame_parts.FrontWord.{FrontWord}
use Rattle.rev1_front.specs.declared.frame_parts.FrontWord.TheVariants as words
use Rattle.rev1_front.specs.declared.session.Awaited.{Awaited}
use Rattle.rev1_front.specs.declared.session.Awaited.TheVariants as awaited
use Rattle.rev1_front.specs.declared.session.Mode.{Mode}
use Rattle.rev1_front.specs.declared.session.Mode.TheVariants as modes
use Rattle.rev1_front.specs.declared.taken.Taken.{Taken}
use Rattle.rev1_front.specs.declared.taken.Taken.TheVariants as taken

-- ---- Commands of the profile.

-- UID and a space, or nothing.
abbrev pub maybe_uid : List ℕ → Type 0
maybe_uid text = nothing text ⊎ word (codes "UID ") text

-- A SEARCH with RETURN, up to its options: of numbers or of UIDs.
abbrev pub search_return : List ℕ → Type 0
search_return = maybe_uid ⌢ word (codes "SEARCH RETURN ")

-- A frame's SEARCH has RETURN, which asks for ESEARCH (RFC 4731, section 3.1).
abbrev pub AsksReturn : List ℕ → Type 0
AsksReturn frame =
    (tag front back : List ℕ) × IsTagged frame tag (front ++ back) × search_return front

-- The form in which hits are shown.
abbrev pub IsSearchForm : List ℕ → Form → Type 0
IsSearchForm frame forms.Plain = AsksReturn frame
IsSearchForm frame forms.Search = AsksReturn frame → ⊥
IsSearchForm frame _ = ⊥

-- The form in which the answers to a command of the profile are shown.
abbrev pub IsForm : Mode → List ℕ → Command → Form → Type 0
IsForm modes.Rev2 frame command form = form ≡ forms.Plain
IsForm modes.Rev1 frame commands.Capability form = form ≡ forms.Capability
IsForm modes.Rev1 frame (commands.Select name condstore) form = form ≡ forms.Opening
IsForm modes.Rev1 frame (commands.Examine name condstore) form = form ≡ forms.Opening
IsForm modes.Rev1 frame (commands.Search asked) form = IsSearchForm frame form
IsForm modes.Rev1 frame command form = form ≡ forms.Plain

-- A command whose names are as a client in this mode writes them.
abbrev pub IsCarried : Mode → Tagged → Form → Taken → Type 0
IsCarried modes.Rev2 tagged form it = it ≡ taken.Command tagged form
IsCarried modes.Rev1 tagged form it =
    ((inner : Command) × HasInnerNames tagged.command (Some inner)
    × (it ≡ taken.Command (record { tag = tagged.tag; command = inner }) form))
    ⊎ (HasInnerNames tagged.command None
    × (it ≡ taken.Refused tagged.tag reasons.NameNotAllowed))

-- A frame that spells a command of the profile.
abbrev pub IsOfProfile : Mode → List ℕ → Taken → Type 0
IsOfProfile mode frame it =
    (tagged : Tagged) × (form : Form)
    × IsSpelled tagged frame
    × IsForm mode frame tagged.command form
    × IsCarried mode tagged form it

-- ---- Forms that IMAP4rev1 has beside the profile.

-- A frame with a tag, this word in any letter case, and this rest.
abbrev pub IsWorded : FrontWord → List ℕ → List ℕ → List ℕ → Type 0
IsWorded named frame tag rest =
    (letters : List ℕ)
    × IsTagged frame tag (letters ++ rest)
    × IsTrue (list_all (is_in Atom) letters)
    × (begins_with_class Atom rest ≡ false)
    × word (front_word_text named) letters

-- CHECK is NOOP (RFC 3501, section 6.4.1).
abbrev pub IsCheck : List ℕ → List ℕ → Taken → Type 0
IsCheck tag rest it =
    (tagged : Tagged)
    × IsSpelled tagged (reworded tag (codes "NOOP") rest)
    × (it ≡ taken.Command tagged forms.Check)

-- What a response to AUTHENTICATE PLAIN makes of it: LOGIN, or a refusal.
abbrev pub answer_to_response : List ℕ → PlainResponse → Taken
answer_to_response tag (responses.Login user password) =
    taken.Command (record { tag = tag; command = commands.Login user password }) forms.Authenticate
answer_to_response tag responses.OtherUser = taken.Refused tag reasons.OtherUser
answer_to_response tag responses.Malformed = taken.Refused tag reasons.BadSyntax

-- AUTHENTICATE PLAIN with these octets after the mechanism: a challenge, or with a space and a
-- response (RFC 4959) what that makes of it.
abbrev pub IsPlainTaken : List ℕ → List ℕ → Taken → Type 0
IsPlainTaken tag response it =
    ((response ≡ codes "\r\n") × (it ≡ taken.Challenge tag))
    ⊎ ((line : List ℕ) × (said : PlainResponse)
    × (response ≡ 32 ∷ line)
    × IsResponseLine line said
    × (it ≡ answer_to_response tag said))

-- AUTHENTICATE with the mechanism PLAIN (RFC 3501, section 6.2.2).
abbrev pub IsAuthenticate : List ℕ → List ℕ → Taken → Type 0
IsAuthenticate tag rest it =
    (front response : List ℕ)
    × (sp ⌢ word (codes "PLAIN")) front
    × (rest ≡ front ++ response)
    × IsPlainTaken tag response it

-- A line that is the response to AUTHENTICATE; `*` gives it up (RFC 3501, section 6.2.2).
abbrev pub IsOfResponse : List ℕ → List ℕ → Taken → Type 0
IsOfResponse tag line it =
    ((line ≡ codes "*\r\n") × (it ≡ taken.Refused tag reasons.GivenUp))
    ⊎ ((line ≡ codes "*\r\n" → ⊥)
    × ((said : PlainResponse) × IsResponseLine line said × (it ≡ answer_to_response tag said)))

-- What octets of a name mean in a mode.
abbrev pub IsMeant : Mode → List ℕ → Option (List ℕ) → Type 0
IsMeant modes.Rev1 octets meant = IsInner octets meant
IsMeant modes.Rev2 octets meant = meant ≡ Some octets

-- LIST of all subscribed names (RFC 9051, section 6.3.9.1).
abbrev pub all_subscribed : ListNames
all_subscribed = record {
  subscribed_only = true;
  reference = [];
  pattern = codes "*";
  return_subscribed = false;
}

-- What the reference and the pattern of LIST mean in a mode, joined; nothing if one of them means
-- nothing.
abbrev pub IsJoined : Mode → ListNames → Option (List ℕ) → Type 0
IsJoined mode asked (Some joined) =
    (reference pattern : List ℕ)
    × IsMeant mode asked.reference (Some reference)
    × IsMeant mode asked.pattern (Some pattern)
    × (joined ≡ reference ++ pattern)
IsJoined mode asked None = IsMeant mode asked.reference None ⊎ IsMeant mode asked.pattern None

-- LSUB of the names that a pattern matches; refused if there is none.
abbrev pub LsubOfPattern : List ℕ → Option (List ℕ) → Taken → Type 0
LsubOfPattern tag (Some pattern) it =
    it ≡ taken.Command (record { tag = tag; command = commands.ListNames all_subscribed })
    (forms.Lsub pattern)
LsubOfPattern tag None it = it ≡ taken.Refused tag reasons.NameNotAllowed

-- LSUB, read as LIST without options.
abbrev pub IsLsub : Mode → List ℕ → List ℕ → Taken → Type 0
IsLsub mode tag rest it =
    (asked : ListNames) × (joined : Option (List ℕ))
    × IsSpelled (record { tag = tag; command = commands.ListNames asked })
    (reworded tag (codes "LIST") rest)
    × (asked.subscribed_only ≡ false) × (asked.return_subscribed ≡ false)
    × IsJoined mode asked joined
    × LsubOfPattern tag joined it

-- RENAME of a mailbox to another name, read as LOGIN of two strings (RFC 3501, section 6.3.5).
abbrev pub RenameOf : List ℕ → Option (List ℕ) → Option (List ℕ) → Taken → Type 0
RenameOf tag (Some from) (Some to) it = it ≡ taken.Rename tag (fold_inbox from) (fold_inbox to)
RenameOf tag _ _ it = it ≡ taken.Refused tag reasons.NameNotAllowed

abbrev pub IsRename : Mode → List ℕ → List ℕ → Taken → Type 0
IsRename mode tag rest it =
    (old new : List ℕ) × (from to : Option (List ℕ))
    × IsSpelled (record { tag = tag; command = commands.Login old new })
    (reworded tag (codes "LOGIN") rest)
    × IsMeant mode old from × IsMeant mode new to
    × RenameOf tag from to it

-- STATUS with RECENT (RFC 3501, section 6.3.10).
abbrev pub IsStatus : Mode → List ℕ → List ℕ → Taken → Type 0
IsStatus mode tag rest it =
    (inner : List ℕ) × (only_recent : Bool) × (tagged : Tagged)
    × HasRecent rest inner only_recent
    × IsSpelled tagged (reworded tag (codes "STATUS") inner)
    × IsCarried mode tagged (forms.Status only_recent) it

-- The word of SEARCH, of numbers or of UIDs.
abbrev pub search_word : Bool → List ℕ
search_word true = codes "UID SEARCH"
search_word false = codes "SEARCH"

-- FETCH of the texts of all messages, for the days on which they were sent.
abbrev pub IsFetchOfTexts : List ℕ → Tagged → Type 0
IsFetchOfTexts tag fetch =
    IsSpelled fetch (reworded tag (codes "FETCH") (codes " 1:* (UID BODY.PEEK[])\r\n"))

-- SEARCH with these arguments of the profile.
abbrev pub IsKeySearch : Mode → List ℕ → Bool → List ℕ → List ℕ → Taken → Type 0
IsKeySearch mode frame by_uid tag inner it =
    (tagged : Tagged) × (form : Form)
    × IsSpelled tagged (reworded tag (search_word by_uid) inner)
    × IsForm mode frame tagged.command form
    × (it ≡ taken.Command tagged form)

-- The days are asked for: these arguments of the profile are a search.
abbrev pub AsksDays : Bool → List ℕ → List ℕ → Taken → Type 0
AsksDays by_uid tag inner it =
    (tagged fetch : Tagged)
    × IsSpelled tagged (reworded tag (search_word by_uid) inner)
    × IsFetchOfTexts tag fetch
    × (it ≡ taken.AsksDays fetch)

-- The days that are known.
abbrev pub known_days : Option (List SentDay) → List SentDay
known_days None = []
known_days (Some days) = days

-- A search with these arguments of the profile, without the days: these are asked for if the keys
-- depend on them.
abbrev pub IsUndated : Mode → List ℕ → Bool → List ℕ → List ℕ → Bool → Taken → Type 0
IsUndated mode frame by_uid tag inner true it = AsksDays by_uid tag inner it
IsUndated mode frame by_uid tag inner false it = IsKeySearch mode frame by_uid tag inner it

-- A search whose arguments were read so. It is refused if its charset isn't known (RFC 3501,
-- section 6.4.4).
abbrev pub IsSearchRead : Mode → Option (List SentDay) → List ℕ → Bool → List ℕ
    → Option (List ℕ × Bool) → Taken → Type 0
IsSearchRead mode days frame by_uid tag None it = it ≡ taken.Refused tag reasons.UnknownCharset
IsSearchRead mode None frame by_uid tag (Some read) it =
    IsUndated mode frame by_uid tag read.0 read.1 it
IsSearchRead mode (Some days) frame by_uid tag (Some read) it =
    IsKeySearch mode frame by_uid tag read.0 it

-- SEARCH with keys of IMAP4rev1, or in a charset that isn't known (RFC 3501, section 6.4.4).
abbrev pub IsSearch : Mode → Option (List SentDay) → List ℕ → Bool → List ℕ → List ℕ → Taken
    → Type 0
IsSearch mode days frame by_uid tag rest it =
    IsSearchRead mode days frame by_uid tag (search_read (known_days days) rest) it

-- UID SEARCH (RFC 3501, section 6.4.8).
abbrev pub IsUidSearch : Mode → Option (List SentDay) → List ℕ → List ℕ → List ℕ → Taken → Type 0
IsUidSearch mode days frame tag rest it =
    (front back : List ℕ)
    × (sp ⌢ word (codes "SEARCH")) front × (rest ≡ front ++ back)
    × (begins_with_class Atom back ≡ false)
    × IsSearch mode days frame true tag back it

-- A frame with one of the words that the front reads.
abbrev pub IsOfFront : Mode → Option (List SentDay) → List ℕ → FrontWord → List ℕ → List ℕ → Taken
    → Type 0
IsOfFront mode days frame words.Check tag rest it = IsCheck tag rest it
IsOfFront mode days frame words.Id tag rest it = it ≡ taken.Identity tag
IsOfFront mode days frame words.Authenticate tag rest it = IsAuthenticate tag rest it
IsOfFront mode days frame words.Lsub tag rest it = IsLsub mode tag rest it
IsOfFront mode days frame words.Rename tag rest it = IsRename mode tag rest it
IsOfFront mode days frame words.Status tag rest it = IsStatus mode tag rest it
IsOfFront mode days frame words.Search tag rest it = IsSearch mode days frame false tag rest it
IsOfFront mode days frame words.Uid tag rest it = IsUidSearch mode days frame tag rest it

-- A frame that spells a form of IMAP4rev1.
abbrev pub IsFrontForm : Mode → Option (List SentDay) → List ℕ → Taken → Type 0
IsFrontForm mode days frame it =
    (named : FrontWord) × (tag rest : List ℕ)
    × IsWorded named frame tag rest
    × IsOfFront mode days frame named tag rest it

-- ---- All frames.

-- A frame spells no command of the profile, and no form of IMAP4rev1.
abbrev pub IsUnspelled : Mode → Option (List SentDay) → List ℕ → Type 0
IsUnspelled mode days frame =
    ((tagged : Tagged) → IsSpelled tagged frame → ⊥)
    × ((it : Taken) → IsFrontForm mode days frame it → ⊥)

-- What a fault of the grammar of the profile says of a frame.
abbrev pub IsFaultOf : List ℕ → ParseFault → Type 0
IsFaultOf frame faults.NoTag = HasTag frame → ⊥
IsFaultOf frame faults.UnknownCommand = HasTag frame × (NamesCommand frame → ⊥)
IsFaultOf frame faults.BadSyntax =
    NamesCommand frame × ((tagged : Tagged) → IsSpelled tagged frame → ⊥)
IsFaultOf frame faults.NotInProfile =
    NamesCommand frame × ((tagged : Tagged) → IsSpelled tagged frame → ⊥)
IsFaultOf frame faults.NoMemory = NamesCommand frame

-- A reason to refuse a frame that is no command, as without a front (RFC 9051, section 7.1).
abbrev pub IsReason : Mode → Option (List SentDay) → List ℕ → Refusal → Type 0
IsReason mode days frame refusals.UnknownCommand =
    IsUnspelled mode days frame × (NamesCommand frame → ⊥)
IsReason mode days frame refusals.BadSyntax = IsUnspelled mode days frame × NamesCommand frame
IsReason mode days frame refusals.NotInProfile = IsUnspelled mode days frame × NamesCommand frame
IsReason mode days frame refusals.NoMemory = NamesCommand frame
IsReason mode days frame _ = ⊥

-- The reason that a fault gives.
abbrev pub refusal_of_fault : ParseFault → Refusal
refusal_of_fault faults.NoTag = refusals.BadSyntax
refusal_of_fault faults.UnknownCommand = refusals.UnknownCommand
refusal_of_fault faults.BadSyntax = refusals.BadSyntax
refusal_of_fault faults.NotInProfile = refusals.NotInProfile
refusal_of_fault faults.NoMemory = refusals.NoMemory

-- The answer to a frame with a fault.
abbrev pub IsFaultAnswer : List ℕ → ParseFault → Answer → Type 0
IsFaultAnswer frame why answer =
    ((HasTag frame → ⊥) × (answer ≡ answers.NoTag))
    ⊎ ((tag rest : List ℕ) × IsTagged frame tag rest
    × (answer ≡ answers.Refused tag (refusal_of_fault why)))

-- The answer to a frame that is no command.
abbrev pub IsFault : Mode → Option (List SentDay) → List ℕ → Taken → Type 0
IsFault mode days frame it =
    ((HasTag frame → ⊥) × (it ≡ taken.Answer answers.NoTag))
    ⊎ ((tag rest : List ℕ) × (reason : Refusal)
    × IsTagged frame tag rest
    × IsReason mode days frame reason
    × (it ≡ taken.Answer (answers.Refused tag reason)))

-- What a frame is to a session that awaits a command, without or with the days on which messages
-- were sent: a command of the profile; if it spells none,
-- a form of IMAP4rev1; else it is refused, as without a front.
abbrev pub IsCommandFrame : Mode → Option (List SentDay) → List ℕ → Taken → Type 0
IsCommandFrame mode days frame it =
    IsOfProfile mode frame it
    ⊎ ((((tagged : Tagged) → IsSpelled tagged frame → ⊥) × IsFrontForm mode days frame it)
    ⊎ IsFault mode days frame it)

-- What a line of IDLE is (RFC 2177, section 3).
abbrev pub IsLineOf : List ℕ → IdleLine → Type 0
IsLineOf frame lines.Done = EndsIdle frame
IsLineOf frame lines.Other = EndsIdle frame → ⊥

-- What a frame is to a session.
abbrev pub IsTaken : Mode → Awaited → List ℕ → Taken → Type 0
IsTaken mode awaited.Command frame it = IsCommandFrame mode None frame it
IsTaken mode (awaited.Line tag) frame it =
    (line : IdleLine) × IsLineOf frame line × (it ≡ taken.Line tag line)
IsTaken mode (awaited.Response tag) frame it = IsOfResponse tag frame it
