-- The keys of SEARCH of IMAP4rev1, and the steps that find the same messages in the profile (RFC
-- 3501, sections 6.4.4 and 9, search-key; RFC 7162, section 3.1.5).

use Rattle.std.specs.Prelude.{◌≡◌, ◌⊎◌, ◌<◌, ℕ, zero, suc, Bool, true, false, List, [], ◌∷◌, ◌++◌}
use Rattle.std.specs.Prelude.{codes, map}
use Rattle.imap_types.specs.declared.day.Day.{Day}
use Rattle.imap_types.specs.declared.sequence_set.SequenceBound.TheVariants.{Number}
use Rattle.imap_types.specs.declared.sequence_set.SequenceRange.{SequenceRange}
use Rattle.imap_syntax.specs.Dates.{date}
use Rattle.imap_syntax.specs.Faults.{IsTagged}
use Rattle.imap_syntax.specs.Keys.{all_of, charset, greatest, key_over, return_options}
use Rattle.imap_syntax.specs.Languages.{◌⌢◌, listed, never, sp, word}
use Rattle.imap_syntax.specs.Strings.{number_to, quoted, run}
use Rattle.imap_syntax.specs.declared.command.Command.TheVariants as commands
use Rattle.imap_syntax.specs.declared.command.Tagged.{Tagged}
use Rattle.imap_syntax.specs.declared.octet_class.OctetClass.TheVariants.{Atom}
use Rattle.imap_syntax.specs.declared.search.DateRelation.{DateRelation}
use Rattle.imap_syntax.specs.declared.search.DateRelation.TheVariants as order
use Rattle.imap_syntax.specs.declared.search.SearchOption.{SearchOption}
use Rattle.imap_syntax.specs.declared.search.SearchStep.{SearchStep}
use Rattle.imap_syntax.specs.declared.search.SearchStep.TheVariants.{Not, Test}
use Rattle.imap_syntax.specs.declared.search.SearchTest.TheVariants as tests
use Rattle.rev1_front.specs.SearchForms.{sent_uids}
use Rattle.rev1_front.specs.declared.search_days.SentDay.{SentDay}

-- All messages, and no message.
abbrev pub all_messages : List SearchStep
all_messages = Test tests.All ∷ []

abbrev pub no_message : List SearchStep
no_message = Test tests.All ∷ Not ∷ []

-- The messages with these UIDs.
abbrev pub only_uid : ℕ → SequenceRange
only_uid uid = record { first = Number uid; last = Number uid }

abbrev pub with_uids : List ℕ → List SearchStep
with_uids [] = no_message
with_uids (uid ∷ uids) = Test (tests.Uids (map only_uid (uid ∷ uids))) ∷ []

-- The words of the keys about the day on which a message was sent.
abbrev pub sent_word : DateRelation → List ℕ
sent_word order.Before = codes "SENTBEFORE"
sent_word order.On = codes "SENTON"
sent_word order.Since = codes "SENTSINCE"

-- The name and the type of an entry, each after a space: the mod-sequence of a message is that of
-- each of its flags (RFC 7162, section 3.1.5).
abbrev pub entry : List ℕ → Type 0
entry text = (name kind : List ℕ) × (sp ⌢ quoted name ⌢ sp ⌢ run Atom kind) text

-- A key that the profile hasn't. No message is recent, so all are old.
abbrev pub front_key : List SentDay → List SearchStep → List ℕ → Type 0
front_key days steps text =
    (word (codes "OLD") text × (all_messages ≡ steps))
    ⊎ (((word (codes "NEW") text ⊎ word (codes "RECENT") text) × (no_message ≡ steps))
    ⊎ (((value : ℕ) × (word (codes "MODSEQ") ⌢ entry ⌢ sp ⌢ number_to greatest value) text
    × (Test (tests.ModSeq value) ∷ [] ≡ steps))
    ⊎ ((relation : DateRelation) × (day : Day)
    × (word (sent_word relation) ⌢ sp ⌢ date day) text
    × (with_uids (sent_uids relation day days) ≡ steps))))

-- A key over the language of the keys inside it, with its steps.
abbrev pub rev1_key_over : List SentDay → (List SearchStep → List ℕ → Type 0) → List SearchStep
    → List ℕ → Type 0
rev1_key_over days inner steps text = front_key days steps text ⊎ key_over inner steps text

-- A key with at most `levels` levels of NOT, OR and parentheses.
unfoldable pub rev1_key_within : List SentDay → ℕ → List SearchStep → List ℕ → Type 0
rev1_key_within days zero = rev1_key_over days (λ steps. never)
rev1_key_within days (suc levels) = rev1_key_over days (rev1_key_within days levels)

-- One or more keys, each with at most 63 levels.
abbrev pub rev1_keys : List SentDay → List SearchStep → List ℕ → Type 0
rev1_keys days steps text =
    (keys : List (List SearchStep)) × listed sp (rev1_key_within days 63) keys text
    × (all_of keys ≡ steps)

-- The arguments of SEARCH: options of RETURN, a charset, and keys (RFC 3501, section 9, search; RFC
-- 4731, section 3.1).
abbrev pub rev1_arguments : List SentDay → List SearchOption → List SearchStep → List ℕ → Type 0
rev1_arguments days options steps =
    sp ⌢ return_options options ⌢ charset ⌢ rev1_keys days steps

-- The word of SEARCH, or UID and it (RFC 3501, sections 6.4.4 and 6.4.8).
abbrev pub search_letters : Bool → List ℕ → Type 0
search_letters false = word (codes "SEARCH")
search_letters true = word (codes "UID") ⌢ sp ⌢ word (codes "SEARCH")

-- A frame with this tag and a search.
abbrev pub IsSearchFrame : List SentDay → List ℕ → Bool → List SearchOption → List SearchStep
    → List ℕ → Type 0
IsSearchFrame days tag by_uid options steps frame =
    (letters args : List ℕ)
    × search_letters by_uid letters
    × rev1_arguments days options steps args
    × IsTagged frame tag (letters ++ (args ++ codes "\r\n"))

-- The search of the profile.
abbrev pub search_command : List ℕ → Bool → List SearchOption → List SearchStep → Tagged
search_command tag by_uid options steps = record {
  tag = tag;
  command = commands.Search (record { by_uid = by_uid; options = options; steps = steps });
}

-- UIDs are numbers from 1 to 4,294,967,295 (RFC 3501, section 2.3.1.1).
abbrev pub HaveUids : List SentDay → Type 0
HaveUids [] = Unit {0}
HaveUids (sent ∷ days) = (0 < sent.uid) × (sent.uid < 4294967296) × HaveUids days
