-- The text of each answer (RFC 9051, section 7; RFC 7162, section 3.1).

use Rattle.std.specs.Prelude.{ℕ, Bool, true, false, List, [], ◌∷◌, ◌++◌, map, codes, decimal}
use Rattle.std.specs.Prelude.{Option, Some, None}
use Rattle.imap_types.specs.Flags.{flag_texts}
use Rattle.imap_types.specs.declared.date_time.DateTime.{DateTime}
use Rattle.imap_types.specs.declared.flags.Flags.{Flags}
use Rattle.imap_types.specs.declared.section.Section.{Section}
use Rattle.imap_types.specs.declared.section.Section.TheVariants as section
use Rattle.imap_answers.specs.declared.answer.Answer.{Answer}
use Rattle.imap_answers.specs.declared.answer.Answer.TheVariants as answer
use Rattle.imap_answers.specs.declared.codes.Code.{Code}
use Rattle.imap_answers.specs.declared.codes.Code.TheVariants as code
use Rattle.imap_answers.specs.declared.codes.Notice.{Notice}
use Rattle.imap_answers.specs.declared.codes.Notice.TheVariants as notice
use Rattle.imap_answers.specs.declared.fixed_words.CompletedWord.{CompletedWord}
use Rattle.imap_answers.specs.declared.fetch_items.FetchItems.{FetchItems}
use Rattle.imap_answers.specs.declared.fetch_items.SectionData.{SectionData}
use Rattle.imap_answers.specs.declared.mailbox.MailboxState.{MailboxState}
use Rattle.imap_answers.specs.declared.mailbox.SearchResults.{SearchResults}
use Rattle.imap_answers.specs.declared.mailbox.StatusItems.{StatusItems}
use Rattle.imap_answers.specs.Strings.{crlf, field_text, item, labelled_number, literal_text}
use Rattle.imap_answers.specs.Strings.{name_text, separated_by, set_text}
use Rattle.imap_answers.specs.Words.{attributes_text, bye_text, command_text, continuation_text}
use Rattle.imap_answers.specs.Words.{enabled_text, greeting_text, refusal_text}

-- Flags in parentheses, separated by spaces (32) (RFC 9051, section 9, flag-list).
abbrev pub flags_text : Flags → List ℕ
flags_text flags = codes "(" ++ separated_by 32 (flag_texts flags) ++ codes ")"

-- The flags that can be changed permanently: these and any new keyword, or none (RFC 9051, section
-- 7.1, PERMANENTFLAGS).
abbrev pub permanent_text : Option Flags → List ℕ
permanent_text None = codes "()"
permanent_text (Some flags) =
    codes "(" ++ separated_by 32 (flag_texts flags ++ codes "\\*" ∷ []) ++ codes ")"

-- The UIDs of the copied messages, then those of their copies.
abbrev pub sets_text : List ℕ → List ℕ → List ℕ
sets_text source copies = set_text source ++ codes " " ++ set_text copies

-- The UIDVALIDITY of the copies, then the UIDs of sources and copies (RFC 9051, section 7.1,
-- COPYUID).
abbrev pub copyuid_text : ℕ → List ℕ → List ℕ → List ℕ
copyuid_text uidvalidity source copies =
    codes "[COPYUID " ++ decimal uidvalidity ++ codes " " ++ sets_text source copies ++ codes "]"

-- The code of an untagged OK (RFC 9051, section 7.1; RFC 7162, section 3.1.2.1).
abbrev pub notice_text : Notice → List ℕ
notice_text notice.Closed = codes "[CLOSED]"
notice_text (notice.UidValidity value) = codes "[UIDVALIDITY " ++ decimal value ++ codes "]"
notice_text (notice.UidNext uid) = codes "[UIDNEXT " ++ decimal uid ++ codes "]"
notice_text (notice.PermanentFlags flags) =
    codes "[PERMANENTFLAGS " ++ permanent_text flags ++ codes "]"
notice_text (notice.HighestModSeq modseq) = codes "[HIGHESTMODSEQ " ++ decimal modseq ++ codes "]"
notice_text (notice.CopyUid uidvalidity source copies) = copyuid_text uidvalidity source copies

-- The UIDVALIDITY and UID of the appended message (RFC 9051, section 7.1, APPENDUID).
abbrev pub appenduid_text : ℕ → ℕ → List ℕ
appenduid_text uidvalidity uid =
    codes "[APPENDUID " ++ decimal uidvalidity ++ codes " " ++ decimal uid ++ codes "]"

-- The code of a tagged OK (RFC 9051, section 7.1; RFC 7162, section 3.1.3).
abbrev pub code_text : Code → List ℕ
code_text code.ReadWrite = codes "[READ-WRITE]"
code_text code.ReadOnly = codes "[READ-ONLY]"
code_text (code.AppendUid uidvalidity uid) = appenduid_text uidvalidity uid
code_text (code.CopyUid uidvalidity source copies) = copyuid_text uidvalidity source copies
code_text (code.Modified refused) = codes "[MODIFIED " ++ set_text refused ++ codes "]"
code_text code.ExpungeIssued = codes "[EXPUNGEISSUED]"

-- The code of a tagged OK and a space, or nothing if there is no code.
abbrev pub code_prefix : Option Code → List ℕ
code_prefix None = []
code_prefix (Some code) = code_text code ++ codes " "

-- The items of STATUS, each a word and its number (RFC 9051, section 7.3.3).
abbrev pub status_texts : StatusItems → List (List ℕ)
status_texts items =
    item (codes "MESSAGES ") items.messages
    ++ item (codes "UIDNEXT ") items.uidnext
    ++ item (codes "UIDVALIDITY ") items.uidvalidity
    ++ item (codes "UNSEEN ") items.unseen
    ++ item (codes "DELETED ") items.deleted
    ++ item (codes "SIZE ") items.size
    ++ item (codes "HIGHESTMODSEQ ") items.highest_modseq

-- All hits, if any (RFC 9051, section 7.3.4).
abbrev pub all_text : List ℕ → List ℕ
all_text [] = []
all_text (hit ∷ hits) = codes " ALL " ++ set_text (hit ∷ hits)

-- The results of a search (RFC 9051, section 7.3.4; RFC 7162, section 3.1.10).
abbrev pub results_text : SearchResults → List ℕ
results_text results =
    labelled_number (codes " MIN ") results.min
    ++ labelled_number (codes " MAX ") results.max
    ++ all_text results.all
    ++ labelled_number (codes " COUNT ") results.count
    ++ labelled_number (codes " MODSEQ ") results.modseq

-- The name of a section, as the command gave it (RFC 9051, section 9, section-spec).
abbrev pub section_text : Section → List ℕ
section_text section.Whole = []
section_text section.Header = codes "HEADER"
section_text section.Text = codes "TEXT"
section_text (section.Fields names) =
    codes "HEADER.FIELDS (" ++ separated_by 32 (map field_text names) ++ codes ")"
section_text (section.FieldsNot names) =
    codes "HEADER.FIELDS.NOT (" ++ separated_by 32 (map field_text names) ++ codes ")"

-- The offset of a partial range, if any (RFC 9051, section 7.5.2).
abbrev pub origin_text : Option ℕ → List ℕ
origin_text None = []
origin_text (Some origin) = codes "<" ++ decimal origin ++ codes ">"

-- A section of a message with its octets (RFC 9051, section 7.5.2).
abbrev pub body_text : SectionData → List ℕ
body_text part =
    codes "BODY[" ++ section_text part.section ++ codes "]" ++ origin_text part.origin ++ codes " "
    ++ literal_text part.octets

-- The flags of a message, if sent (RFC 9051, section 7.5.2).
abbrev pub flags_item : Option Flags → List (List ℕ)
flags_item None = []
flags_item (Some flags) = (codes "FLAGS " ++ flags_text flags) ∷ []

-- The internal date of a message, if sent (RFC 9051, section 7.5.2).
abbrev pub date_item : Option DateTime → List (List ℕ)
date_item None = []
date_item (Some date) = (codes "INTERNALDATE " ++ date) ∷ []

-- The mod-sequence of a message, if sent (RFC 7162, section 3.1.4.1).
abbrev pub modseq_item : Option ℕ → List (List ℕ)
modseq_item None = []
modseq_item (Some modseq) = (codes "MODSEQ (" ++ decimal modseq ++ codes ")") ∷ []

-- The items of FETCH in their order (RFC 9051, section 7.5.2).
abbrev pub fetch_texts : FetchItems → List (List ℕ)
fetch_texts items =
    item (codes "UID ") items.uid
    ++ flags_item items.flags
    ++ date_item items.date
    ++ item (codes "RFC822.SIZE ") items.size
    ++ modseq_item items.modseq
    ++ map body_text items.sections

-- A name in LIST (RFC 9051, section 7.3.1).
abbrev pub list_text : List ℕ → MailboxState → Bool → List ℕ
list_text name state subscribed =
    codes "* LIST " ++ attributes_text state subscribed ++ codes " \"/\" " ++ name_text name

-- A mailbox in STATUS (RFC 9051, section 7.3.3).
abbrev pub status_text : List ℕ → StatusItems → List ℕ
status_text name items =
    codes "* STATUS " ++ name_text name ++ codes " (" ++ separated_by 32 (status_texts items)
    ++ codes ")"

-- The text after the tag in ESEARCH, by whether the hits are UIDs (RFC 9051, section 7.3.4).
abbrev pub uid_label : Bool → List ℕ
uid_label true = codes "\") UID"
uid_label false = codes "\")"

-- The results of the search with this tag, as ESEARCH sends them (RFC 9051, section 7.3.4).
abbrev pub search_text : List ℕ → Bool → SearchResults → List ℕ
search_text tag by_uid results =
    codes "* ESEARCH (TAG \"" ++ tag ++ uid_label by_uid ++ results_text results

-- A message in FETCH (RFC 9051, section 7.5.2).
abbrev pub fetch_text : ℕ → FetchItems → List ℕ
fetch_text number items =
    codes "* " ++ decimal number ++ codes " FETCH (" ++ separated_by 32 (fetch_texts items)
    ++ codes ")"

-- The tagged line of a completed command (RFC 9051, section 7.1.1).
abbrev pub completed_text : List ℕ → Option Code → CompletedWord → List ℕ
completed_text tag code command =
    tag ++ codes " OK " ++ code_prefix code ++ command_text command ++ codes " completed"

-- An answer without its line end.
unfoldable pub line_of_answer : Answer → List ℕ
line_of_answer (answer.Greeting login) = greeting_text login
line_of_answer (answer.Continue awaited) = continuation_text awaited
line_of_answer answer.Capability = codes "* CAPABILITY IMAP4rev2 IDLE CONDSTORE"
line_of_answer (answer.Enabled extensions) = enabled_text extensions
line_of_answer answer.Namespace = codes "* NAMESPACE ((\"\" \"/\")) NIL NIL"
line_of_answer (answer.Flags flags) = codes "* FLAGS " ++ flags_text flags
line_of_answer (answer.Exists count) = codes "* " ++ decimal count ++ codes " EXISTS"
line_of_answer (answer.Expunge number) = codes "* " ++ decimal number ++ codes " EXPUNGE"
line_of_answer (answer.List name state subscribed) = list_text name state subscribed
line_of_answer (answer.UntaggedOk notice) = codes "* OK " ++ notice_text notice ++ codes " ok"
line_of_answer (answer.Status name items) = status_text name items
line_of_answer (answer.Search tag by_uid results) = search_text tag by_uid results
line_of_answer (answer.Fetch number items) = fetch_text number items
line_of_answer (answer.Bye reason) = bye_text reason
line_of_answer answer.NoTag = codes "* BAD no tag"
line_of_answer answer.LiteralTooLong = codes "* NO [LIMIT] literal too long"
line_of_answer (answer.Completed tag code command) = completed_text tag code command
line_of_answer (answer.Refused tag reason) = tag ++ codes " " ++ refusal_text reason

-- An answer's text (RFC 9051, section 7; the words after codes are this project's own).
abbrev pub text_of_answer : Answer → List ℕ
text_of_answer answer = line_of_answer answer ++ crlf
