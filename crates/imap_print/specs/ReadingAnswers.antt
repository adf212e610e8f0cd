-- The reader's steps for answers, as functions that the code computes. `text_of_answer` of
-- `imap_answers` says what an answer's text is (RFC 9051, section 7); `read` is proved to invert
-- it.

use Rattle.std.specs.Prelude.{ℕ, zero, suc, ◌+◌, Bool, true, false, ◌&&◌, ◌==◌, List, [], ◌∷◌}
use Rattle.std.specs.Prelude.{length, codes, Option, Some, None, if◌then◌else◌}
use Rattle.imap_types.specs.DateTimeTests.{is_date_time}
use Rattle.imap_types.specs.Keywords.{are_keywords}
use Rattle.imap_types.specs.declared.flags.Flags.{Flags}
use Rattle.imap_types.specs.declared.section.Section.{Section}
use Rattle.imap_types.specs.declared.section.Section.TheVariants as section
use Rattle.imap_answers.specs.declared.answer.Answer.{Answer}
use Rattle.imap_answers.specs.declared.answer.Answer.TheVariants as answer
use Rattle.imap_answers.specs.declared.codes.Code.{Code}
use Rattle.imap_answers.specs.declared.codes.Code.TheVariants as code
use Rattle.imap_answers.specs.declared.codes.Notice.{Notice}
use Rattle.imap_answers.specs.declared.codes.Notice.TheVariants as notice
use Rattle.imap_answers.specs.declared.fixed_words.CompletedWord.{CompletedWord}
use Rattle.imap_answers.specs.declared.fetch_items.FetchItems.{FetchItems}
use Rattle.imap_answers.specs.declared.fetch_items.SectionData.{SectionData}
use Rattle.imap_answers.specs.declared.mailbox.SearchResults.{SearchResults}
use Rattle.imap_answers.specs.declared.mailbox.StatusItems.{StatusItems}
use Rattle.imap_print.specs.declared.scanner.ScanClass.TheVariants.{Tag}
use Rattle.imap_print.specs.Reading.{◌>>=◌, ListReading, after, octets_at, field_at, flag_at}
use Rattle.imap_print.specs.Reading.{is_in, item_at, lead, literal_at, number_from, or_else, set_at}
use Rattle.imap_print.specs.Reading.{capped_at_32_bits, map_value, span, string_at, value_with_rest}
use Rattle.imap_print.specs.Reading.{with_prefix, word_at, words_at}
use Rattle.imap_answers.specs.Strings.{crlf}
use Rattle.imap_print.specs.Tables.{all_attributes, bye_reasons, commands, continuations}
use Rattle.imap_print.specs.Tables.{enabled_words, logins, refusals}
use Rattle.imap_answers.specs.Words.{attributes_text, bye_text, command_text, continuation_text}
use Rattle.imap_answers.specs.Words.{enabled_text, greeting_text, refusal_text}

-- Flags of a list, and whether there are none.
unfoldable pub flags_from : List ℕ → Option (ListReading Flags)
flags_from bytes =
    let answered = flag_at true (codes "\\Answered") bytes in
    let flagged = flag_at answered.1 (codes "\\Flagged") answered.2 in
    let deleted = flag_at flagged.1 (codes "\\Deleted") flagged.2 in
    let seen = flag_at deleted.1 (codes "\\Seen") deleted.2 in
    let draft = flag_at seen.1 (codes "\\Draft") seen.2 in
    words_at (length bytes + 1) draft.1 draft.2 >>= λ words.
    (if are_keywords words.0
    then Some (
      record {
        answered = answered.0;
        flagged = flagged.0;
        deleted = deleted.0;
        seen = seen.0;
        draft = draft.0;
        keywords = words.0;
      },
      draft.1 && (length words.0 == 0),
      words.1,
    )
    else None)

-- Flags in parentheses.
unfoldable pub flags_at : List ℕ → Option (Flags × List ℕ)
flags_at bytes = do
  opened ← after (codes "(") bytes
  flags ← flags_from opened
  value_with_rest flags.0 (after (codes ")") flags.2)

-- The flags that can be changed permanently, after the opening parenthesis.
unfoldable pub permanent_from : List ℕ → Option (Option Flags × List ℕ)
permanent_from bytes = do
  flags ← flags_from bytes
  any ← after (lead flags.1 (codes "\\*")) flags.2
  value_with_rest (Some flags.0) (after (codes ")") any)

-- No flags if `()` was skipped, else the flags that can be changed permanently.
abbrev pub permanent_or : Option (List ℕ) → List ℕ → Option (Option Flags × List ℕ)
permanent_or None bytes = after (codes "(") bytes >>= permanent_from
permanent_or (Some rest) bytes = Some (None, rest)

-- The flags that can be changed permanently, in parentheses.
abbrev pub permanent_at : List ℕ → Option (Option Flags × List ℕ)
permanent_at bytes = permanent_or (after (codes "()") bytes) bytes

-- The second set of COPYUID, and the bracket that ends the code.
unfoldable pub last_set_at : List ℕ → Option (List ℕ × List ℕ)
last_set_at bytes = do
  between ← after (codes " ") bytes
  copies ← set_at between
  value_with_rest copies.0 (after (codes "]") copies.1)

-- The two sets of COPYUID.
unfoldable pub sets_at : List ℕ → Option ((List ℕ × List ℕ) × List ℕ)
sets_at bytes = do
  source ← set_at bytes
  copies ← last_set_at source.1
  Some ((source.0, copies.0), copies.1)

-- The UIDVALIDITY and the two sets of COPYUID.
unfoldable pub copyuid_at : List ℕ → Option ((ℕ × List ℕ × List ℕ) × List ℕ)
copyuid_at bytes = do
  beyond ← after (codes " ") (number_from 0 bytes).1
  sets ← sets_at beyond
  Some ((capped_at_32_bits (number_from 0 bytes).0, sets.0.0, sets.0.1), sets.1)

-- A number and the bracket that ends its code.
unfoldable pub number_code_at : List ℕ → Option (ℕ × List ℕ)
number_code_at bytes = do
  rest ← after (codes "]") (number_from 0 bytes).1
  Some ((number_from 0 bytes).0, rest)

-- A reading after a prefix if that was skipped, else another reading.
abbrev pub read_or : {A : Type 0} → Option (List ℕ) → (List ℕ → Option A) → Option A → Option A
read_or None read other = other
read_or (Some rest) read other = read rest

-- The flags that can be changed permanently, and the bracket that ends their code.
unfoldable pub permanent_notice_at : List ℕ → Option (Notice × List ℕ)
permanent_notice_at bytes = do
  flags ← permanent_at bytes
  value_with_rest (notice.PermanentFlags flags.0) (after (codes "]") flags.1)

-- The code of an untagged OK.
unfoldable pub notice_at : List ℕ → Option (Notice × List ℕ)
notice_at bytes =
    read_or (after (codes "[CLOSED]") bytes) (λ rest. Some (notice.Closed, rest))
    (read_or (after (codes "[UIDVALIDITY ") bytes)
    (λ rest. map_value (λ n. notice.UidValidity (capped_at_32_bits n)) (number_code_at rest))
    (read_or (after (codes "[UIDNEXT ") bytes)
    (λ rest. map_value (λ n. notice.UidNext (capped_at_32_bits n)) (number_code_at rest))
    (read_or (after (codes "[HIGHESTMODSEQ ") bytes)
    (λ rest. map_value (λ n. notice.HighestModSeq n) (number_code_at rest))
    (read_or (after (codes "[PERMANENTFLAGS ") bytes) (λ rest. permanent_notice_at rest)
    (read_or (after (codes "[COPYUID ") bytes)
    (λ rest. map_value (λ c. notice.CopyUid c.0 c.1 c.2) (copyuid_at rest)) None)))))

-- The UIDVALIDITY and the UID of APPENDUID.
unfoldable pub appended_at : List ℕ → Option ((ℕ × ℕ) × List ℕ)
appended_at bytes = do
  between ← after (codes " ") (number_from 0 bytes).1
  uid ← number_code_at between
  Some ((capped_at_32_bits (number_from 0 bytes).0, capped_at_32_bits uid.0), uid.1)

-- The set of MODIFIED, and the bracket that ends the code.
unfoldable pub modified_at : List ℕ → Option (Code × List ℕ)
modified_at bytes = do
  refused ← set_at bytes
  value_with_rest (code.Modified refused.0) (after (codes "]") refused.1)

-- The code of a tagged OK.
unfoldable pub code_at : List ℕ → Option (Code × List ℕ)
code_at bytes =
    read_or (after (codes "[READ-WRITE]") bytes) (λ rest. Some (code.ReadWrite, rest))
    (read_or (after (codes "[READ-ONLY]") bytes) (λ rest. Some (code.ReadOnly, rest))
    (read_or (after (codes "[EXPUNGEISSUED]") bytes) (λ rest. Some (code.ExpungeIssued, rest))
    (read_or (after (codes "[APPENDUID ") bytes)
    (λ rest. map_value (λ a. code.AppendUid a.0 a.1) (appended_at rest))
    (read_or (after (codes "[COPYUID ") bytes)
    (λ rest. map_value (λ c. code.CopyUid c.0 c.1 c.2) (copyuid_at rest))
    (read_or (after (codes "[MODIFIED ") bytes) (λ rest. modified_at rest) None)))))

-- A code and a space if a bracket comes next, else none.
abbrev pub code_or : Option (List ℕ) → List ℕ → Option (Option Code × List ℕ)
code_or None bytes = Some (None, bytes)
code_or (Some _) bytes =
    code_at bytes >>= λ code. value_with_rest (Some code.0) (after (codes " ") code.1)

-- The code of a tagged OK and a space, if there is a code.
abbrev pub code_before_at : List ℕ → Option (Option Code × List ℕ)
code_before_at bytes = code_or (after (codes "[") bytes) bytes

-- The number as 32 bits, if any.
abbrev pub small_option : Option ℕ → Option ℕ
small_option None = None
small_option (Some n) = Some (capped_at_32_bits n)

-- The items of STATUS.
unfoldable pub status_items_at : List ℕ → StatusItems × List ℕ
status_items_at bytes =
    let messages = item_at true (codes "MESSAGES ") bytes in
    let uidnext = item_at messages.1 (codes "UIDNEXT ") messages.2 in
    let uidvalidity = item_at uidnext.1 (codes "UIDVALIDITY ") uidnext.2 in
    let unseen = item_at uidvalidity.1 (codes "UNSEEN ") uidvalidity.2 in
    let deleted = item_at unseen.1 (codes "DELETED ") unseen.2 in
    let size = item_at deleted.1 (codes "SIZE ") deleted.2 in
    let modseq = item_at size.1 (codes "HIGHESTMODSEQ ") size.2 in (
      record {
        messages = small_option messages.0;
        uidnext = small_option uidnext.0;
        uidvalidity = small_option uidvalidity.0;
        unseen = small_option unseen.0;
        deleted = small_option deleted.0;
        size = size.0;
        highest_modseq = modseq.0;
      },
      modseq.2,
    )

-- All hits of a search, if their label was skipped, else none.
abbrev pub all_or : Option (List ℕ) → List ℕ → Option (List ℕ × List ℕ)
all_or None bytes = Some ([], bytes)
all_or (Some rest) bytes = set_at rest

-- The results of a search.
unfoldable pub results_at : List ℕ → Option (SearchResults × List ℕ)
results_at bytes =
    let least = item_at false (codes "MIN ") bytes in
    let greatest = item_at false (codes "MAX ") least.2 in
    all_or (after (codes " ALL ") greatest.2) greatest.2 >>= λ all.
    (let count = item_at false (codes "COUNT ") all.1 in
    let modseq = item_at false (codes "MODSEQ ") count.2 in
    Some (
      record {
        min = small_option least.0;
        max = small_option greatest.0;
        all = all.0;
        count = small_option count.0;
        modseq = modseq.0;
      },
      modseq.2,
    ))

-- The next name of a header field.
abbrev pub next_field_at : Bool → List ℕ → Option (List ℕ × List ℕ)
next_field_at is_first bytes = after (lead is_first []) bytes >>= field_at

-- No further names if the parenthesis was skipped, else the next name and those after it.
abbrev pub fields_after : Bool → Option (List ℕ) → List ℕ
    → (List ℕ → Option (List (List ℕ) × List ℕ)) → Option (List (List ℕ) × List ℕ)
fields_after is_first (Some rest) bytes reader = Some ([], rest)
fields_after is_first None bytes reader =
    next_field_at is_first bytes >>= λ name. with_prefix (name.0 ∷ []) (reader name.1)

-- Fewer than `fuel` names of header fields, up to the closing parenthesis.
abbrev pub fields_at : ℕ → Bool → List ℕ → Option (List (List ℕ) × List ℕ)
fields_at zero is_first bytes = None
fields_at (suc fuel) is_first bytes =
    fields_after is_first (after (codes ")") bytes) bytes (fields_at fuel false)

-- The name of a section.
unfoldable pub section_at : List ℕ → Option (Section × List ℕ)
section_at bytes =
    read_or (after (codes "HEADER.FIELDS (") bytes)
    (λ rest. map_value (λ names. section.Fields names) (fields_at (length rest + 1) true rest))
    (read_or (after (codes "HEADER.FIELDS.NOT (") bytes)
    (λ rest. map_value (λ names. section.FieldsNot names) (fields_at (length rest + 1) true rest))
    (read_or (after (codes "HEADER") bytes) (λ rest. Some (section.Header, rest))
    (read_or (after (codes "TEXT") bytes) (λ rest. Some (section.Text, rest))
    (Some (section.Whole, bytes)))))

-- The offset of a partial range if its `<` was skipped, else none.
abbrev pub origin_or : Option (List ℕ) → List ℕ → Option (Option ℕ × List ℕ)
origin_or None bytes = Some (None, bytes)
origin_or (Some digits) bytes =
    after (codes ">") (number_from 0 digits).1
    >>= λ rest. Some (Some (capped_at_32_bits (number_from 0 digits).0), rest)

-- What follows the name of a section: an offset, if any, and the octets.
unfoldable pub data_at : List ℕ → Option ((Option ℕ × List ℕ) × List ℕ)
data_at bytes = do
  beyond ← after (codes "]") bytes
  origin ← origin_or (after (codes "<") beyond) beyond
  between ← after (codes " ") origin.1
  octets ← literal_at between
  Some ((origin.0, octets.0), octets.1)

-- A section with its octets, after the opening bracket.
unfoldable pub body_at : List ℕ → Option (SectionData × List ℕ)
body_at bytes = do
  section ← section_at bytes
  parsed ← data_at section.1
  Some (record { section = section.0; origin = parsed.0.0; octets = parsed.0.1 }, parsed.1)

-- A section and those after it if `BODY[` was skipped, else none.
abbrev pub bodies_after : Option (List ℕ) → List ℕ → (List ℕ → Option (List SectionData × List ℕ))
    → Option (List SectionData × List ℕ)
bodies_after None bytes reader = Some ([], bytes)
bodies_after (Some rest) bytes reader =
    body_at rest >>= λ part. with_prefix (part.0 ∷ []) (reader part.1)

-- Fewer than `fuel` sections with their octets.
abbrev pub bodies_at : ℕ → Bool → List ℕ → Option (List SectionData × List ℕ)
bodies_at zero is_first bytes = None
bodies_at (suc fuel) is_first bytes =
    bodies_after (after (lead is_first (codes "BODY[")) bytes) bytes (bodies_at fuel false)

-- The flags of a message, if their label was skipped.
abbrev pub flags_or : Bool → Option (List ℕ) → List ℕ → Option (ListReading (Option Flags))
flags_or is_first None bytes = Some (None, is_first, bytes)
flags_or is_first (Some rest) bytes = flags_at rest >>= λ flags. Some (Some flags.0, false, flags.1)

-- A date-time.
unfoldable pub date_at : List ℕ → Option (List ℕ × List ℕ)
date_at bytes = do
  date ← octets_at 28 bytes
  if is_date_time date.0 then Some date else None

-- The internal date of a message, if its label was skipped.
abbrev pub date_or : Bool → Option (List ℕ) → List ℕ → Option (ListReading (Option (List ℕ)))
date_or is_first None bytes = Some (None, is_first, bytes)
date_or is_first (Some rest) bytes = date_at rest >>= λ date. Some (Some date.0, false, date.1)

-- The mod-sequence of a message, if its label was skipped.
abbrev pub modseq_or : Bool → Option (List ℕ) → List ℕ → Option (ListReading (Option ℕ))
modseq_or is_first None bytes = Some (None, is_first, bytes)
modseq_or is_first (Some digits) bytes =
    after (codes ")") (number_from 0 digits).1
    >>= λ rest. Some (Some (number_from 0 digits).0, false, rest)

-- The items of FETCH.
unfoldable pub fetch_items_at : List ℕ → Option (FetchItems × List ℕ)
fetch_items_at bytes =
    let uid = item_at true (codes "UID ") bytes in
    flags_or uid.1 (after (lead uid.1 (codes "FLAGS ")) uid.2) uid.2 >>= λ flags.
    date_or flags.1 (after (lead flags.1 (codes "INTERNALDATE ")) flags.2) flags.2 >>= λ date.
    (let size = item_at date.1 (codes "RFC822.SIZE ") date.2 in
    modseq_or size.1 (after (lead size.1 (codes "MODSEQ (")) size.2) size.2 >>= λ modseq.
    bodies_at (length modseq.2 + 1) modseq.1 modseq.2 >>= λ parts.
    Some (
      record {
        uid = small_option uid.0;
        flags = flags.0;
        date = date.0;
        size = size.0;
        modseq = modseq.0;
        sections = parts.0;
      },
      parts.1,
    ))

-- A name in LIST.
unfoldable pub list_at : List ℕ → Option (Answer × List ℕ)
list_at bytes = do
  attributes ← word_at (λ a. attributes_text a.state a.subscribed) all_attributes bytes
  beyond ← after (codes " \"/\" ") attributes.1
  name ← string_at beyond
  Some (answer.List name.0 attributes.0.state attributes.0.subscribed, name.1)

-- The items of STATUS in parentheses.
unfoldable pub status_list_at : List ℕ → Option (StatusItems × List ℕ)
status_list_at bytes = do
  opened ← after (codes " (") bytes
  value_with_rest (status_items_at opened).0 (after (codes ")") (status_items_at opened).1)

-- A mailbox in STATUS.
unfoldable pub status_at : List ℕ → Option (Answer × List ℕ)
status_at bytes = do
  name ← string_at bytes
  items ← status_list_at name.1
  Some (answer.Status name.0 items.0, items.1)

-- The results of the search with this tag, after the tag.
abbrev pub search_from : List ℕ → Bool → List ℕ → Option (Answer × List ℕ)
search_from tag by_uid bytes =
    map_value (λ results. answer.Search tag by_uid results) (results_at bytes)

-- The results of a search, from its tag on.
unfoldable pub search_at : List ℕ → Option (Answer × List ℕ)
search_at bytes =
    if length (span (is_in Tag) bytes).0 == 0 then None
    else
    read_or (after (codes "\") UID") (span (is_in Tag) bytes).1)
    (λ rest. search_from (span (is_in Tag) bytes).0 true rest)
    (after (codes "\")") (span (is_in Tag) bytes).1
    >>= λ rest. search_from (span (is_in Tag) bytes).0 false rest)

-- A message in FETCH, after its number.
unfoldable pub fetch_at : ℕ → List ℕ → Option (Answer × List ℕ)
fetch_at number bytes = do
  items ← fetch_items_at bytes
  value_with_rest (answer.Fetch number items.0) (after (codes ")") items.1)

-- The code of an untagged OK, after the OK.
unfoldable pub untagged_ok_at : List ℕ → Option (Answer × List ℕ)
untagged_ok_at bytes = do
  notice ← notice_at bytes
  value_with_rest (answer.UntaggedOk notice.0) (after (codes " ok") notice.1)

-- An untagged answer that is one fixed text.
unfoldable pub fixed_at : List ℕ → Option (Answer × List ℕ)
fixed_at bytes =
    read_or (after (codes "CAPABILITY IMAP4rev2 IDLE CONDSTORE") bytes)
    (λ rest. Some (answer.Capability, rest))
    (read_or (after (codes "NAMESPACE ((\"\" \"/\")) NIL NIL") bytes)
    (λ rest. Some (answer.Namespace, rest))
    (read_or (after (codes "BAD no tag") bytes) (λ rest. Some (answer.NoTag, rest))
    (value_with_rest answer.LiteralTooLong (after (codes "NO [LIMIT] literal too long") bytes))))

-- An untagged answer that begins with a word.
unfoldable pub word_answer_at : List ℕ → Option (Answer × List ℕ)
word_answer_at bytes =
    read_or (after (codes "OK ") bytes) (λ rest. untagged_ok_at rest)
    (read_or (after (codes "FLAGS ") bytes)
    (λ rest. map_value (λ flags. answer.Flags flags) (flags_at rest))
    (read_or (after (codes "LIST ") bytes) (λ rest. list_at rest)
    (read_or (after (codes "STATUS ") bytes) (λ rest. status_at rest)
    (read_or (after (codes "ESEARCH (TAG \"") bytes) (λ rest. search_at rest)
    (fixed_at bytes)))))

-- An untagged answer that begins with a number, else one that begins with a word.
abbrev pub numbered_at : ℕ → List ℕ → List ℕ → Option (Answer × List ℕ)
numbered_at number rest bytes =
    read_or (after (codes " EXISTS") rest)
    (λ closed. Some (answer.Exists (capped_at_32_bits number), closed))
    (read_or (after (codes " EXPUNGE") rest)
    (λ closed. Some (answer.Expunge (capped_at_32_bits number), closed))
    (read_or (after (codes " FETCH (") rest) (λ items. fetch_at (capped_at_32_bits number) items)
    (word_answer_at bytes)))

-- An untagged answer, after its `* `.
unfoldable pub untagged_at : List ℕ → Option (Answer × List ℕ)
untagged_at bytes = numbered_at (number_from 0 bytes).0 (number_from 0 bytes).1 bytes

-- An answer without a tag.
unfoldable pub star_at : List ℕ → Option (Answer × List ℕ)
star_at bytes =
    or_else (map_value (λ login. answer.Greeting login) (word_at greeting_text logins bytes))
    (or_else
    (map_value (λ awaited. answer.Continue awaited) (word_at continuation_text continuations bytes))
    (or_else
    (map_value (λ extensions. answer.Enabled extensions) (word_at enabled_text enabled_words bytes))
    (or_else (map_value (λ reason. answer.Bye reason) (word_at bye_text bye_reasons bytes))
    (after (codes "* ") bytes >>= untagged_at))))

-- The name of a completed command, and `completed`.
unfoldable pub done_at : List ℕ → Option (CompletedWord × List ℕ)
done_at bytes = do
  command ← word_at command_text commands bytes
  value_with_rest command.0 (after (codes " completed") command.1)

-- The name of a completed command, with its tag.
abbrev pub tagged_done_at : List ℕ → List ℕ → Option ((List ℕ × CompletedWord) × List ℕ)
tagged_done_at tag bytes = done_at bytes >>= λ command. Some ((tag, command.0), command.1)

-- The tagged line of a completed command, after the OK.
unfoldable pub completed_at : List ℕ → List ℕ → Option (Answer × List ℕ)
completed_at tag bytes = do
  code ← code_before_at bytes
  command ← done_at code.1
  Some (answer.Completed tag code.0 command.0, command.1)

-- A tagged line, after its tag.
unfoldable pub tagged_at : List ℕ → List ℕ → Option (Answer × List ℕ)
tagged_at tag bytes = do
  rest ← after (codes " ") bytes
  read_or (after (codes "OK ") rest) (λ more. completed_at tag more)
      (map_value (λ reason. answer.Refused tag reason) (word_at refusal_text refusals rest))

-- An answer without its line end.
unfoldable pub answer_at : List ℕ → Option (Answer × List ℕ)
answer_at bytes =
    if length (span (is_in Tag) bytes).0 == 0 then star_at bytes
    else tagged_at (span (is_in Tag) bytes).0 (span (is_in Tag) bytes).1

-- An answer with its line end.
unfoldable pub line_at : List ℕ → Option (Answer × List ℕ)
line_at bytes = do
  parsed ← answer_at bytes
  value_with_rest parsed.0 (after crlf parsed.1)
