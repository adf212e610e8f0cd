-- The parser's steps, production by production, as functions with the same results as the code (RFC
-- 9051, section 9). Strings, Sets, Dates, MessageFlags and Items of `imap_syntax` say which text
-- means what.

use Rattle.std.specs.Prelude.{◌≡◌, ℕ, zero, suc, Bool, true, false, ◌||◌, ◌==◌, nat_lt, List, []}
use Rattle.std.specs.Prelude.{◌∷◌, codes, length, take, drop, Option, Some, None, Result}
use Rattle.std.specs.Prelude.{if◌then◌else◌, ◌&&◌, not, pos}
use Rattle.std.specs.Str.{bytes_eq}
use Rattle.imap_types.specs.Keywords.{to_lower_case, with_word}
use Rattle.imap_types.specs.Names.{fold_inbox}
pub use Rattle.imap_types.specs.ReaderSteps.{◌>>=◌, IsReadingBy, after, with_prefix}
use Rattle.jiff.specs.Words.{days_in_month}
use Rattle.imap_types.specs.declared.sequence_set.SequenceBound.{SequenceBound}
use Rattle.imap_types.specs.declared.sequence_set.SequenceBound.TheVariants.{Number, Greatest}
use Rattle.imap_types.specs.declared.sequence_set.SequenceRange.{SequenceRange}
use Rattle.imap_types.specs.declared.flags.Flags.{Flags}
use Rattle.imap_types.specs.declared.section.Section.{Section}
use Rattle.imap_types.specs.declared.section.Section.TheVariants.{Whole, Header, Text, Fields}
use Rattle.imap_types.specs.declared.section.Section.TheVariants.{FieldsNot}
use Rattle.imap_types.specs.DateTimes.{month_of}
use Rattle.imap_types.specs.declared.day.Day.{Day}
use Rattle.imap_syntax.specs.Items.{fast_items}
use Rattle.imap_syntax.specs.declared.fetch.FetchItem.{FetchItem}
use Rattle.imap_syntax.specs.declared.fetch.FetchItem.TheVariants as items
use Rattle.imap_syntax.specs.declared.fetch.FetchWord.{FetchWord}
use Rattle.imap_syntax.specs.declared.fetch.FetchWord.TheVariants as fetch
use Rattle.imap_syntax.specs.declared.fetch.Partial.{Partial}
use Rattle.imap_syntax.specs.declared.fetch.SectionWord.{SectionWord}
use Rattle.imap_syntax.specs.declared.fetch.SectionWord.TheVariants as sections
use Rattle.imap_syntax.specs.declared.flags.Flag.{Flag}
use Rattle.imap_syntax.specs.declared.flags.Flag.TheVariants.{System, Keyword}
use Rattle.imap_syntax.specs.declared.flags.SystemFlag.TheVariants.{Answered, Flagged, Deleted}
use Rattle.imap_syntax.specs.declared.flags.SystemFlag.TheVariants.{Seen, Draft}
use Rattle.imap_syntax.specs.Strings.{begins_with, is_in, is_quotable, number_of}
use Rattle.imap_syntax.specs.Words.{fetch_word, fetch_words, section_word, section_words}
use Rattle.imap_syntax.specs.Words.{system_flags, system_word}
use Rattle.imap_syntax.specs.declared.octet_class.OctetClass.{OctetClass}
use Rattle.imap_syntax.specs.declared.octet_class.OctetClass.TheVariants.{Atom, Astring, Digit}
use Rattle.imap_syntax.specs.declared.octet_class.OctetClass.TheVariants.{Item}
use Rattle.imap_grammar.specs.declared.fault.ParseFault.{ParseFault}
use Rattle.imap_grammar.specs.declared.fault.ParseFault.TheVariants.{NoMemory, BadSyntax}
use Rattle.imap_grammar.specs.declared.fault.ParseFault.TheVariants.{NotInProfile, NoTag}
use Rattle.imap_grammar.specs.declared.fault.ParseFault.TheVariants.{UnknownCommand}

-- A fault means that nothing was read. No clause says which of the two faults of syntax it is;
-- `NoMemory` may take the place of either, or of a value.
abbrev pub IsFaultOfReading : {Y : Type 0} → ParseFault → Option Y → Type 0
IsFaultOfReading NoMemory read = Unit {0}
IsFaultOfReading BadSyntax read = read ≡ None
IsFaultOfReading NotInProfile read = read ≡ None
IsFaultOfReading NoTag read = ⊥
IsFaultOfReading UnknownCommand read = ⊥

-- The result of the code is that of a reading function, unless memory runs out.
abbrev pub IsReading : {X Y : Type 0} → (X → Y) → Result X ParseFault → Option Y → Type 0
IsReading = IsReadingBy IsFaultOfReading

-- The first of the values whose word is this text, ignoring ASCII case.
abbrev pub named : {W : Type 0} → (W → List ℕ) → List W → List ℕ → Option W
named word_of [] text = None
named word_of (value ∷ values) text =
    if bytes_eq (to_lower_case text) (to_lower_case (word_of value)) then Some value
    else named word_of values text

-- Whether a day exists in the calendar, as a test.
abbrev pub is_date : ℕ → ℕ → ℕ → Bool
is_date year month day =
    not (nat_lt 9999 year)
    && (not (nat_lt month 1)
    && (not (nat_lt 12 month)
    && (not (nat_lt day 1) && not (nat_lt (days_in_month (pos year) month) day))))

-- The octets, with a zero (48) in place of a space (32) after the first octet.
abbrev pub zeroed : List ℕ → List ℕ
zeroed [] = []
zeroed (octet ∷ []) = octet ∷ []
zeroed (octet ∷ next ∷ octets) = if next == 32 then octet ∷ 48 ∷ octets else octet ∷ next ∷ octets

-- The longest prefix whose octets all pass a test, and the rest.
abbrev pub span : (ℕ → Bool) → List ℕ → List ℕ × List ℕ
span passes [] = ([], [])
span passes (octet ∷ octets) =
    if passes octet then (octet ∷ (span passes octets).0, (span passes octets).1)
    else ([], octet ∷ octets)

-- Whether there are no octets.
abbrev pub is_nil : List ℕ → Bool
is_nil [] = true
is_nil (octet ∷ octets) = false

-- A space and a value.
abbrev pub spaced : {A : Type 0} → (List ℕ → Option (A × List ℕ)) → List ℕ → Option (A × List ℕ)
spaced read octets = after (32 ∷ []) octets >>= read

-- One or more octets of a class.
abbrev pub run_at : OctetClass → List ℕ → Option (List ℕ × List ℕ)
run_at class octets =
    if is_nil (span (is_in class) octets).0 then None else Some (span (is_in class) octets)

-- The string up to its closing quote, without escapes; the flag says whether a `\` is just before
-- the octets.
abbrev pub quoted_at : Bool → List ℕ → Option (List ℕ × List ℕ)
quoted_at after_escape [] = None
quoted_at true (octet ∷ octets) =
    if (octet == 34) || (octet == 92) then with_prefix (octet ∷ []) (quoted_at false octets)
    else None
quoted_at false (octet ∷ octets) =
    if octet == 34 then Some ([], octets)
    else (if octet == 92 then quoted_at true octets
    else (if is_quotable octet then with_prefix (octet ∷ []) (quoted_at false octets) else None))

-- The octets after a `+` (43), if they begin with one.
abbrev pub after_plus : List ℕ → List ℕ
after_plus [] = []
after_plus (octet ∷ octets) = if octet == 43 then octets else octet ∷ octets

-- The first `count` octets.
abbrev pub octets_at : ℕ → List ℕ → Option (List ℕ × List ℕ)
octets_at count octets =
    if nat_lt (length octets) count then None else Some (take count octets, drop count octets)

-- A literal after its `{`.
unfoldable pub literal_at : List ℕ → Option (List ℕ × List ℕ)
literal_at octets = do
  digits ← run_at Digit octets
  rest ← after (125 ∷ 13 ∷ 10 ∷ []) (after_plus digits.1)
  octets_at (number_of 0 digits.0) rest

-- A string: quoted, a literal, or octets of a class without quotes.
abbrev pub text_at : OctetClass → List ℕ → Option (List ℕ × List ℕ)
text_at class [] = None
text_at class (octet ∷ octets) =
    if octet == 34 then quoted_at false octets
    else (if octet == 123 then literal_at octets else run_at class (octet ∷ octets))

-- Two values, one after another.
abbrev pub both : {A B : Type 0} → (List ℕ → Option (A × List ℕ)) → (List ℕ → Option (B × List ℕ))
    → List ℕ → Option ((A × B) × List ℕ)
both read more octets =
    read octets >>= λ first. more first.1 >>= λ second. Some ((first.0, second.0), second.1)

-- A value, put through a function.
abbrev pub map_read : {A B : Type 0} → (A → B) → (List ℕ → Option (A × List ℕ)) → List ℕ
    → Option (B × List ℕ)
map_read make read octets = read octets >>= λ first. Some (make first.0, first.1)

-- A separator and a value, or nothing if the octets don't begin with the separator.
abbrev pub next_at : {A : Type 0} → ℕ → (List ℕ → Option (A × List ℕ)) → List ℕ
    → Option (Option (A × List ℕ))
next_at separator read [] = Some None
next_at separator read (octet ∷ octets) =
    if octet == separator then (read octets >>= λ x. Some (Some x)) else Some None

-- The value that was read and those that `more` reads after it; no values if none was read.
abbrev pub and_more : {A : Type 0} → (List ℕ → Option (List A × List ℕ)) → List ℕ
    → Option (A × List ℕ) → Option (List A × List ℕ)
and_more more octets None = Some ([], octets)
and_more more octets (Some x) = more x.1 >>= λ others. Some (x.0 ∷ others.0, others.1)

-- At most n values, each after a separator.
abbrev pub more_at : {A : Type 0} → ℕ → ℕ → (List ℕ → Option (A × List ℕ)) → List ℕ
    → Option (List A × List ℕ)
more_at zero separator read octets = Some ([], octets)
more_at (suc n) separator read octets =
    next_at separator read octets >>= λ next. and_more (more_at n separator read) octets next

-- One or more values with separators between them; there are at most as many as octets.
abbrev pub listed_at : {A : Type 0} → ℕ → (List ℕ → Option (A × List ℕ)) → List ℕ
    → Option (List A × List ℕ)
listed_at separator read octets =
    read octets
    >>= λ first. more_at (length octets) separator read first.1
    >>= λ others. Some (first.0 ∷ others.0, others.1)

-- A mailbox name, with INBOX in capitals.
abbrev pub mailbox_at : List ℕ → Option (List ℕ × List ℕ)
mailbox_at = map_read fold_inbox (text_at Astring)

-- A value, after which `skip` must succeed.
abbrev pub before : {A : Type 0} → (List ℕ → Option (A × List ℕ)) → (List ℕ → Option (List ℕ))
    → List ℕ → Option (A × List ℕ)
before read skip octets = read octets >>= λ first. skip first.1 >>= λ rest. Some (first.0, rest)

-- A value between two octets.
abbrev pub enclosed_at : {A : Type 0} → ℕ → ℕ → (List ℕ → Option (A × List ℕ)) → List ℕ
    → Option (A × List ℕ)
enclosed_at opening closing read octets =
    after (opening ∷ []) octets >>= before read (after (closing ∷ []))

-- A value in parentheses.
abbrev pub parens_at : {A : Type 0} → (List ℕ → Option (A × List ℕ)) → List ℕ → Option (A × List ℕ)
parens_at = enclosed_at 40 41

-- The octets after a word, which may be in any letter case.
abbrev pub after_word : List ℕ → List ℕ → Option (List ℕ)
after_word token octets =
    if bytes_eq (to_lower_case (span (is_in Item) octets).0) (to_lower_case token)
    then Some (span (is_in Item) octets).1
    else None

-- The value whose word the octets begin with, ignoring ASCII case.
abbrev pub named_at : {W : Type 0} → (W → List ℕ) → List W → List ℕ → Option (W × List ℕ)
named_at word_of values octets =
    named word_of values (span (is_in Item) octets).0
    >>= λ value. Some (value, (span (is_in Item) octets).1)

-- ---- Numbers and sets.

-- A number up to a limit.
abbrev pub number_at : ℕ → List ℕ → Option (ℕ × List ℕ)
number_at limit octets =
    run_at Digit octets
    >>= λ digits. if nat_lt limit (number_of 0 digits.0) then None
    else Some (number_of 0 digits.0, digits.1)

-- A number of 32 bits from 1 on, without leading zeros.
abbrev pub nz_at : List ℕ → Option (ℕ × List ℕ)
nz_at octets =
    run_at Digit octets >>= λ digits.
    if begins_with 48 digits.0 || nat_lt 4294967295 (number_of 0 digits.0) then None
    else Some (number_of 0 digits.0, digits.1)

-- A number or `*` (42).
abbrev pub bound_at : List ℕ → Option (SequenceBound × List ℕ)
bound_at [] = None
bound_at (octet ∷ octets) =
    if octet == 42 then Some (Greatest, octets) else map_read Number nz_at (octet ∷ octets)

-- A range after its first bound: `:` (58) and a second bound, or nothing.
abbrev pub ranged_at : SequenceBound → List ℕ → Option (SequenceRange × List ℕ)
ranged_at low [] = Some (record { first = low; last = low }, [])
ranged_at low (octet ∷ octets) =
    if octet
    == 58 then (bound_at octets >>= λ high. Some (record { first = low; last = high.0 }, high.1))
    else Some (record { first = low; last = low }, octet ∷ octets)

-- A range: one bound or two.
abbrev pub range_at : List ℕ → Option (SequenceRange × List ℕ)
range_at octets = bound_at octets >>= λ low. ranged_at low.0 low.1

-- A sequence set: ranges separated by commas (44).
abbrev pub set_at : List ℕ → Option (List SequenceRange × List ℕ)
set_at = listed_at 44 range_at

-- ---- Dates.

-- A number up to a limit in `least` to `most` digits.
abbrev pub digits_at : ℕ → ℕ → ℕ → List ℕ → Option (ℕ × List ℕ)
digits_at least most limit octets =
    run_at Digit octets >>= λ digits.
    if nat_lt (length digits.0) least
    || (nat_lt most (length digits.0) || nat_lt limit (number_of 0 digits.0)) then None
    else Some (number_of 0 digits.0, digits.1)

-- A month's name.
abbrev pub month_name_at : List ℕ → Option (ℕ × List ℕ)
month_name_at = map_read month_of (octets_at 3)

-- A hyphen (45) and a value.
abbrev pub hyphened : {A : Type 0} → (List ℕ → Option (A × List ℕ)) → List ℕ → Option (A × List ℕ)
hyphened read octets = after (45 ∷ []) octets >>= read

-- A day, a month and a year with hyphens between them.
abbrev pub date_parts_at : List ℕ → Option ((ℕ × (ℕ × ℕ)) × List ℕ)
date_parts_at =
    both (digits_at 1 2 31) (hyphened (both month_name_at (hyphened (digits_at 4 4 9999))))

-- A day that exists in the calendar.
abbrev pub date_text_at : List ℕ → Option (Day × List ℕ)
date_text_at octets =
    date_parts_at octets >>= λ parts.
    if is_date parts.0.1.1 parts.0.1.0 parts.0.0
    then Some (record { year = parts.0.1.1; month = parts.0.1.0; day = parts.0.0 }, parts.1)
    else None

-- A day, with or without quotes.
abbrev pub date_at : List ℕ → Option (Day × List ℕ)
date_at [] = None
date_at (octet ∷ octets) =
    if octet == 34 then before date_text_at (after (34 ∷ [])) octets
    else date_text_at (octet ∷ octets)

-- ---- Modifiers, flags and items.

-- Whether the octets begin with a space and then `mark`.
abbrev pub follows_space : ℕ → List ℕ → Bool
follows_space mark [] = false
follows_space mark (octet ∷ []) = false
follows_space mark (octet ∷ next ∷ octets) = (octet == 32) && (next == mark)

-- A space and a value, or nothing if the octets don't begin with a space and then `mark`.
abbrev pub peeked_at : {A : Type 0} → ℕ → (List ℕ → Option (A × List ℕ)) → List ℕ
    → Option (Option A × List ℕ)
peeked_at mark read octets =
    if follows_space mark octets then map_read Some (spaced read) octets else Some (None, octets)

-- A modifier with its mod-sequence, in parentheses.
abbrev pub modifier_group_at : List ℕ → List ℕ → Option (ℕ × List ℕ)
modifier_group_at token =
    parens_at (λ octets. after_word token octets >>= spaced (number_at 9223372036854775807))

-- A space and a modifier, or nothing.
abbrev pub modifier_at : List ℕ → List ℕ → Option (Option ℕ × List ℕ)
modifier_at token = peeked_at 40 (modifier_group_at token)

-- A `\` (92) and a system flag, or a keyword.
abbrev pub flag_at : List ℕ → Option (Flag × List ℕ)
flag_at [] = None
flag_at (octet ∷ octets) =
    if octet == 92 then map_read System (named_at system_word system_flags) octets
    else map_read Keyword (run_at Atom) (octet ∷ octets)

-- Zero or more flags up to the closing parenthesis.
abbrev pub maybe_flags_at : List ℕ → Option (List Flag × List ℕ)
maybe_flags_at [] = None
maybe_flags_at (octet ∷ octets) =
    if octet == 41 then Some ([], octet ∷ octets) else listed_at 32 flag_at (octet ∷ octets)

-- Zero or more flags in parentheses.
abbrev pub flag_group_at : List ℕ → Option (List Flag × List ℕ)
flag_group_at = parens_at maybe_flags_at

-- The flags of STORE: in parentheses, or one or more without.
abbrev pub stored_texts_at : List ℕ → Option (List Flag × List ℕ)
stored_texts_at [] = None
stored_texts_at (octet ∷ octets) =
    if octet == 40 then flag_group_at (octet ∷ octets) else listed_at 32 flag_at (octet ∷ octets)

-- The empty set of flags.
abbrev pub no_flags : Flags
no_flags =
    record {
      answered = false;
      flagged = false;
      deleted = false;
      seen = false;
      draft = false;
      keywords = [];
    }

-- A set of flags with one flag added.
abbrev pub with_flag : Flags → Flag → Flags
with_flag flags (System Answered) = record flags { answered = true }
with_flag flags (System Flagged) = record flags { flagged = true }
with_flag flags (System Deleted) = record flags { deleted = true }
with_flag flags (System Seen) = record flags { seen = true }
with_flag flags (System Draft) = record flags { draft = true }
with_flag flags (Keyword keyword) =
    record flags { keywords = with_word (to_lower_case keyword) flags.keywords }

-- A set of flags with a list of flags added.
abbrev pub flags_of : Flags → List Flag → Flags
flags_of flags [] = flags
flags_of flags (one ∷ more) = flags_of (with_flag flags one) more

-- The flags of STORE as a set.
abbrev pub store_flags_at : List ℕ → Option (Flags × List ℕ)
store_flags_at = map_read (flags_of no_flags) stored_texts_at

-- A space and names of header fields in parentheses.
abbrev pub field_names_at : List ℕ → Option (List (List ℕ) × List ℕ)
field_names_at = spaced (parens_at (listed_at 32 (text_at Astring)))

-- A section after its word.
abbrev pub section_tail_at : SectionWord → List ℕ → Option (Section × List ℕ)
section_tail_at sections.Header octets = Some (Header, octets)
section_tail_at sections.Text octets = Some (Text, octets)
section_tail_at sections.Fields octets = map_read Fields field_names_at octets
section_tail_at sections.FieldsNot octets = map_read FieldsNot field_names_at octets

-- A section up to its closing bracket (93).
abbrev pub section_at : List ℕ → Option (Section × List ℕ)
section_at [] = None
section_at (octet ∷ octets) =
    if octet == 93 then Some (Whole, octet ∷ octets)
    else (named_at section_word section_words (octet ∷ octets)
    >>= λ parsed. section_tail_at parsed.0 parsed.1)

-- A section in brackets.
abbrev pub bracketed_at : List ℕ → Option (Section × List ℕ)
bracketed_at = enclosed_at 91 93 section_at

-- `<start.count>` or nothing.
abbrev pub partial_at : List ℕ → Option (Option Partial × List ℕ)
partial_at [] = Some (None, [])
partial_at (octet ∷ octets) =
    if octet == 60 then
    (number_at 4294967295 octets
    >>= λ start. after (46 ∷ []) start.1
    >>= λ dot. nz_at dot >>= λ count. after (62 ∷ []) count.1 >>= λ rest.
    Some (Some (record { start = start.0; count = count.0 }), rest))
    else Some (None, octet ∷ octets)

-- The section and the partial range of BODY or BODY.PEEK.
abbrev pub body_at : Bool → List ℕ → Option (FetchItem × List ℕ)
body_at peek = map_read (λ parts. items.Body peek parts.0 parts.1) (both bracketed_at partial_at)

-- An item after its word.
abbrev pub item_tail_at : FetchWord → List ℕ → Option (FetchItem × List ℕ)
item_tail_at fetch.Flags octets = Some (items.Flags, octets)
item_tail_at fetch.InternalDate octets = Some (items.InternalDate, octets)
item_tail_at fetch.Size octets = Some (items.Size, octets)
item_tail_at fetch.Uid octets = Some (items.Uid, octets)
item_tail_at fetch.ModSeq octets = Some (items.ModSeq, octets)
item_tail_at fetch.Body octets = body_at false octets
item_tail_at fetch.BodyPeek octets = body_at true octets

-- An item.
abbrev pub item_at : List ℕ → Option (FetchItem × List ℕ)
item_at octets = named_at fetch_word fetch_words octets >>= λ parsed. item_tail_at parsed.0 parsed.1

-- FAST or one item.
abbrev pub fast_or_item_at : List ℕ → Option (List FetchItem × List ℕ)
fast_or_item_at octets =
    if bytes_eq (to_lower_case (span (is_in Item) octets).0) (to_lower_case (codes "FAST")) then
    Some (fast_items, (span (is_in Item) octets).1)
    else map_read (λ item. item ∷ []) item_at octets

-- Items in parentheses, FAST, or one item.
abbrev pub fetched_at : List ℕ → Option (List FetchItem × List ℕ)
fetched_at [] = None
fetched_at (octet ∷ octets) =
    if octet == 40 then before (listed_at 32 item_at) (after (41 ∷ [])) octets
    else fast_or_item_at (octet ∷ octets)
