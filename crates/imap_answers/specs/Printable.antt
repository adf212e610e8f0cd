-- Which answers may be sent: the grammar of responses, read as conditions on the value of an answer
-- (RFC 9051, section 9; RFC 7162, section 7).

use Rattle.std.specs.Prelude.{◌≡◌, ℕ, ◌<◌, ◌^◌, Bool, not, ◌&&◌, ◌||◌, ◌==◌, is_some, List, [], ◌∷◌}
use Rattle.std.specs.Prelude.{length, Option, Some, None, IsTrue}
use Rattle.std.specs.List.{list_all}
use Rattle.imap_types.specs.DateTimes.{IsDateTime}
use Rattle.imap_types.specs.Keywords.{AreKeywords, is_atom_octet, is_tag_octet}
use Rattle.imap_types.specs.Names.{fold_inbox}
use Rattle.imap_types.specs.Numbers.{AreRisingFrom, greatest}
use Rattle.imap_types.specs.declared.flags.Flags.{Flags}
use Rattle.imap_types.specs.declared.section.Section.{Section}
use Rattle.imap_types.specs.declared.section.Section.TheVariants as section
use Rattle.imap_answers.specs.declared.answer.Answer.{Answer}
use Rattle.imap_answers.specs.declared.answer.Answer.TheVariants as answer
use Rattle.imap_answers.specs.declared.codes.Code.{Code}
use Rattle.imap_answers.specs.declared.codes.Code.TheVariants as code
use Rattle.imap_answers.specs.declared.codes.Notice.{Notice}
use Rattle.imap_answers.specs.declared.codes.Notice.TheVariants as notice
use Rattle.imap_answers.specs.declared.fetch_items.FetchItems.{FetchItems}
use Rattle.imap_answers.specs.declared.fetch_items.SectionData.{SectionData}
use Rattle.imap_answers.specs.declared.mailbox.SearchResults.{SearchResults}
use Rattle.imap_answers.specs.declared.mailbox.StatusItems.{StatusItems}

-- A property holds for each element.
abbrev pub Each : {X : Type 0} → (X → Type 0) → List X → Type 0
Each P [] = Unit {0}
Each P (x ∷ xs) = P x × Each P xs

-- A property holds for the value of an option, if it has one.
abbrev pub IfPresent : {X : Type 0} → (X → Type 0) → Option X → Type 0
IfPresent P None = Unit {0}
IfPresent P (Some x) = P x

-- A number of 32 bits, such as a message number or UID (RFC 9051, section 9, number).
abbrev pub IsSmall : ℕ → Type 0
IsSmall n = n < 2 ^ 32

-- A number of 64 bits (RFC 9051, section 9, number64).
abbrev pub IsWide : ℕ → Type 0
IsWide n = n < 2 ^ 64

-- A number of 32 bits from 1 on: a message number, UID or UIDVALIDITY (RFC 9051, section 9,
-- nz-number).
abbrev pub IsNonzero : ℕ → Type 0
IsNonzero n = (0 < n) × IsSmall n

-- A mod-sequence, from 1 on (RFC 7162, section 7, mod-sequence-value).
abbrev pub IsModSeq : ℕ → Type 0
IsModSeq modseq = (0 < modseq) × IsWide modseq

-- A tag (RFC 9051, section 9, tag).
abbrev pub IsTag : List ℕ → Type 0
IsTag tag = IsTrue (not (length tag == 0) && list_all is_tag_octet tag)

-- An atom (RFC 9051, section 9, atom).
abbrev pub IsAtom : List ℕ → Type 0
IsAtom word = IsTrue (not (length word == 0) && list_all is_atom_octet word)

-- A set of numbers that isn't empty, in ascending order (RFC 9051, section 9, sequence-set).
pub record IsSet (numbers : List ℕ) : Type 0 where
  pub filled : 0 < length numbers
  pub rising : AreRisingFrom 1 numbers
  pub small : IsSmall (greatest numbers)

-- Flags whose keywords are atoms in their one spelling (RFC 9051, section 9, flag-keyword).
abbrev pub AreFlags : Flags → Type 0
AreFlags flags = AreKeywords flags.keywords × Each IsAtom flags.keywords

-- A mailbox name in which INBOX is in capitals (RFC 9051, section 5.1).
abbrev pub IsFolded : List ℕ → Type 0
IsFolded name = fold_inbox name ≡ name

-- One or more names of header fields, each with a length of 64 bits (RFC 9051, section 9,
-- header-list).
abbrev pub AreFieldNames : List (List ℕ) → Type 0
AreFieldNames names = (0 < length names) × Each (λ name. IsWide (length name)) names

-- A section (RFC 9051, section 9, section-spec).
abbrev pub IsSection : Section → Type 0
IsSection section.Whole = Unit {0}
IsSection section.Header = Unit {0}
IsSection section.Text = Unit {0}
IsSection (section.Fields names) = AreFieldNames names
IsSection (section.FieldsNot names) = AreFieldNames names

-- A section with its octets, and the offset of a partial range (RFC 9051, section 7.5.2).
pub record IsPart (part : SectionData) : Type 0 where
  pub section : IsSection part.section
  pub origin : IfPresent IsSmall part.origin
  pub octets : IsWide (length part.octets)

-- Whether there is at least one item of a message.
abbrev pub has_message_item : FetchItems → Bool
has_message_item items =
    is_some items.uid || is_some items.flags || is_some items.date || is_some items.size
    || is_some items.modseq || not (length items.sections == 0)

-- The items of FETCH: at least one (RFC 9051, section 9, msg-att).
pub record AreFetchItems (items : FetchItems) : Type 0 where
  pub some : IsTrue (has_message_item items)
  pub uid : IfPresent IsNonzero items.uid
  pub flags : IfPresent AreFlags items.flags
  pub date : IfPresent IsDateTime items.date
  pub size : IfPresent IsWide items.size
  pub modseq : IfPresent IsModSeq items.modseq
  pub sections : Each IsPart items.sections

-- Whether there is at least one item of a mailbox.
abbrev pub has_mailbox_item : StatusItems → Bool
has_mailbox_item items =
    is_some items.messages || is_some items.uidnext || is_some items.uidvalidity
    || is_some items.unseen || is_some items.deleted || is_some items.size
    || is_some items.highest_modseq

-- The items of STATUS: at least one, since each STATUS command asks for one (RFC 9051, section
-- 6.3.11).
pub record AreStatusItems (items : StatusItems) : Type 0 where
  pub some : IsTrue (has_mailbox_item items)
  pub messages : IfPresent IsSmall items.messages
  pub uidnext : IfPresent IsNonzero items.uidnext
  pub uidvalidity : IfPresent IsNonzero items.uidvalidity
  pub unseen : IfPresent IsSmall items.unseen
  pub deleted : IfPresent IsSmall items.deleted
  pub size : IfPresent IsWide items.size
  pub highest_modseq : IfPresent IsModSeq items.highest_modseq

-- All hits of a search: none, or a set.
abbrev pub AreHits : List ℕ → Type 0
AreHits [] = Unit {0}
AreHits (hit ∷ hits) = IsSet (hit ∷ hits)

-- The results of a search (RFC 9051, section 7.3.4; RFC 7162, section 3.1.10).
pub record AreResults (results : SearchResults) : Type 0 where
  pub min : IfPresent IsNonzero results.min
  pub max : IfPresent IsNonzero results.max
  pub all : AreHits results.all
  pub count : IfPresent IsSmall results.count
  pub modseq : IfPresent IsModSeq results.modseq

-- A UIDVALIDITY, the UIDs of the copied messages, and as many UIDs of the copies (RFC 9051, section
-- 7.1, COPYUID).
pub record IsCopied (uidvalidity : ℕ) (source copies : List ℕ) : Type 0 where
  pub validity : IsNonzero uidvalidity
  pub sources : IsSet source
  pub copied : IsSet copies
  pub alike : length source ≡ length copies

-- The code of an untagged OK (RFC 9051, section 7.1; RFC 7162, section 3.1.2.1).
abbrev pub IsNotice : Notice → Type 0
IsNotice notice.Closed = Unit {0}
IsNotice (notice.UidValidity value) = IsNonzero value
IsNotice (notice.UidNext uid) = IsNonzero uid
IsNotice (notice.PermanentFlags flags) = IfPresent AreFlags flags
IsNotice (notice.HighestModSeq modseq) = IsModSeq modseq
IsNotice (notice.CopyUid uidvalidity source copies) = IsCopied uidvalidity source copies

-- The code of a tagged OK (RFC 9051, section 7.1; RFC 7162, section 3.1.3).
abbrev pub IsCode : Code → Type 0
IsCode code.ReadWrite = Unit {0}
IsCode code.ReadOnly = Unit {0}
IsCode (code.AppendUid uidvalidity uid) = IsNonzero uidvalidity × IsNonzero uid
IsCode (code.CopyUid uidvalidity source copies) = IsCopied uidvalidity source copies
IsCode (code.Modified refused) = IsSet refused
IsCode code.ExpungeIssued = Unit {0}

-- An answer that may be sent (RFC 9051, section 9; RFC 7162, section 7). Its tag is a tag, its
-- keywords are atoms, and its names are folded. No set that it must name is empty. FETCH and STATUS
-- send at least one item, and HEADER.FIELDS names at least one field. Message numbers, UIDs,
-- UIDVALIDITY and mod-sequences are from 1 on. COPYUID has as many copies as sources. Each number
-- fits the bits of its type.
abbrev pub IsPrintable : Answer → Type 0
IsPrintable (answer.Greeting login) = Unit {0}
IsPrintable (answer.Continue awaited) = Unit {0}
IsPrintable answer.Capability = Unit {0}
IsPrintable (answer.Enabled extensions) = Unit {0}
IsPrintable answer.Namespace = Unit {0}
IsPrintable (answer.Flags flags) = AreFlags flags
IsPrintable (answer.Exists count) = IsSmall count
IsPrintable (answer.Expunge number) = IsNonzero number
IsPrintable (answer.List name state subscribed) = IsFolded name
IsPrintable (answer.UntaggedOk notice) = IsNotice notice
IsPrintable (answer.Status name items) = IsFolded name × AreStatusItems items
IsPrintable (answer.Search tag by_uid results) = IsTag tag × AreResults results
IsPrintable (answer.Fetch number items) = IsNonzero number × AreFetchItems items
IsPrintable (answer.Bye reason) = Unit {0}
IsPrintable answer.NoTag = Unit {0}
IsPrintable answer.LiteralTooLong = Unit {0}
IsPrintable (answer.Completed tag code command) = IsTag tag × IfPresent IsCode code
IsPrintable (answer.Refused tag reason) = IsTag tag
