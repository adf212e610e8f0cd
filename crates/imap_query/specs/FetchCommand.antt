-- The answers to FETCH (RFC 9051, section 6.4.5; RFC 7162, section 3.1.4).

use Rattle.std.specs.Prelude.{ℕ, Bool, true, false, not, ◌&&◌, ◌||◌, ◌==◌, nat_lt, is_some, List}
use Rattle.std.specs.Prelude.{[], ◌∷◌, length, flat_map, Option, Some, None, if◌then◌else◌}
use Rattle.std.specs.List.{list_any}
use Rattle.imap_answers.specs.declared.answer.Answer.{Answer}
use Rattle.imap_answers.specs.declared.answer.Answer.TheVariants.{Fetch}
use Rattle.imap_answers.specs.declared.fetch_items.FetchItems.{FetchItems}
use Rattle.imap_answers.specs.declared.fetch_items.SectionData.{SectionData}
use Rattle.imap_syntax.specs.declared.fetch.FetchItem.{FetchItem}
use Rattle.imap_syntax.specs.declared.fetch.FetchItem.TheVariants as item
use Rattle.imap_syntax.specs.declared.fetch.Partial.{Partial}
use Rattle.imap_types.specs.declared.section.Section.{Section}
use Rattle.imap_types.specs.declared.section.Section.TheVariants as section
use Rattle.mailbox_rows.specs.ListedMessage.{ListedMessage}
use Rattle.mailbox_rows.specs.RowViews.{row_of}
use Rattle.mail_text.specs.HeaderFields.{fields_of}
use Rattle.mail_text.specs.HeaderAndBody.{body_of, header_of, partial_of}
use Rattle.imap_query.specs.declared.fetch_command.FetchMode.{FetchMode}
use Rattle.imap_query.specs.declared.fetch_command.Part.{Part}
use Rattle.imap_query.specs.declared.fetch_command.Part.TheVariants as part
use Rattle.imap_query.specs.declared.fetch_command.FetchParts.{FetchParts}
use Rattle.imap_query.specs.declared.viewed_message.ViewedMessage.{ViewedMessage}

-- The part that an item asks for.
abbrev pub part_of : FetchItem → Part
part_of item.Uid = part.Uid
part_of item.Flags = part.Flags
part_of item.InternalDate = part.Date
part_of item.Size = part.Size
part_of item.ModSeq = part.ModSeq
part_of (item.Body peek section partial) = part.Section

-- A number for each part.
abbrev pub part_number : Part → ℕ
part_number part.Uid = 0
part_number part.Flags = 1
part_number part.Date = 2
part_number part.Size = 3
part_number part.ModSeq = 4
part_number part.Section = 5

-- Whether a part is asked for.
abbrev pub asks_part : Part → List FetchItem → Bool
asks_part part items = list_any (λ item. part_number (part_of item) == part_number part) items

-- Whether an item sets `\Seen`: a section without PEEK (RFC 9051, section 6.4.5.1).
abbrev pub sets_seen : FetchItem → Bool
sets_seen item.Uid = false
sets_seen item.Flags = false
sets_seen item.InternalDate = false
sets_seen item.Size = false
sets_seen item.ModSeq = false
sets_seen (item.Body peek section partial) = not peek

-- The parts that are asked for, and whether an item sets `\Seen`.
abbrev pub parts_of : List FetchItem → FetchParts
parts_of items = record {
  uid = asks_part part.Uid items;
  flags = asks_part part.Flags items;
  date = asks_part part.Date items;
  size = asks_part part.Size items;
  modseq = asks_part part.ModSeq items;
  sections = asks_part part.Section items;
  seen = list_any sets_seen items;
}

-- Whether FETCH sets `\Seen` on a message that was `old` before the command (RFC 9051,
-- section 6.4.5.1).
abbrev pub is_seen_set : List FetchItem → FetchMode → ListedMessage → Bool
is_seen_set items mode old = mode.writable && (not old.flags.seen && list_any sets_seen items)

-- Whether flags are reported: if they are asked for, or if `\Seen` is set (RFC 9051,
-- section 6.4.5.1).
abbrev pub reports_flags : List FetchItem → FetchMode → ListedMessage → Bool
reports_flags items mode old = asks_part part.Flags items || is_seen_set items mode old

-- Whether the mod-sequence is reported: if it is asked for, also by CHANGEDSINCE, or with flags if
-- CONDSTORE is on (RFC 7162, section 3.1).
abbrev pub reports_modseq : List FetchItem → FetchMode → Bool → Bool
reports_modseq items mode with_flags =
    asks_part part.ModSeq items || (is_some mode.changed_since || (mode.condstore && with_flags))

-- A value, if it is reported.
abbrev pub if_reported : {A : Type 0} → Bool → A → Option A
if_reported reported value = if reported then Some value else None

-- The octets of a section (RFC 9051, section 6.4.5.1).
abbrev pub section_of : Section → List ℕ → List ℕ
section_of section.Whole text = text
section_of section.Header text = header_of text
section_of section.Text text = body_of text
section_of (section.Fields names) text = fields_of true names text
section_of (section.FieldsNot names) text = fields_of false names text

-- The octets of a section that a partial selects, or all (RFC 9051, section 6.4.5).
abbrev pub partial_octets : Option Partial → List ℕ → List ℕ
partial_octets None octets = octets
partial_octets (Some range) octets = partial_of range.start range.count octets

-- The place at which a partial begins.
abbrev pub origin_of : Option Partial → Option ℕ
origin_of None = None
origin_of (Some range) = Some range.start

-- The section that an item asks for, if it asks for one.
abbrev pub section_part : List ℕ → FetchItem → List SectionData
section_part text item.Uid = []
section_part text item.Flags = []
section_part text item.InternalDate = []
section_part text item.Size = []
section_part text item.ModSeq = []
section_part text (item.Body peek section partial) =
    record {
      section = section;
      origin = origin_of partial;
      octets = partial_octets partial (section_of section text);
    } ∷ []

-- The sections that are asked for, in order.
abbrev pub sections_of_items : List ℕ → List FetchItem → List SectionData
sections_of_items text items = flat_map (section_part text) items

-- The items reported of a message that was `old` before the command and is `row` after it.
abbrev pub items_of : List FetchItem → FetchMode → ListedMessage → ListedMessage → FetchItems
items_of items mode old row = record {
  uid = if_reported (mode.by_uid || asks_part part.Uid items) row.uid;
  flags = if_reported (reports_flags items mode old) row.flags;
  date = if_reported (asks_part part.Date items) row.date;
  size = if_reported (asks_part part.Size items) (length row.text);
  modseq = if_reported (reports_modseq items mode (reports_flags items mode old)) row.modseq;
  sections = sections_of_items row.text items;
}

-- Whether the mod-sequence of a message before the command is above that of CHANGEDSINCE, if one is
-- given (RFC 7162, section 3.1.4.1).
abbrev pub is_above_changed_since : Option ℕ → ListedMessage → Bool
is_above_changed_since None old = true
is_above_changed_since (Some modseq) old = nat_lt modseq old.modseq

-- The answer of FETCH for one message that a view shows: none if either listing lacks it.
abbrev pub answer_of : List FetchItem → FetchMode → ViewedMessage → Option ListedMessage
    → Option ListedMessage → List Answer
answer_of items mode shown None row = []
answer_of items mode shown (Some old) None = []
answer_of items mode shown (Some old) (Some row) =
    if is_above_changed_since mode.changed_since old
    then Fetch shown.number (items_of items mode old row) ∷ []
    else []

-- The answers of FETCH for the named messages, from the listings before and after the command
-- (RFC 9051, section 6.4.5).
abbrev pub fetch_answers : List FetchItem → FetchMode → List ListedMessage → List ListedMessage
    → List ViewedMessage → List Answer
fetch_answers items mode before after named =
    flat_map
    (λ shown. answer_of items mode shown (row_of shown.uid before) (row_of shown.uid after)) named
