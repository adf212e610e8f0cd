-- The answers to a FETCH with a plan (RFC 3501, section 7.4.2).

use Rattle.std.specs.Prelude.{◌≡◌, ◌⊎◌, ℕ, Bool, true, false, ◌||◌, not, List, [], ◌∷◌, ◌++◌}
use Rattle.std.specs.Prelude.{map, codes, decimal, flat_map, Option, Some, None, if◌then◌else◌}
use Rattle.std.specs.List.{list_any}
use Rattle.imap_types.specs.declared.section.Section.{Section}
use Rattle.imap_types.specs.declared.section.Section.TheVariants as sections
use Rattle.imap_syntax.specs.declared.fetch.Partial.{Partial}
use Rattle.imap_answers.specs.AnswerText.{fetch_texts, origin_text, section_text, text_of_answer}
use Rattle.imap_answers.specs.Strings.{crlf, literal_text, separated_by}
use Rattle.imap_answers.specs.declared.answer.Answer.TheVariants as answers
use Rattle.imap_answers.specs.declared.fetch_items.FetchItems.{FetchItems}
use Rattle.imap_answers.specs.declared.fetch_items.SectionData.{SectionData}
use Rattle.imap_grammar.specs.Reading.{is_nil}
use Rattle.mail_text.specs.HeaderAndBody.{header_of, partial_of}
use Rattle.mail_text.specs.HeaderAndBody.{body_of as text_body}
use Rattle.mail_text.specs.HeaderFields.{fields_of}
use Rattle.mail_parts.specs.Entries.{AreEntries}
use Rattle.mail_parts.specs.declared.part.Part.{Part}
use Rattle.mail_parts.specs.declared.part.PartKind.{PartKind}
use Rattle.mail_parts.specs.declared.part.PartKind.TheVariants as kinds
use Rattle.body_print.specs.Bodies.{body_of}
use Rattle.body_print.specs.Envelopes.{envelope_of}
use Rattle.body_print.specs.Values.{text_of}
use Rattle.rev1_fetch.specs.PartPlaces.{child_at, part_at, region_of}
use Rattle.rev1_fetch.specs.declared.text_item.PartSection.{PartSection}
use Rattle.rev1_fetch.specs.declared.text_item.TextItem.{TextItem}
use Rattle.rev1_fetch.specs.declared.text_item.TextItem.TheVariants as items
use Rattle.rev1_fetch.specs.declared.text_item.TextWord.{TextWord}
use Rattle.rev1_fetch.specs.declared.text_item.TextWord.TheVariants as words

-- The whole text, if an answer has it and no other section.
abbrev pub whole_octets : Section → Option ℕ → List ℕ → Option (List ℕ)
whole_octets sections.Whole None octets = Some octets
whole_octets section origin octets = None

abbrev pub whole_text : List SectionData → Option (List ℕ)
whole_text [] = None
whole_text (part ∷ []) = whole_octets part.section part.origin part.octets
whole_text (part ∷ next ∷ parts) = None

-- ---- The octets of sections.

-- A section of a message, or the header whose fields it selects.
abbrev pub message_region : Section → List ℕ → List ℕ
message_region sections.Whole message = message
message_region sections.Text message = text_body message
message_region section message = header_of message

-- A section of the message that a part is: its first part has the header and the body.
abbrev pub inner_region : Section → List ℕ → Option (List Part) → Option (List ℕ)
inner_region section message None = None
inner_region section message (Some []) = None
inner_region sections.Text message (Some (part ∷ parts)) = region_of message part.body part.end
inner_region section message (Some (part ∷ parts)) = region_of message part.start part.body

-- A section of a part: all parts have a body, messages alone the others.
abbrev pub kind_region : Section → PartKind → ℕ → List ℕ → List Part → Option (List ℕ)
kind_region section kinds.Message depth message inner =
    inner_region section message (child_at depth 1 inner)
kind_region section kind depth message inner = None

abbrev pub section_in_part : Section → List ℕ → Part → List Part → Option (List ℕ)
section_in_part sections.Whole message part inner = region_of message part.body part.end
section_in_part section message part inner =
    kind_region section part.kind part.depth message inner

-- The section of the first of these parts, or with MIME its own header.
abbrev pub part_region : Bool → Section → List ℕ → Option (List Part) → Option (List ℕ)
part_region is_mime section message None = None
part_region is_mime section message (Some []) = None
part_region true section message (Some (part ∷ inner)) = region_of message part.start part.body
part_region false section message (Some (part ∷ inner)) =
    section_in_part section message part inner

-- A section of the part with a number.
abbrev pub part_section : List ℕ → Bool → Section → Option Partial → PartSection
part_section path is_mime section partial =
    record { path = path; is_mime = is_mime; section = section; partial = partial }

-- The section that is asked for, in a message with these parts; none if it isn't there.
abbrev pub section_region : PartSection → List ℕ → List Part → Option (List ℕ)
section_region asked message parts =
    if is_nil asked.path then Some (message_region asked.section message)
    else part_region asked.is_mime asked.section message (part_at asked.path parts)

-- The fields that a section selects.
abbrev pub selected : Section → List ℕ → List ℕ
selected (sections.Fields names) region = fields_of true names region
selected (sections.FieldsNot names) region = fields_of false names region
selected section region = region

-- A range of octets, or all.
abbrev pub in_range : Option Partial → List ℕ → List ℕ
in_range None octets = octets
in_range (Some range) octets = partial_of range.start range.count octets

-- ---- The text of items.

-- The number of a part, with a point (46) between numbers.
abbrev pub path_text : List ℕ → List ℕ
path_text path = separated_by 46 (map decimal path)

abbrev pub origin_of : Option Partial → Option ℕ
origin_of None = None
origin_of (Some range) = Some range.start

-- What joins the number of a part and a section.
abbrev pub joint : Bool → Bool → List ℕ → List ℕ
joint true no_number name = codes ".MIME"
joint false no_number name = if no_number || is_nil name then [] else codes "."

-- The name of a section (RFC 3501, section 7.4.2, BODY[section]<origin octet>).
abbrev pub section_name : PartSection → List ℕ
section_name asked =
    codes "BODY["
    ++ (path_text asked.path
    ++ (joint asked.is_mime (is_nil asked.path) (section_text asked.section)
    ++ (section_text asked.section ++ (codes "]" ++ origin_text (origin_of asked.partial)))))

-- The octets of a section, after its name: NIL if there are none.
abbrev pub octets_or_nil : PartSection → Option (List ℕ) → List ℕ
octets_or_nil asked None = codes " NIL"
octets_or_nil asked (Some region) =
    codes " " ++ literal_text (in_range asked.partial (selected asked.section region))

-- An item, made of a message with these parts.
abbrev pub word_text : TextWord → List ℕ → List Part → List ℕ
word_text words.Envelope message parts =
    codes "ENVELOPE " ++ text_of (envelope_of (header_of message))
word_text words.Body message parts = codes "BODY " ++ text_of (body_of false message parts)
word_text words.BodyStructure message parts =
    codes "BODYSTRUCTURE " ++ text_of (body_of true message parts)
word_text words.Rfc822 message parts = codes "RFC822 " ++ literal_text message
word_text words.Rfc822Header message parts =
    codes "RFC822.HEADER " ++ literal_text (header_of message)
word_text words.Rfc822Text message parts = codes "RFC822.TEXT " ++ literal_text (text_body message)

abbrev pub item_text : List ℕ → List Part → TextItem → List ℕ
item_text message parts (items.Word word) = word_text word message parts
item_text message parts (items.Section asked) =
    section_name asked ++ octets_or_nil asked (section_region asked message parts)

-- Items with a space before each; before the first only if others come before it.
abbrev pub items_text : Bool → List (List ℕ) → List ℕ
items_text true texts = flat_map (λ next. codes " " ++ next) texts
items_text false texts = separated_by 32 texts

-- The answer for a message: the items of the profile without the whole text, then those of the
-- plan.
abbrev pub without_sections : FetchItems → FetchItems
without_sections given = record given { sections = [] }

abbrev pub planned_line : List TextItem → ℕ → FetchItems → List ℕ → List Part → List ℕ
planned_line plan number given message parts =
    codes "* " ++ decimal number ++ codes " FETCH ("
    ++ separated_by 32 (fetch_texts (without_sections given) ++ map (item_text message parts) plan)
    ++ codes ")" ++ crlf

-- Whether an item needs the parts of a message.
abbrev pub needs_parts : TextItem → Bool
needs_parts (items.Word words.Body) = true
needs_parts (items.Word words.BodyStructure) = true
needs_parts (items.Word word) = false
needs_parts (items.Section asked) = not (is_nil asked.path)

-- These are the parts of a message, if an item of the plan needs them.
abbrev pub ArePartsFor : List TextItem → List ℕ → List Part → Type 0
ArePartsFor plan message parts =
    AreEntries message parts ⊎ (list_any needs_parts plan ≡ false)

-- The answer that is shown in place of one with these items; without the whole text it is none to
-- the command, and shown as it is.
abbrev pub IsShownWhole : List TextItem → ℕ → FetchItems → Option (List ℕ) → List ℕ → Type 0
IsShownWhole plan number given None text = text ≡ text_of_answer (answers.Fetch number given)
IsShownWhole plan number given (Some message) text =
    (parts : List Part) × ArePartsFor plan message parts
    × (text ≡ planned_line plan number given message parts)

abbrev pub IsShownFetch : List TextItem → ℕ → FetchItems → List ℕ → Type 0
IsShownFetch plan number given text =
    IsShownWhole plan number given (whole_text given.sections) text
