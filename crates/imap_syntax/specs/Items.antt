-- Items of FETCH, and the sections that they name (RFC 9051, section 9, fetch and section).

use Rattle.std.specs.Prelude.{◌≡◌, ◌⊎◌, ℕ, Bool, true, false, List, [], ◌∷◌, codes, Option, Some}
use Rattle.std.specs.Prelude.{None}
use Rattle.imap_types.specs.declared.section.Section.{Section}
use Rattle.imap_types.specs.declared.section.Section.TheVariants.{Whole, Header, Text, Fields}
use Rattle.imap_types.specs.declared.section.Section.TheVariants.{FieldsNot}
use Rattle.imap_syntax.specs.Languages.{◌⌢◌, exactly, nothing, sp, word, in_parens, listed}
use Rattle.imap_syntax.specs.Strings.{astring, number_to, nz}
use Rattle.imap_syntax.specs.Words.{fetch_word, section_word}
use Rattle.imap_syntax.specs.declared.fetch.FetchItem.{FetchItem}
use Rattle.imap_syntax.specs.declared.fetch.FetchItem.TheVariants as items
use Rattle.imap_syntax.specs.declared.fetch.FetchWord.{FetchWord}
use Rattle.imap_syntax.specs.declared.fetch.FetchWord.TheVariants as words
use Rattle.imap_syntax.specs.declared.fetch.Partial.{Partial}
use Rattle.imap_syntax.specs.declared.fetch.SectionWord.TheVariants as sections

-- Names of header fields (RFC 9051, section 9, header-list).
abbrev pub field_names : List (List ℕ) → List ℕ → Type 0
field_names names = sp ⌢ in_parens (listed sp astring names)

-- A section (RFC 9051, section 9, section-spec).
abbrev pub section : Section → List ℕ → Type 0
section Whole = nothing
section Header = word (section_word sections.Header)
section Text = word (section_word sections.Text)
section (Fields names) = word (section_word sections.Fields) ⌢ field_names names
section (FieldsNot names) = word (section_word sections.FieldsNot) ⌢ field_names names

-- `<start.count>` or nothing (RFC 9051, section 9, partial).
abbrev pub partial : Option Partial → List ℕ → Type 0
partial None = nothing
partial (Some this) =
    exactly (codes "<") ⌢ number_to 4294967295 this.start ⌢ exactly (codes ".") ⌢ nz this.count ⌢
    exactly (codes ">")

-- The word of an item for a section; BODY.PEEK if it peeks (RFC 9051, section 9, fetch-att).
abbrev pub body_word : Bool → FetchWord
body_word true = words.BodyPeek
body_word false = words.Body

abbrev pub item_word : FetchItem → FetchWord
item_word items.Flags = words.Flags
item_word items.InternalDate = words.InternalDate
item_word items.Size = words.Size
item_word items.Uid = words.Uid
item_word items.ModSeq = words.ModSeq
item_word (items.Body peek this_section this_partial) = body_word peek

-- The text after the word of each item.
abbrev pub item_tail : FetchItem → List ℕ → Type 0
item_tail items.Flags = nothing
item_tail items.InternalDate = nothing
item_tail items.Size = nothing
item_tail items.Uid = nothing
item_tail items.ModSeq = nothing
item_tail (items.Body peek this_section this_partial) =
    (exactly (codes "[") ⌢ section this_section ⌢ exactly (codes "]")) ⌢ partial this_partial

-- An item of FETCH (RFC 9051, section 9, fetch-att).
abbrev pub fetch_item : FetchItem → List ℕ → Type 0
fetch_item item = word (fetch_word (item_word item)) ⌢ item_tail item

-- The items that FAST abbreviates (RFC 9051, section 6.4.5).
abbrev pub fast_items : List FetchItem
fast_items = items.Flags ∷ items.InternalDate ∷ items.Size ∷ []

-- FAST, one item, or items between parentheses (RFC 9051, section 9, fetch).
abbrev pub fetched : List FetchItem → List ℕ → Type 0
fetched these text =
    in_parens (listed sp fetch_item these) text
    ⊎ ((word (codes "FAST") text × (fast_items ≡ these))
    ⊎ ((item : FetchItem) × fetch_item item text × (item ∷ [] ≡ these)))
