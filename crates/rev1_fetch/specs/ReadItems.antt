-- The items of FETCH that a client asks for, read one after another (RFC 3501, section 9,
-- fetch-att).

use Rattle.std.specs.Prelude.{◌≡◌, ℕ, Bool, true, false, not, ◌||◌, ◌==◌, List, [], ◌∷◌, ◌++◌}
use Rattle.std.specs.Prelude.{codes, Option, Some, None, Result, Ok, Err}
use Rattle.imap_types.specs.declared.section.Section.{Section}
use Rattle.imap_syntax.specs.Commands.{IsSpelled}
use Rattle.imap_syntax.specs.declared.arguments.Fetch.{Fetch}
use Rattle.imap_syntax.specs.declared.command.Command.TheVariants as commands
use Rattle.imap_syntax.specs.declared.command.Tagged.{Tagged}
use Rattle.imap_syntax.specs.declared.fetch.FetchItem.TheVariants as items
use Rattle.imap_syntax.specs.declared.fetch.Partial.{Partial}
use Rattle.imap_grammar.specs.Reading.{span}
use Rattle.rev1_fetch.specs.FetchWords.{is_plain, word_item}
use Rattle.rev1_fetch.specs.PartNumbers.{NumberParts, part_number}
use Rattle.rev1_fetch.specs.declared.item_fault.ItemFault.{ItemFault}
use Rattle.rev1_fetch.specs.declared.item_fault.ItemFault.TheVariants.{NoMemory, PartZero, Unknown}
use Rattle.rev1_fetch.specs.declared.item_words.WordItem.{WordItem}
use Rattle.rev1_fetch.specs.declared.text_item.PartSection.{PartSection}
use Rattle.rev1_fetch.specs.declared.text_item.TextItem.{TextItem}
use Rattle.rev1_fetch.specs.declared.text_item.TextItem.TheVariants as texts

-- A section that an item of the profile names: FETCH of this item alone asks for it (RFC 9051,
-- section 9, fetch-att).
abbrev pub IsProfileSection : List ℕ → Section → Option Partial → Bool → Type 0
IsProfileSection item section partial peek =
    (tagged : Tagged) × (asked : Fetch)
    × IsSpelled tagged (codes "a FETCH 1 " ++ (item ++ codes "\r\n"))
    × (tagged.command ≡ commands.Fetch asked)
    × (asked.items ≡ items.Body peek section partial ∷ [])

-- Why an item isn't read; in place of any answer memory may run out.
abbrev pub IsFault : {X : Type 0} → ItemFault → Result X ItemFault → Type 0
IsFault fault (Ok value) = ⊥
IsFault fault (Err NoMemory) = Unit {0}
IsFault fault (Err why) = why ≡ fault

-- The section of a part with this number: with the octets before the number, what follows is an
-- item of the profile.
abbrev pub IsOfNumber : List ℕ → NumberParts → Result (PartSection × Bool) ItemFault → Type 0
IsOfNumber front number (Ok read) =
    (read.0.path ≡ number.path) × (read.0.is_mime ≡ number.is_mime)
    × IsProfileSection (front ++ number.rest) read.0.section read.0.partial read.1
IsOfNumber front number (Err NoMemory) = Unit {0}
IsOfNumber front number (Err PartZero) = ⊥
IsOfNumber front number (Err Unknown) =
    (section : Section) (partial : Option Partial) (peek : Bool)
    → IsProfileSection (front ++ number.rest) section partial peek
    → ⊥

abbrev pub IsNumbered : List ℕ → Result NumberParts ItemFault
    → Result (PartSection × Bool) ItemFault → Type 0
IsNumbered front (Ok number) read = IsOfNumber front number read
IsNumbered front (Err fault) read = IsFault fault read

-- The section between brackets (91 opens them), and whether it leaves `\Seen`.
abbrev pub IsBracketed : List ℕ → List ℕ → Result (PartSection × Bool) ItemFault → Type 0
IsBracketed front [] read = IsFault Unknown read
IsBracketed front (bracket ∷ section) read =
    IsNumbered (front ++ bracket ∷ []) (part_number section) read

abbrev pub IsSectionItem : List ℕ → Result (PartSection × Bool) ItemFault → Type 0
IsSectionItem item read =
    IsBracketed (span (λ octet. not (octet == 91)) item).0
    (span (λ octet. not (octet == 91)) item).1 read

-- What items ask for: items of the profile, each with a space after it; items that are made of the
-- whole text; and whether one of these sets `\Seen`.
pub record Asked : Type 0 where
  pub plain : List ℕ
  pub items : List TextItem
  pub sets_seen : Bool

abbrev pub asked_nothing : Asked
asked_nothing = record { plain = []; items = []; sets_seen = false }

abbrev pub asked_both : Asked → Asked → Asked
asked_both first second = record {
  plain = first.plain ++ second.plain;
  items = first.items ++ second.items;
  sets_seen = first.sets_seen || second.sets_seen;
}

-- One item, by whether it is of the profile, and the item without brackets that it is.
abbrev pub asked_plain : List ℕ → Asked
asked_plain item = record { plain = item ++ codes " "; items = []; sets_seen = false }

abbrev pub asked_text : TextItem → Bool → Asked
asked_text item sets_seen = record { plain = []; items = item ∷ []; sets_seen = sets_seen }

abbrev pub IsAskedBy : Bool → Option WordItem → List ℕ → Asked → Type 0
IsAskedBy true word item asked = asked ≡ asked_plain item
IsAskedBy false (Some word) item asked =
    asked ≡ asked_text (texts.Word word.word) word.sets_seen
IsAskedBy false None item asked =
    (section : PartSection) × (peek : Bool)
    × IsSectionItem item (Ok (section, peek))
    × (asked ≡ asked_text (texts.Section section) (not peek))

abbrev pub IsAsked : List ℕ → Asked → Type 0
IsAsked item asked = IsAskedBy (is_plain item) (word_item item) item asked

-- An item that isn't read, and why.
abbrev pub IsUnreadBy : Bool → Option WordItem → List ℕ → ItemFault → Type 0
IsUnreadBy is_plain word item NoMemory = Unit {0}
IsUnreadBy true word item fault = ⊥
IsUnreadBy false (Some word) item fault = ⊥
IsUnreadBy false None item fault = IsSectionItem item (Err fault)

abbrev pub IsUnread : List ℕ → ItemFault → Type 0
IsUnread item fault = IsUnreadBy (is_plain item) (word_item item) item fault

-- Items, one after another.
abbrev pub AreAsked : List (List ℕ) → Asked → Type 0
AreAsked [] asked = asked ≡ asked_nothing
AreAsked (item ∷ more) asked =
    (first rest : Asked) × IsAsked item first × AreAsked more rest
    × (asked ≡ asked_both first rest)

-- Items the first of which that isn't read has this fault.
abbrev pub AreUnread : List (List ℕ) → ItemFault → Type 0
AreUnread these fault =
    (front back : List (List ℕ)) × (item : List ℕ) × (asked : Asked)
    × (these ≡ front ++ item ∷ back)
    × AreAsked front asked
    × IsUnread item fault
