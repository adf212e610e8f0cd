-- Where items of FETCH end (RFC 3501, section 9, fetch-att).

use Rattle.std.specs.Prelude.{◌≡◌, ℕ, zero, suc, Bool, true, false, not, ◌&&◌, ◌==◌, List, []}
use Rattle.std.specs.Prelude.{◌∷◌, ◌++◌, if◌then◌else◌}
use Rattle.std.specs.List.{onto_first}
use Rattle.imap_types.specs.Keywords.{is_astring_octet}
use Rattle.rev1_fetch.specs.declared.item_places.Place.{Place}
use Rattle.rev1_fetch.specs.declared.item_places.Place.TheVariants.{Outside, Brackets, Quotes}
use Rattle.rev1_fetch.specs.declared.item_places.Place.TheVariants.{Escape}

-- The place after an octet: `[` (91) opens brackets, which `]` (93) closes; in them `"` (34) opens
-- quotes, which another closes, but for one after `\` (92).
abbrev pub place_after : Place → ℕ → Place
place_after Outside octet = if octet == 91 then Brackets else Outside
place_after Brackets octet =
    if octet == 34 then Quotes else (if octet == 93 then Outside else Brackets)
place_after Quotes octet =
    if octet == 34 then Brackets else (if octet == 92 then Escape else Quotes)
place_after Escape octet = Quotes

-- Whether brackets are closed.
abbrev pub is_outside : Place → Bool
is_outside Outside = true
is_outside Brackets = false
is_outside Quotes = false
is_outside Escape = false

-- Whether an octet ends items: outside brackets there are only octets of words, and spaces (32) if
-- there may be several items.
abbrev pub ends_items : Bool → Place → ℕ → Bool
ends_items are_several place octet =
    is_outside place
    && (not (is_astring_octet octet) && not (are_several && (octet == 32)))

-- How long items are that octets begin with, from a place on.
abbrev pub items_len : Bool → Place → List ℕ → ℕ
items_len are_several place [] = zero
items_len are_several place (octet ∷ octets) =
    if ends_items are_several place octet then zero
    else suc (items_len are_several (place_after place octet) octets)

-- The items of a text, which spaces outside brackets divide.
abbrev pub items_from : Place → List ℕ → List (List ℕ)
items_from place [] = [] ∷ []
items_from place (octet ∷ octets) =
    if is_outside place && (octet == 32) then [] ∷ items_from Outside octets
    else onto_first octet (items_from (place_after place octet) octets)

abbrev pub items_of : List ℕ → List (List ℕ)
items_of text = items_from Outside text

-- ---- The same over whole texts.

-- The place after octets.
abbrev pub place_at : Place → List ℕ → Place
place_at place [] = place
place_at place (octet ∷ octets) = place_at (place_after place octet) octets

-- No space (32) of an item is outside brackets.
abbrev pub IsItem : List ℕ → Type 0
IsItem item =
    (front back : List ℕ) → item ≡ front ++ 32 ∷ back → is_outside (place_at Outside front) ≡ false

-- One or more items, with brackets that are closed in all but the last.
abbrev pub AreItems : List (List ℕ) → Type 0
AreItems [] = ⊥
AreItems (item ∷ []) = IsItem item
AreItems (item ∷ next ∷ items) =
    IsItem item × (is_outside (place_at Outside item) ≡ true) × AreItems (next ∷ items)
