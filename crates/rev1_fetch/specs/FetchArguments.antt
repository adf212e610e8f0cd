-- The arguments of FETCH, taken apart (RFC 3501, section 9, fetch).

use Rattle.std.specs.Prelude.{◌≡◌, ℕ, ◌+◌, Bool, true, false, ◌||◌, ◌==◌, not, nat_lt, List, []}
use Rattle.std.specs.Prelude.{◌∷◌, ◌++◌, length, take, drop, Option, Some, None, if◌then◌else◌}
use Rattle.std.specs.List.{list_any}
use Rattle.imap_grammar.specs.Reading.{span}
use Rattle.rev1_fetch.specs.ItemPlaces.{ends_items, is_outside, items_len, place_at}
use Rattle.rev1_fetch.specs.declared.item_places.Place.TheVariants.{Outside}

-- Arguments of FETCH: a space, the messages and a space; the items; whether they are without
-- parentheses; and what follows them.
pub record FetchArguments : Type 0 where
  pub front : List ℕ
  pub items : List ℕ
  pub is_single : Bool
  pub back : List ℕ

-- The number of octets before the first space (32).
abbrev pub word_end : List ℕ → ℕ
word_end octets = length (span (λ octet. not (octet == 32)) octets).0

-- The messages between two spaces, and what follows; none if there aren't two.
abbrev pub cut_messages : List ℕ → Option (List ℕ × List ℕ)
cut_messages [] = None
cut_messages (octet ∷ octets) =
    if octet == 32 then (
    if nat_lt (word_end octets) (length octets) then
    Some (take (word_end octets + 2) (octet ∷ octets), drop (word_end octets + 2) (octet ∷ octets))
    else None
    )
    else None

-- One item without parentheses, and what follows.
abbrev pub single_item : List ℕ → List ℕ → Option FetchArguments
single_item front octets = Some (record {
  front = front;
  items = take (items_len false Outside octets) octets;
  is_single = true;
  back = drop (items_len false Outside octets) octets;
})

-- Items before a closing parenthesis (41), and what follows; none if it is missing.
abbrev pub closed_items : List ℕ → List ℕ → List ℕ → Option FetchArguments
closed_items front items [] = None
closed_items front items (octet ∷ octets) =
    if octet == 41 then
    Some (record { front = front; items = items; is_single = false; back = octets })
    else None

-- The items after the messages: between parentheses (40, 41), or one.
abbrev pub items_after : List ℕ → List ℕ → Option FetchArguments
items_after front [] = single_item front []
items_after front (octet ∷ octets) =
    if octet == 40 then
    closed_items front (take (items_len true Outside octets) octets)
    (drop (items_len true Outside octets) octets)
    else single_item front (octet ∷ octets)

abbrev pub items_after_messages : Option (List ℕ × List ℕ) → Option FetchArguments
items_after_messages None = None
items_after_messages (Some cut) = items_after cut.0 cut.1

-- The arguments of FETCH after its word; none if there are no items.
abbrev pub fetch_arguments : List ℕ → Option FetchArguments
fetch_arguments rest = items_after_messages (cut_messages rest)

-- ---- The same as they are written.

-- Whether a text has a space (32).
abbrev pub has_space : List ℕ → Bool
has_space text = list_any (λ octet. octet == 32) text

-- Several items, or one: outside brackets there are only octets of words, and spaces between
-- several; and brackets are closed.
pub record AreItemOctets (are_several : Bool) (items : List ℕ) : Type 0 where
  pub octets : (front back : List ℕ) (octet : ℕ)
      → items ≡ front ++ octet ∷ back
      → ends_items are_several (place_at Outside front) octet ≡ false
  pub closed : is_outside (place_at Outside items) ≡ true

-- Whether nothing follows an item, or a space (32) or CR (13).
abbrev pub follows_item : List ℕ → Bool
follows_item [] = true
follows_item (octet ∷ octets) = (octet == 32) || (octet == 13)

-- Arguments from their parts.
abbrev pub arguments_of : List ℕ → List ℕ → Bool → List ℕ → FetchArguments
arguments_of messages items is_single back = record {
  front = 32 ∷ (messages ++ 32 ∷ []);
  items = items;
  is_single = is_single;
  back = back;
}
