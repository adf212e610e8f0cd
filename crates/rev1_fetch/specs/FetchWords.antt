-- Words of the items of FETCH (RFC 3501, section 6.4.5).

use Rattle.std.specs.Prelude.{ℕ, Bool, true, false, ◌||◌, List, [], ◌∷◌, codes, Option, Some, None}
use Rattle.std.specs.Prelude.{if◌then◌else◌}
use Rattle.std.specs.List.{list_any}
use Rattle.std.specs.Str.{bytes_eq}
use Rattle.imap_types.specs.Keywords.{to_lower_case}
use Rattle.rev1_fetch.specs.declared.item_words.WordItem.{WordItem}
use Rattle.rev1_fetch.specs.declared.text_item.TextWord.{TextWord}
use Rattle.rev1_fetch.specs.declared.text_item.TextWord.TheVariants as words

-- Whether an item is this word, in any letter case.
abbrev pub is_word : List ℕ → List ℕ → Bool
is_word letters item = bytes_eq (to_lower_case item) (to_lower_case letters)

-- Whether an item is ALL or FULL, and the items that it means.
abbrev pub is_macro : List ℕ → Bool
is_macro item = is_word (codes "ALL") item || is_word (codes "FULL") item

abbrev pub macro_items : List ℕ → List ℕ
macro_items item =
    if is_word (codes "ALL") item then codes "FLAGS INTERNALDATE RFC822.SIZE ENVELOPE"
    else codes "FLAGS INTERNALDATE RFC822.SIZE ENVELOPE BODY"

-- The words of the items that the profile has without brackets.
abbrev pub plain_words : List (List ℕ)
plain_words =
    codes "FLAGS"
    ∷ codes "INTERNALDATE"
    ∷ codes "MODSEQ"
    ∷ codes "RFC822.SIZE"
    ∷ codes "UID"
    ∷ []

-- Whether an item is one of them.
abbrev pub is_plain : List ℕ → Bool
is_plain item = list_any (λ word. is_word word item) plain_words

-- An item without brackets that the profile hasn't, and whether it sets `\Seen`.
abbrev pub worded : TextWord → Bool → WordItem
worded word sets_seen = record { word = word; sets_seen = sets_seen }

abbrev pub word_item : List ℕ → Option WordItem
word_item item =
    if is_word (codes "ENVELOPE") item then Some (worded words.Envelope false)
    else (if is_word (codes "BODY") item then Some (worded words.Body false)
    else (if is_word (codes "BODYSTRUCTURE") item then Some (worded words.BodyStructure false)
    else (if is_word (codes "RFC822") item then Some (worded words.Rfc822 true)
    else (if is_word (codes "RFC822.PEEK") item then Some (worded words.Rfc822 false)
    else (if is_word (codes "RFC822.HEADER") item then Some (worded words.Rfc822Header false)
    else (if is_word (codes "RFC822.TEXT") item then Some (worded words.Rfc822Text true)
    else (if is_word (codes "RFC822.TEXT.PEEK") item then Some (worded words.Rfc822Text false)
    else None)))))))
