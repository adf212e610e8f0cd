-- Modified UTF-7, in which IMAP4rev1 writes the names of mailboxes (RFC 3501, section 5.1.3).

use Rattle.std.specs.Prelude.{◌≡◌, ◌↔◌, ℕ, ◌/◌, ◌%◌, Bool, ◌==◌, ◌&&◌, List, [], ◌∷◌, ◌++◌, codes}
use Rattle.std.specs.Prelude.{Option, Some, IsUtf8, flat_map, nat_le, if◌then◌else◌}
use Rattle.std.specs.Char.Escape.{encode_utf16}
use Rattle.std.specs.Str.{chars}
use Rattle.base64.specs.Rfc4648.{encode_symbols}

-- The symbols of modified base64: those of base64, with "," for "/".
abbrev pub symbols : List ℕ
symbols = codes "ABCDEFGHIJKLMNOPQRSTUVWXYZabcdefghijklmnopqrstuvwxyz0123456789+,"

-- Whether a character is printable US-ASCII, which represents itself, except that "&" is "&-".
abbrev pub is_direct : ℕ → Bool
is_direct character = nat_le 32 character && nat_le character 126

-- A part of a name: a printable character, or characters that aren't printable, one after another.
pub data Run : Type 0 where
  Direct : ℕ → Run
  Shifted : List ℕ → Run

-- Runs, with a character before them that isn't printable.
abbrev pub in_shift : ℕ → List Run → List Run
in_shift character [] = Shifted (character ∷ []) ∷ []
in_shift character (Direct next ∷ runs) = Shifted (character ∷ []) ∷ Direct next ∷ runs
in_shift character (Shifted next ∷ runs) = Shifted (character ∷ next) ∷ runs

-- Characters as runs: all that aren't printable and follow one another are one run.
abbrev pub runs_of : List ℕ → List Run
runs_of [] = []
runs_of (character ∷ characters) =
    if is_direct character then Direct character ∷ runs_of characters
    else in_shift character (runs_of characters)

-- 16-bit units as octets, the high octet first.
abbrev pub octets_of_units : List ℕ → List ℕ
octets_of_units [] = []
octets_of_units (unit ∷ units) = (unit / 256) ∷ (unit % 256) ∷ octets_of_units units

-- Characters in UTF-16 (RFC 2781, section 2.1), as octets.
abbrev pub utf16_octets : List ℕ → List ℕ
utf16_octets characters = octets_of_units (flat_map encode_utf16 characters)

-- A shift: "&", the characters in UTF-16 in modified base64 without padding, "-".
abbrev pub shift_of : List ℕ → List ℕ
shift_of characters =
    codes "&" ++ (encode_symbols symbols (utf16_octets characters) ++ codes "-")

-- A printable character stands for itself, "&" is "&-".
abbrev pub direct_octets : ℕ → List ℕ
direct_octets character = if character == 38 then codes "&-" else character ∷ []

abbrev pub octets_of_run : Run → List ℕ
octets_of_run (Direct character) = direct_octets character
octets_of_run (Shifted characters) = shift_of characters

-- Characters in modified UTF-7: their runs, one after another.
abbrev pub spelling_of : List ℕ → List ℕ
spelling_of characters = flat_map octets_of_run (runs_of characters)

-- A name, given in UTF-8, in modified UTF-7.
abbrev pub encoding_of : List ℕ → List ℕ
encoding_of name = spelling_of (chars name)

-- What octets decode to: the name of which they are the encoding, and nothing if they are that of
-- no name.
abbrev pub IsDecoding : List ℕ → Option (List ℕ) → Type 0
IsDecoding octets decoded =
    (name : List ℕ) → IsUtf8 name → (decoded ≡ Some name) ↔ (encoding_of name ≡ octets)
