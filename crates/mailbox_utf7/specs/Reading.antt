-- Modified UTF-7 as the code writes and reads it: octet by octet, for any decoder of base64.

use Rattle.std.specs.Prelude.{ℕ, ◌+◌, ◌*◌, Bool, true, false, ◌==◌, List, [], ◌∷◌, ◌++◌, codes}
use Rattle.std.specs.Prelude.{Option, Some, None, encode_utf8, if◌then◌else◌, flat_map}
use Rattle.std.specs.Char.Utf16.{has_unpaired_surrogate, utf16_lossy_chars}
use Rattle.std.specs.Str.{encode_utf8_all}
use Rattle.mailbox_utf7.specs.ModifiedUtf7.{Run, in_shift, octets_of_run, runs_of, shift_of}

-- Runs, with these characters before them, none of which is printable.
abbrev pub after_shift : List ℕ → List Run → List Run
after_shift [] runs = runs
after_shift (character ∷ characters) runs = in_shift character (after_shift characters runs)

-- What is still to be written: the characters of a shift that has begun, and the following ones.
abbrev pub spelling_after : List ℕ → List ℕ → List ℕ
spelling_after pending characters =
    flat_map octets_of_run (after_shift pending (runs_of characters))

-- A shift, if it has characters.
abbrev pub shift_if_any : List ℕ → List ℕ
shift_if_any [] = []
shift_if_any (character ∷ characters) = shift_of (character ∷ characters)

-- Octets as 16-bit units, the high octet first; nothing if an octet is left over.
abbrev pub with_unit : ℕ → Option (List ℕ) → Option (List ℕ)
with_unit unit None = None
with_unit unit (Some units) = Some (unit ∷ units)

abbrev pub units_of : List ℕ → Option (List ℕ)
units_of [] = Some []
units_of (octet ∷ []) = None
units_of (high ∷ low ∷ octets) = with_unit (high * 256 + low) (units_of octets)

-- 16-bit units of UTF-16 in UTF-8; nothing if a surrogate has no partner.
abbrev pub text_of_units : Option (List ℕ) → Option (List ℕ)
text_of_units None = None
text_of_units (Some units) =
    if has_unpaired_surrogate units then None else Some (encode_utf8_all (utf16_lossy_chars units))

abbrev pub text_of_octets : Option (List ℕ) → Option (List ℕ)
text_of_octets None = None
text_of_octets (Some octets) = text_of_units (units_of octets)

-- The text of a shift's symbols; "&" if it has none.
abbrev pub text_of_shift : (List ℕ → Option (List ℕ)) → List ℕ → Option (List ℕ)
text_of_shift base64 [] = Some (codes "&")
text_of_shift base64 (symbol ∷ symbols) = text_of_octets (base64 (symbol ∷ symbols))

-- A text before another, if there are both.
abbrev pub joined : Option (List ℕ) → Option (List ℕ) → Option (List ℕ)
joined None text = None
joined (Some front) None = None
joined (Some front) (Some text) = Some (front ++ text)

-- The text that is read from octets, within a shift of which these symbols were read, or outside.
abbrev pub text_read : (List ℕ → Option (List ℕ)) → Bool → List ℕ → List ℕ → Option (List ℕ)
text_read base64 false symbols [] = Some []
text_read base64 true symbols [] = None
text_read base64 false symbols (octet ∷ octets) =
    if octet == 38 then text_read base64 true [] octets
    else joined (Some (encode_utf8 octet)) (text_read base64 false [] octets)
text_read base64 true symbols (octet ∷ octets) =
    if octet == 45 then joined (text_of_shift base64 symbols) (text_read base64 false [] octets)
    else text_read base64 true (symbols ++ octet ∷ []) octets

-- A text that was read, and what is read from the following octets.
abbrev pub text_read_after : (List ℕ → Option (List ℕ)) → List ℕ → Bool → List ℕ → List ℕ
    → Option (List ℕ)
text_read_after base64 text is_shifted symbols octets =
    joined (Some text) (text_read base64 is_shifted symbols octets)

-- The same after one more octet, if it could be read.
abbrev pub text_read_next : (List ℕ → Option (List ℕ)) → List ℕ → Option Bool → List ℕ → List ℕ
    → Option (List ℕ)
text_read_next base64 text None symbols octets = None
text_read_next base64 text (Some is_shifted) symbols octets =
    text_read_after base64 text is_shifted symbols octets
