-- Strings, mailbox names and numbers in commands (RFC 9051, section 9).

use Rattle.std.specs.Prelude.{codes, ◌≤◌, false, ◌≡◌, ◌≢◌, ◌⊎◌, ℕ, ◌+◌, ◌-◌, ◌*◌, Bool, not, ◌&&◌}
use Rattle.std.specs.Prelude.{◌||◌, ◌==◌, List, [], ◌∷◌, ◌++◌, length, IsTrue, if◌then◌else◌}
use Rattle.std.specs.List.{list_all}
use Rattle.imap_types.specs.DateTimes.{is_digit}
use Rattle.imap_types.specs.Keywords.{is_astring_octet, is_atom_octet, is_tag_octet}
use Rattle.imap_types.specs.Names.{fold_inbox}
use Rattle.imap_syntax.specs.Languages.{◌⌢◌, exactly, nothing}
use Rattle.imap_syntax.specs.declared.octet_class.OctetClass.{OctetClass}
use Rattle.imap_syntax.specs.declared.octet_class.OctetClass.TheVariants.{Tag, Atom, Astring}
use Rattle.imap_syntax.specs.declared.octet_class.OctetClass.TheVariants.{Pattern, Digit, Item}

-- Whether an octet is one of a pattern without quotes: an astring octet, `%` or `*` (RFC 9051,
-- section 9, list-char).
abbrev pub is_pattern_octet : ℕ → Bool
is_pattern_octet octet = is_astring_octet octet || (octet == 37) || (octet == 42)

-- The octets of each class. The words of items have atom octets other than `[` (91).
abbrev pub is_in : OctetClass → ℕ → Bool
is_in Tag octet = is_tag_octet octet
is_in Atom octet = is_atom_octet octet
is_in Astring octet = is_astring_octet octet
is_in Pattern octet = is_pattern_octet octet
is_in Digit octet = is_digit octet
is_in Item octet = is_atom_octet octet && not (octet == 91)

-- One or more octets of a class, which stand for themselves.
abbrev pub run : OctetClass → List ℕ → List ℕ → Type 0
run class value text = (value ≢ []) × IsTrue (list_all (is_in class) value) × (text ≡ value)

-- The octets between quotes: `"` (34) and `\` (92) are written `\"` and `\\` (RFC 9051, section 9,
-- QUOTED-CHAR).
abbrev pub quoted_escape : List ℕ → List ℕ
quoted_escape [] = []
quoted_escape (octet ∷ octets) =
    if (octet == 34) || (octet == 92) then 92 ∷ octet ∷ quoted_escape octets
    else octet ∷ quoted_escape octets

-- Whether an octet is allowed between quotes: all but NUL, CR and LF.
abbrev pub is_quotable : ℕ → Bool
is_quotable octet = not ((octet == 0) || (octet == 13) || (octet == 10))

-- A quoted string (RFC 9051, section 9, quoted).
abbrev pub quoted : List ℕ → List ℕ → Type 0
quoted value text =
    IsTrue (list_all is_quotable value) × (text ≡ codes "\"" ++ (quoted_escape value ++ codes "\""))

-- The number spelled by the digits of `so_far` and these digits.
abbrev pub number_of : ℕ → List ℕ → ℕ
number_of so_far [] = so_far
number_of so_far (digit ∷ digits) = number_of (so_far * 10 + (digit - 48)) digits

-- A number in decimal digits (RFC 9051, section 9, number).
abbrev pub number : ℕ → List ℕ → Type 0
number value text = (digits : List ℕ) × run Digit digits text × (number_of 0 digits ≡ value)

-- A `+` (43) or nothing.
abbrev pub optional_plus : List ℕ → Type 0
optional_plus text = exactly (codes "+") text ⊎ nothing text

-- A literal: `{n}` or `{n+}`, CRLF and n octets (RFC 9051, section 9, literal).
abbrev pub literal : List ℕ → List ℕ → Type 0
literal value =
    exactly (codes "{") ⌢ number (length value) ⌢ optional_plus ⌢ exactly (codes "}\r\n") ⌢ exactly
    value

-- Octets of a class, which stand for themselves, or a string in either form.
abbrev pub text_of : OctetClass → List ℕ → List ℕ → Type 0
text_of class value text = run class value text ⊎ (quoted value text ⊎ literal value text)

-- A string or a word of astring octets (RFC 9051, section 9, astring).
abbrev pub astring : List ℕ → List ℕ → Type 0
astring = text_of Astring

-- A pattern of mailbox names (RFC 9051, section 9, list-mailbox).
abbrev pub pattern : List ℕ → List ℕ → Type 0
pattern = text_of Pattern

-- A mailbox name: an astring, in which INBOX has any case (RFC 9051, section 9, mailbox).
abbrev pub mailbox : List ℕ → List ℕ → Type 0
mailbox name text = (written : List ℕ) × astring written text × (fold_inbox written ≡ name)

-- Whether a text begins with an octet.
abbrev pub begins_with : ℕ → List ℕ → Bool
begins_with octet [] = false
begins_with octet (first ∷ octets) = first == octet

-- A number up to a limit (RFC 9051, section 9, number64).
abbrev pub number_to : ℕ → ℕ → List ℕ → Type 0
number_to limit value text = number value text × (value ≤ limit)

-- A number from 1 to 4,294,967,295 without a leading zero (RFC 9051, section 9, nz-number).
abbrev pub nz : ℕ → List ℕ → Type 0
nz value text = number value text × (begins_with 48 text ≡ false) × (value ≤ 4294967295)
