-- The escape in which lines of text spell octets, and how it is read.

use Rattle.std.specs.Prelude.{◌≡◌, ℕ, ◌+◌, ◌-◌, ◌*◌, ◌/◌, ◌%◌, ◌<◌, Bool, not, ◌&&◌, ◌||◌, ◌==◌}
use Rattle.std.specs.Prelude.{nat_lt, List, [], ◌∷◌, ◌++◌, Option, Some, None, Result, Ok, Err}
use Rattle.std.specs.Prelude.{if◌then◌else◌}
use Rattle.std.specs.List.{flat_map}
use Rattle.imap_types.specs.declared.escape.Escape.{Escape}
use Rattle.imap_types.specs.declared.escape.Escape.TheVariants.{Field, Text}
use Rattle.imap_types.specs.declared.escape.EscapeFault.{EscapeFault}
use Rattle.imap_types.specs.declared.escape.EscapeFault.TheVariants.{NotEscaped, NoMemory}

-- Whether an octet stands for itself: 33 to 126 without `~` (126); in a text the space (32) too.
abbrev pub is_plain : Escape → ℕ → Bool
is_plain Field octet = not (nat_lt octet 33) && nat_lt octet 126
is_plain Text octet = not (nat_lt octet 32) && nat_lt octet 126

-- The upper-case hexadecimal digit of a number below 16.
abbrev pub hex_digit : ℕ → ℕ
hex_digit n = if nat_lt n 10 then 48 + n else 55 + n

-- An octet in the escape: itself, or `~` and two hexadecimal digits.
abbrev pub escape_octet : Escape → ℕ → List ℕ
escape_octet escape octet =
    if is_plain escape octet then octet ∷ []
    else 126 ∷ hex_digit (octet / 16) ∷ hex_digit (octet % 16) ∷ []

-- Octets in the escape, one after another.
abbrev pub escape_text : Escape → List ℕ → List ℕ
escape_text escape octets = flat_map (escape_octet escape) octets

-- Each of these numbers is an octet.
abbrev pub AreOctets : List ℕ → Type 0
AreOctets [] = Unit {0}
AreOctets (octet ∷ octets) = (octet < 256) × AreOctets octets

-- Whether an octet is an upper-case hexadecimal digit.
abbrev pub is_hex : ℕ → Bool
is_hex octet =
    (not (nat_lt octet 48) && nat_lt octet 58) || (not (nat_lt octet 65) && nat_lt octet 71)

-- The number that an upper-case hexadecimal digit writes.
abbrev pub hex_value : ℕ → ℕ
hex_value octet = if nat_lt octet 58 then octet - 48 else octet - 55

-- The octet spelled by two hexadecimal digits.
abbrev pub hex_octet : ℕ → ℕ → ℕ
hex_octet high low = hex_value high * 16 + hex_value low

-- Whether these three octets are the escape's spelling of one that doesn't stand for itself.
abbrev pub is_escape : Escape → ℕ → ℕ → ℕ → Bool
is_escape escape tilde high low =
    (tilde == 126) && (is_hex high && (is_hex low && not (is_plain escape (hex_octet high low))))

-- The octets that were read, with `front` before them; `None` if nothing could be read.
abbrev pub with_octets_before : List ℕ → Option (List ℕ) → Option (List ℕ)
with_octets_before front None = None
with_octets_before front (Some octets) = Some (front ++ octets)

-- The octets that a text in the escape stands for; `None` if it is the spelling of none.
abbrev pub unescape : Escape → List ℕ → Option (List ℕ)
unescape escape [] = Some []
unescape escape (a ∷ []) = if is_plain escape a then Some (a ∷ []) else None
unescape escape (a ∷ b ∷ []) =
    if is_plain escape a then with_octets_before (a ∷ []) (unescape escape (b ∷ [])) else None
unescape escape (a ∷ b ∷ c ∷ rest) =
    if is_plain escape a then with_octets_before (a ∷ []) (unescape escape (b ∷ c ∷ rest))
    else (if is_escape escape a b c
    then with_octets_before (hex_octet b c ∷ []) (unescape escape rest)
    else None)

-- Any fault but that of memory means that nothing can be read.
abbrev pub FailsToRead : {Y : Type 0} → EscapeFault → Option Y → Type 0
FailsToRead NoMemory read = Unit {0}
FailsToRead NotEscaped read = read ≡ None

-- A reader gives what can be read, or runs out of memory.
abbrev pub IsReading : {X Y : Type 0} → (X → Y) → Result X EscapeFault → Option Y → Type 0
IsReading view (Ok x) read = read ≡ Some (view x)
IsReading view (Err e) read = FailsToRead e read
