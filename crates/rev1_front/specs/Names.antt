-- Mailbox names of IMAP4rev1 and of the profile (RFC 3501, section 5.1.3).

use Rattle.std.specs.Prelude.{◌≡◌, ◌⊎◌, ℕ, Bool, true, false, List, Option, Some, None, nat_lt}
use Rattle.std.specs.List.{list_any}
use Rattle.std.specs.Str.{IsUtf8}
use Rattle.mailbox_utf7.specs.ModifiedUtf7.{encoding_of}
use Rattle.rev1_front.specs.declared.session.Mode.{Mode}
use Rattle.rev1_front.specs.declared.session.Mode.TheVariants.{Rev1, Rev2}

-- Whether an octet is above 127, so that it is in no modified UTF-7.
abbrev pub has_high_octet : List ℕ → Bool
has_high_octet octets = list_any (λ octet. nat_lt 127 octet) octets

-- The name of which octets are the modified UTF-7, and none if they are that of no name.
abbrev pub IsDecoded : List ℕ → Option (List ℕ) → Type 0
IsDecoded octets (Some name) = IsUtf8 name × (encoding_of name ≡ octets)
IsDecoded octets None = (name : List ℕ) → IsUtf8 name → encoding_of name ≡ octets → ⊥

-- What octets of a client mean: the name of which they are the modified UTF-7, and nothing if they
-- are that of no name; with an octet above 127 they are UTF-8, and mean themselves.
abbrev pub IsInner : List ℕ → Option (List ℕ) → Type 0
IsInner octets inner =
    ((has_high_octet octets ≡ true) × (inner ≡ Some octets))
    ⊎ ((has_high_octet octets ≡ false) × IsDecoded octets inner)

-- The name that a client in a mode is shown: in modified UTF-7, or as it is.
abbrev pub IsOuter : Mode → List ℕ → List ℕ → Type 0
IsOuter Rev1 name outer =
    (IsUtf8 name × (outer ≡ encoding_of name)) ⊎ ((IsUtf8 name → ⊥) × (outer ≡ name))
IsOuter Rev2 name outer = outer ≡ name
