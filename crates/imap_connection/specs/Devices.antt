-- What is known of the octets that a source gave and that a sink took.

use Rattle.std.specs.Prelude.{◌≡◌, ℕ, Bool, true, false, List, [], ◌∷◌, ◌++◌, Option, Some, None}

-- A source gave these octets; a source whose octets aren't known may have given any.
abbrev pub GivesOctets : Option (List ℕ) → List ℕ → Option (List ℕ) → Type 0
GivesOctets None octets new = Unit {0}
GivesOctets (Some old) octets new = (rest : List ℕ) × (new ≡ Some rest) × (old ≡ octets ++ rest)

-- A sink took these octets.
abbrev pub TakesOctets : Option (List ℕ) → List ℕ → Option (List ℕ) → Type 0
TakesOctets None octets new = Unit {0}
TakesOctets (Some old) octets new = new ≡ Some (old ++ octets)

-- A sink took all of these octets; or, if not, an initial part.
abbrev pub TakesAllOrPart : Bool → Option (List ℕ) → List ℕ → Option (List ℕ) → Type 0
TakesAllOrPart true old octets new = TakesOctets old octets new
TakesAllOrPart false old octets new =
    (front : List ℕ) × (back : List ℕ) × (octets ≡ front ++ back) × TakesOctets old front new

-- Text was added to the octets that the sink had taken and to those buffered: the sink took an
-- initial part of the buffered octets and the text, and the rest is buffered.
abbrev pub IsOutput : Option (List ℕ) → List ℕ → List ℕ → Option (List ℕ) → List ℕ → Type 0
IsOutput None held output new left = Unit {0}
IsOutput (Some old) held output new left =
    (out : List ℕ) × (new ≡ Some (old ++ out)) × (held ++ output ≡ out ++ left)

-- One octet was appended if the flag is true; nothing changed otherwise.
abbrev pub PutsOctet : Bool → List ℕ → ℕ → List ℕ → Type 0
PutsOctet true old octet new = new ≡ old ++ octet ∷ []
PutsOctet false old octet new = new ≡ old
