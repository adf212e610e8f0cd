-- The delimiter lines of a text's multiparts (RFC 2046, section 5.1.1).

use Rattle.std.specs.Prelude.{◌≡◌, ℕ, Bool, true, false, not, ◌&&◌, List, [], ◌∷◌, ◌++◌}
use Rattle.std.specs.Prelude.{codes, length, nat_lt, take}
use Rattle.std.specs.List.{list_any}
use Rattle.std.specs.Str.{bytes_eq}

-- A line, and lines: each but the last of a text ends with CRLF (`lines_of` of `mail_text`).
abbrev pub Line : Type 0
Line = List ℕ

abbrev pub Lines : Type 0
Lines = List (List ℕ)

-- Whether octets begin with others.
abbrev pub begins_with : List ℕ → List ℕ → Bool
begins_with front octets = bytes_eq front (take (length front) octets)

-- Whether a line begins with "--" and this boundary. Whatever follows doesn't count.
abbrev pub has_boundary : List ℕ → Line → Bool
has_boundary boundary line = begins_with (codes "--" ++ boundary) line

-- Whether a line is a delimiter line of one of these boundaries.
abbrev pub is_delimiter : List (List ℕ) → Line → Bool
is_delimiter boundaries line = list_any (λ boundary. has_boundary boundary line) boundaries

-- Whether a line has another boundary too that is longer.
abbrev pub is_longer_boundary : List ℕ → Line → List ℕ → Bool
is_longer_boundary own line other = nat_lt (length own) (length other) && has_boundary other line

abbrev pub has_longer_boundary : List (List ℕ) → List ℕ → Line → Bool
has_longer_boundary boundaries own line = list_any (is_longer_boundary own line) boundaries

-- Whether a line is the delimiter line of this boundary, the innermost of those in force: of all
-- boundaries that it has, the longest counts, and of equally long ones the innermost.
abbrev pub is_own_delimiter : List (List ℕ) → List ℕ → Line → Bool
is_own_delimiter boundaries own line =
    has_boundary own line && not (has_longer_boundary boundaries own line)

-- Whether a delimiter line closes its multipart: "--" follows the boundary.
abbrev pub is_closing : List ℕ → Line → Bool
is_closing boundary line = has_boundary (boundary ++ codes "--") line

-- No line is a delimiter line of a boundary in force.
abbrev pub HasNoDelimiter : List (List ℕ) → Lines → Type 0
HasNoDelimiter boundaries lines = list_any (is_delimiter boundaries) lines ≡ false

-- The following lines begin with a delimiter line of a boundary in force, or there are none.
abbrev pub IsEnd : List (List ℕ) → Lines → Type 0
IsEnd boundaries [] = Unit {0}
IsEnd boundaries (line ∷ lines) = is_delimiter boundaries line ≡ true
