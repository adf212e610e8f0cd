-- The lines of a text, and those of its header and body (RFC 5322, section 2.1).

use Rattle.std.specs.Prelude.{ℕ, Bool, ◌&&◌, ◌==◌, List, [], ◌∷◌, if◌then◌else◌}
use Rattle.std.specs.Str.{bytes_eq}

-- The two octets that end a line (RFC 5322, section 2.1).
abbrev pub crlf : List ℕ
crlf = 13 ∷ 10 ∷ []

-- Whether these two octets end a line.
abbrev pub is_crlf : ℕ → ℕ → Bool
is_crlf a b = (a == 13) && (b == 10)

-- An element added at the beginning of the first list.
abbrev pub in_first : {A : Type 0} → A → List (List A) → List (List A)
in_first a [] = (a ∷ []) ∷ []
in_first a (xs ∷ xss) = (a ∷ xs) ∷ xss

-- The lines of a text: each ends with the next CRLF, and the last may lack it.
abbrev pub lines_of : List ℕ → List (List ℕ)
lines_of [] = []
lines_of (a ∷ []) = (a ∷ []) ∷ []
lines_of (a ∷ b ∷ rest) =
    if is_crlf a b then (a ∷ b ∷ []) ∷ lines_of rest else in_first a (lines_of (b ∷ rest))

-- Whether a line is only CRLF.
abbrev pub is_empty_line : List ℕ → Bool
is_empty_line line = bytes_eq line crlf

-- The lines up to and including the first empty one, or all if no line is empty.
abbrev pub header_lines : List (List ℕ) → List (List ℕ)
header_lines [] = []
header_lines (line ∷ lines) = if is_empty_line line then line ∷ [] else line ∷ header_lines lines

-- The lines after the first empty one.
abbrev pub body_lines : List (List ℕ) → List (List ℕ)
body_lines [] = []
body_lines (line ∷ lines) = if is_empty_line line then lines else body_lines lines
