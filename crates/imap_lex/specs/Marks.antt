-- The marks of literals at the ends of lines (RFC 9051, sections 4.3 and 9, literal).

use Rattle.std.specs.Prelude.{◌≡◌, ℕ, ◌+◌, ◌-◌, ◌*◌, ◌≤◌, Bool, true, false, List, [], ◌∷◌, ◌++◌}

-- The end of a line: CR (13) and LF (10) (RFC 9051, section 2.2).
abbrev pub crlf : List ℕ
crlf = 13 ∷ 10 ∷ []

-- Each octet is a digit, from `0` (48) to `9` (57).
abbrev pub AreDigits : List ℕ → Type 0
AreDigits [] = Unit {0}
AreDigits (d ∷ ds) = (48 ≤ d) × (d ≤ 57) × AreDigits ds

-- The number spelled by the digits of `n` and these digits.
abbrev pub value_of : ℕ → List ℕ → ℕ
value_of n [] = n
value_of n (d ∷ ds) = value_of (n * 10 + (d - 48)) ds

-- One or more digits that spell `n`; leading zeros don't count.
pub record IsNumber (n : ℕ) (digits : List ℕ) : Type 0 where
  pub not_empty : digits ≡ [] → ⊥
  pub are_digits : AreDigits digits
  pub value : value_of 0 digits ≡ n

-- The sign `+` (43) of a mark after which the client doesn't wait (RFC 9051, section 4.3).
abbrev pub sign : Bool → List ℕ
sign true = 43 ∷ []
sign false = []

-- What closes a mark: the sign if it has one, `}` (125) and the line's end.
abbrev pub closing : Bool → List ℕ
closing plus = sign plus ++ 125 ∷ crlf

-- The line ends with the mark `{n}` or, with plus, `{n+}` of a literal of n octets (RFC 9051,
-- section 9, literal).
pub record IsMarked (n : ℕ) (plus : Bool) (line : List ℕ) : Type 0 where
  pub before : List ℕ
  pub digits : List ℕ
  pub number : IsNumber n digits
  pub line_is : line ≡ before ++ 123 ∷ (digits ++ closing plus)

-- The line doesn't end with a mark.
abbrev pub IsUnmarked : List ℕ → Type 0
IsUnmarked line = (n : ℕ) (plus : Bool) → IsMarked n plus line → ⊥
