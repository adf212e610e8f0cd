-- How the readers take a field apart. What a field means is defined by its text (`id_text` and
-- `entry_text` of Fields); laws of the crates that read whole lines join the two.

use Rattle.std.specs.Prelude.{ℕ, Bool, true, false, not, ◌&&◌, ◌==◌, nat_le, List, [], ◌∷◌, ◌++◌}
use Rattle.std.specs.Prelude.{Option, Some, None, option_and_then, if◌then◌else◌}
use Rattle.std.specs.Char.{is_ascii_digit}
use Rattle.std.specs.List.{list_all}
use Rattle.std.specs.Str.Parse.{digits_value}
use Rattle.tags_clocks.specs.declared.id.OpId.{OpId}

infixl 10 ◌>>=◌
-- The result of the next reading for the value of this one, if both succeed.
abbrev pub ◌>>=◌ : {A B : Type 0} → Option A → (A → Option B) → Option B
read >>= next = option_and_then next read

-- A cut, with these octets before its first part.
abbrev pub before_first_part : List ℕ → Option (List ℕ × List ℕ) → Option (List ℕ × List ℕ)
before_first_part front None = None
before_first_part front (Some cut) = Some (front ++ cut.0, cut.1)

-- The octets before the first separator, and those after it.
abbrev pub cut_at : ℕ → List ℕ → Option (List ℕ × List ℕ)
cut_at separator [] = None
cut_at separator (octet ∷ octets) =
    if octet == separator then Some ([], octets)
    else before_first_part (octet ∷ []) (cut_at separator octets)

-- Whether a text isn't empty, and doesn't begin with zero (48) unless that is all of it.
abbrev pub has_no_leading_zero : List ℕ → Bool
has_no_leading_zero [] = false
has_no_leading_zero (digit ∷ []) = true
has_no_leading_zero (digit ∷ next ∷ digits) = not (digit == 48)

-- The number spelled by the digits without a leading zero, if it is at most the limit.
unfoldable pub number_at : ℕ → List ℕ → Option ℕ
number_at limit text =
    if (has_no_leading_zero text && list_all is_ascii_digit text)
    && nat_le (digits_value 10 text) limit then Some (digits_value 10 text)
    else None

-- The number, if it is at least 1.
abbrev pub positive : ℕ → Option ℕ
positive number = if number == 0 then None else Some number

-- The replica that a field names.
unfoldable pub replica_at : List ℕ → Option ℕ
replica_at text = do
  number ← number_at 65535 text
  positive number

-- The replica before the first delimiter, and the number after it.
unfoldable pub pair_at : ℕ → List ℕ → Option (ℕ × ℕ)
pair_at delimiter text = do
  parts ← cut_at delimiter text
  replica ← replica_at parts.0
  second ← number_at 4294967295 parts.1
  number ← positive second
  Some (replica, number)

-- The id that a field names.
unfoldable pub id_at : List ℕ → Option OpId
id_at text = do
  pair ← pair_at 58 text
  Some (record { replica = pair.0; number = pair.1 })
