-- The number of a part at the beginning of a section (RFC 3501, section 9, section-part).

use Rattle.std.specs.Prelude.{◌≡◌, ◌⊎◌, ◌<◌, ℕ, zero, suc, Bool, true, false, ◌&&◌, ◌==◌, nat_lt}
use Rattle.std.specs.Prelude.{List, [], ◌∷◌, ◌++◌, codes, length, drop, Option, Some, None, Result}
use Rattle.std.specs.Prelude.{Ok, Err, if◌then◌else◌}
use Rattle.imap_types.specs.DateTimes.{is_digit}
use Rattle.imap_syntax.specs.Strings.{begins_with, number_of}
use Rattle.imap_grammar.specs.Reading.{span}
use Rattle.mail_text.specs.TextSearch.{is_prefix}
use Rattle.rev1_fetch.specs.declared.item_fault.ItemFault.{ItemFault}
use Rattle.rev1_fetch.specs.declared.item_fault.ItemFault.TheVariants.{NoMemory, PartZero, Unknown}

-- The result of the code is that of a reading function, unless memory runs out.
abbrev pub IsFaultRead : {Y : Type 0} → ItemFault → Result Y ItemFault → Type 0
IsFaultRead NoMemory read = Unit {0}
IsFaultRead PartZero read = read ≡ Err PartZero
IsFaultRead Unknown read = read ≡ Err Unknown

abbrev pub IsReadAs : {X Y : Type 0} → (X → Y) → Result X ItemFault → Result Y ItemFault → Type 0
IsReadAs view (Ok value) read = read ≡ Ok (view value)
IsReadAs view (Err fault) read = IsFaultRead fault read

-- A number from 1 to 4,294,967,295 without a leading zero (48), what follows it, and whether it is
-- the last: a point (46) is before another or a word, a closing bracket (93) after the last.
pub record FoundNumber : Type 0 where
  pub number : ℕ
  pub rest : List ℕ
  pub is_last : Bool

abbrev pub found_number : ℕ → List ℕ → Bool → FoundNumber
found_number number rest is_last = record { number = number; rest = rest; is_last = is_last }

abbrev pub number_before : ℕ → List ℕ → Result (Option FoundNumber) ItemFault
number_before number [] = Err Unknown
number_before number (octet ∷ octets) =
    if octet == 46 then Ok (Some (found_number number octets false))
    else (if octet == 93 then Ok (Some (found_number number (octet ∷ octets) true))
    else Err Unknown)

-- A number of these digits; none if there are none.
abbrev pub number_of_digits : List ℕ → List ℕ → Result (Option FoundNumber) ItemFault
number_of_digits [] rest = Ok None
number_of_digits (digit ∷ digits) rest =
    if digit == 48 then Err PartZero
    else (if nat_lt 4294967295 (number_of 0 (digit ∷ digits)) then Err Unknown
    else number_before (number_of 0 (digit ∷ digits)) rest)

abbrev pub leading_number : List ℕ → Result (Option FoundNumber) ItemFault
leading_number octets = number_of_digits (span is_digit octets).0 (span is_digit octets).1

-- The number of a part, whether MIME is after it, and what follows in the section.
pub record NumberParts : Type 0 where
  pub path : List ℕ
  pub is_mime : Bool
  pub rest : List ℕ

abbrev pub number_parts : List ℕ → Bool → List ℕ → NumberParts
number_parts path is_mime rest = record { path = path; is_mime = is_mime; rest = rest }

-- What follows a point after a number: MIME up to the closing bracket (93), or a section's word.
abbrev pub after_point : List ℕ → List ℕ → Result NumberParts ItemFault
after_point path rest =
    if begins_with 93 rest then Err Unknown
    else (if is_prefix (codes "MIME") rest && begins_with 93 (drop 4 rest)
    then Ok (number_parts path true (drop 4 rest)) else Ok (number_parts path false rest))

-- The octets after all numbers: no number was there, or a point was before them.
abbrev pub after_numbers : List ℕ → List ℕ → Result NumberParts ItemFault
after_numbers [] rest = Ok (number_parts [] false rest)
after_numbers (number ∷ numbers) rest = after_point (number ∷ numbers) rest

-- A path with what was read after it; `next` reads more.
abbrev pub with_number : (List ℕ → List ℕ → Result NumberParts ItemFault) → List ℕ → List ℕ
    → Result (Option FoundNumber) ItemFault → Result NumberParts ItemFault
with_number next path octets (Err fault) = Err fault
with_number next path octets (Ok None) = after_numbers path octets
with_number next path octets (Ok (Some found)) =
    if found.is_last then Ok (number_parts (path ++ found.number ∷ []) false found.rest)
    else next (path ++ found.number ∷ []) found.rest

-- At most `count` numbers more, after those of a path.
abbrev pub numbers_from : ℕ → List ℕ → List ℕ → Result NumberParts ItemFault
numbers_from zero path octets = after_numbers path octets
numbers_from (suc count) path octets =
    with_number (numbers_from count) path octets (leading_number octets)

-- A section, from its beginning on. There are at most as many numbers as octets.
abbrev pub part_number : List ℕ → Result NumberParts ItemFault
part_number section = numbers_from (length section) [] section

-- ---- The same as it is written.

-- Numbers from 1 to 4,294,967,295 (RFC 3501, section 9, nz-number).
abbrev pub ArePartNumbers : List ℕ → Type 0
ArePartNumbers [] = Unit {0}
ArePartNumbers (number ∷ path) = (0 < number) × (number < 4294967296) × ArePartNumbers path

-- A section's word is HEADER.. or TEXT in any letter case, or there is none: it begins with H (72,
-- 104) or T (84, 116).
abbrev pub BeginsSection : List ℕ → Type 0
BeginsSection [] = Unit {0}
BeginsSection (letter ∷ letters) =
    (letter ≡ 72) ⊎ ((letter ≡ 104) ⊎ ((letter ≡ 84) ⊎ (letter ≡ 116)))
