-- What the code that reads days keeps.

use Rattle.std.specs.Prelude.{ℕ, Bool, not, List, [], ◌∷◌, Option, Some, None}
use Rattle.imap_types.specs.DateTimes.{is_digit}
use Rattle.rev1_front.specs.SentDays.{is_gap, is_letter}
use Rattle.rev1_front.specs.declared.search_days.Kind.{Kind}
use Rattle.rev1_front.specs.declared.search_days.Kind.TheVariants as kinds
use Rattle.rev1_front.specs.declared.search_days.SentDay.{SentDay}

-- The day, if any, as a list.
abbrev pub days_in : Option SentDay → List SentDay
days_in None = []
days_in (Some day) = day ∷ []

-- Whether an octet is of a kind.
abbrev pub is_of_kind : Kind → ℕ → Bool
is_of_kind kinds.Digit octet = is_digit octet
is_of_kind kinds.Letter octet = is_letter octet
is_of_kind kinds.Gap octet = is_gap octet
is_of_kind kinds.Other octet = not (is_digit octet)
