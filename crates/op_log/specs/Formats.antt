-- The format of a log, which its first line names. This is format 1.

use Rattle.std.specs.Prelude.{ℕ, Bool, false, ◌&&◌, ◌==◌, nat_lt, List, Option, Some, None, codes}
use Rattle.std.specs.Prelude.{drop, take, if◌then◌else◌}
use Rattle.std.specs.Str.{bytes_eq}
use Rattle.text_fields.specs.FieldReading.{◌>>=◌, cut_at, number_at}
use Rattle.op_log.specs.declared.recovery.LogFault.{LogFault}
use Rattle.op_log.specs.declared.recovery.LogFault.TheVariants.{LaterFormat, Unsound}

-- Whether there is a number, and it is above this one.
abbrev pub is_above : ℕ → Option ℕ → Bool
is_above limit None = false
is_above limit (Some number) = nat_lt limit number

-- The number between `log ` and the next space (32).
unfoldable pub format_at : List ℕ → Option ℕ
format_at text =
    if bytes_eq (take 4 text) (codes "log ")
    then cut_at 32 (drop 4 text) >>= (λ parts. number_at 18446744073709551615 parts.0) else None

-- Whether the text of a first line names a later format.
abbrev pub is_later_format : List ℕ → Bool
is_later_format text = is_above 1 (format_at text)

-- The fault of a line after so many octets whose text is that of no entry.
abbrev pub line_fault : ℕ → List ℕ → LogFault
line_fault octets text =
    if (octets == 0) && is_later_format text then LaterFormat else Unsound octets
