-- What is written of a log.

use Rattle.std.specs.Prelude.{◌≡◌, ℕ, List, [], ◌∷◌, ◌++◌, codes}
use Rattle.std.specs.Fmt.{decimal}
use Rattle.log_dump.specs.LogDumps.{IsLogDump, IsUnreadableAt}
use Rattle.log_dump.specs.declared.dump_end.LogDumpEnd.{LogDumpEnd}
use Rattle.log_dump.specs.declared.dump_end.LogDumpEnd.TheVariants.{Done, NoMemory, ReadFailed}
use Rattle.log_dump.specs.declared.dump_end.LogDumpEnd.TheVariants.{Unreadable, WriteFailed}

-- The line that reports why there is no dump.
abbrev pub line_of_end : LogDumpEnd → List ℕ
line_of_end Done = []
line_of_end (Unreadable octets) = codes "unreadable: octet " ++ (decimal octets ++ 10 ∷ [])
line_of_end ReadFailed = codes "cannot read\n"
line_of_end WriteFailed = []
line_of_end NoMemory = codes "no memory\n"

-- A log's reading may end in this way without a dump.
abbrev pub IsFailedEnd : List ℕ → LogDumpEnd → Type 0
IsFailedEnd log Done = ⊥
IsFailedEnd log (Unreadable octets) = IsUnreadableAt log octets
IsFailedEnd log ReadFailed = Unit {0}
IsFailedEnd log WriteFailed = ⊥
IsFailedEnd log NoMemory = Unit {0}

-- What is written of a log: its dump, or a line that reports why there is none. Nothing is known of
-- what a writer that failed wrote.
abbrev pub IsOutput : List ℕ → LogDumpEnd → List ℕ → Type 0
IsOutput log Done out = IsLogDump log out
IsOutput log WriteFailed out = Unit {0}
IsOutput log end out = IsFailedEnd log end × (out ≡ line_of_end end)
