-- What a crash leaves of a log. A log is written only at its end, and what was synced remains.
-- After that, any octets may follow: the written ones cut short, blocks of them that were written
-- in another order or not at all, zeros, or what was there before.

use Rattle.std.specs.Prelude.{◌≡◌, ℕ, List, [], ◌∷◌, ◌++◌, Some}
use Rattle.crdt_ops.specs.Reading.{parts_at}
use Rattle.merge_laws.specs.Orders.{IsIn}
use Rattle.op_log.specs.Lines.{AreTexts, line_text, log_of}

-- The first list is where the second begins.
abbrev pub IsPrefixOf : {X : Type 0} → List X → List X → Type 0
IsPrefixOf {X} front all = (back : List X) × (all ≡ front ++ back)

-- Checksums show damage: if octets begin with whole lines, each with the checksum of its text,
-- these are the first lines that were written there, in their order.
abbrev pub BeginsWithWrittenLines : List (List ℕ) → List ℕ → Type 0
BeginsWithWrittenLines unsynced octets =
    (texts : List (List ℕ)) (rest : List ℕ) → AreTexts texts → octets ≡ log_of texts ++ rest
    → IsPrefixOf texts unsynced

-- A crash may leave this log: the lines of the first texts had been synced, and those of the others
-- were being written.
abbrev pub IsCrashState : List (List ℕ) → List (List ℕ) → List ℕ → Type 0
IsCrashState synced unsynced log =
    (after : List ℕ) × (log ≡ log_of synced ++ after) × BeginsWithWrittenLines unsynced after

-- Each whole line among these parts is a line that was written, if it has the checksum of its text.
-- The last part isn't a line, since no line end follows it.
abbrev pub AreWrittenLines : List (List ℕ) → List (List ℕ) → Type 0
AreWrittenLines unsynced [] = Unit {0}
AreWrittenLines unsynced (part ∷ []) = Unit {0}
AreWrittenLines unsynced (line ∷ next ∷ parts) =
    ((text : List ℕ) → line_text line ≡ Some text → IsIn text unsynced)
    × AreWrittenLines unsynced (next ∷ parts)

-- Checksums show damage, also after the first damaged line: each whole line with the checksum of
-- its text is one that was written there.
abbrev pub HasOnlyWrittenLines : List (List ℕ) → List ℕ → Type 0
HasOnlyWrittenLines unsynced octets = AreWrittenLines unsynced (parts_at 10 octets)
