-- What a log shows of damage to lines that had been synced: a commit after them says so.

use Rattle.std.specs.Prelude.{ℕ, ◌≤◌, Bool, false, ◌||◌, List, [], ◌∷◌, Option, None}
use Rattle.std.specs.Prelude.{codes, drop, take, if◌then◌else◌}
use Rattle.std.specs.Str.{bytes_eq}
use Rattle.text_fields.specs.FieldReading.{◌>>=◌, number_at}
use Rattle.op_log.specs.Formats.{is_above}
use Rattle.op_log.specs.Lines.{line_text}
use Rattle.op_log.specs.declared.entry.Entry.{Entry}
use Rattle.op_log.specs.declared.entry.Entry.TheVariants.{Begin, Apply, Commit}

-- How many octets had been synced, by the text of a commit; `None` if it is none.
unfoldable pub commit_synced : List ℕ → Option ℕ
commit_synced text =
    if bytes_eq (take 7 text) (codes "commit ")
    then number_at 18446744073709551615 (drop 7 text) else None

-- How many octets had been synced, by the line of a commit without its end.
unfoldable pub line_synced : List ℕ → Option ℕ
line_synced line = line_text line >>= commit_synced

-- Whether a whole line among these parts is that of a commit which says that more than so many
-- octets had been synced. The last part isn't a line, since no line end follows it.
abbrev pub has_commit_beyond : ℕ → List (List ℕ) → Bool
has_commit_beyond octets [] = false
has_commit_beyond octets (part ∷ []) = false
has_commit_beyond octets (line ∷ next ∷ parts) =
    is_above octets (line_synced line) || has_commit_beyond octets (next ∷ parts)

-- A commit says that at most so many octets had been synced.
abbrev pub HasSyncedAtMost : ℕ → Entry → Type 0
HasSyncedAtMost octets (Begin replica) = Unit {0}
HasSyncedAtMost octets (Apply op) = Unit {0}
HasSyncedAtMost octets (Commit synced) = synced ≤ octets
