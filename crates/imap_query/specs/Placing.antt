-- The entries of LIST as the code computes them, one by one; proofs/PlacingLemmas and
-- proofs/ListingLemmas tie them to ListEntries.

use Rattle.std.specs.Prelude.{ℕ, Bool, true, false, ◌==◌, List, [], ◌∷◌, ◌++◌, if◌then◌else◌}
use Rattle.std.specs.declared.cmp.Ordering.{Ordering}
use Rattle.std.specs.declared.cmp.Ordering.TheVariants.{Less, Equal, Greater}
use Rattle.imap_types.specs.Ascending.{octet_order}
use Rattle.imap_types.specs.Names.{fold_inbox}
use Rattle.imap_query.specs.Patterns.{is_among}
use Rattle.imap_query.specs.PatternRows.{is_shown}
use Rattle.imap_query.specs.declared.list_entries.ListEntry.{ListEntry}

-- An entry inserted before another, left out as equal, or inserted after it.
abbrev pub insert_by : Ordering → ListEntry → ListEntry → List ListEntry → List ListEntry
    → List ListEntry
insert_by Less entry other others tail = entry ∷ other ∷ others
insert_by Equal entry other others tail = other ∷ others
insert_by Greater entry other others tail = other ∷ tail

-- The entries with one inserted by name, unless one with its name exists.
abbrev pub insert_entry : ListEntry → List ListEntry → List ListEntry
insert_entry entry [] = entry ∷ []
insert_entry entry (other ∷ others) =
    insert_by (octet_order entry.name other.name) entry other others (insert_entry entry others)

-- The entries with others inserted, one after another.
abbrev pub insert_all : List ListEntry → List ListEntry → List ListEntry
insert_all [] entries = entries
insert_all (entry ∷ more) entries = insert_all more (insert_entry entry entries)

-- The entries of the mailboxes that a pattern matches.
abbrev pub shown_mailboxes : List ℕ → List (List ℕ) → List ListEntry
shown_mailboxes pattern [] = []
shown_mailboxes pattern (folder ∷ folders) =
    if is_shown pattern folder
    then (record { name = folder; is_mailbox = true }) ∷ shown_mailboxes pattern folders
    else shown_mailboxes pattern folders

-- The entry of a superior level, if a pattern matches it and it is no folder.
abbrev pub shown_level : List ℕ → List (List ℕ) → List ℕ → List ListEntry
shown_level pattern folders superior =
    if is_among folders (fold_inbox superior) then []
    else (if is_shown pattern (fold_inbox superior)
    then (record { name = fold_inbox superior; is_mailbox = false }) ∷ []
    else [])

-- The entries of these superior levels, as far as they match and are no folders.
abbrev pub shown_among : List ℕ → List (List ℕ) → List (List ℕ) → List ListEntry
shown_among pattern folders [] = []
shown_among pattern folders (superior ∷ uppers) =
    shown_level pattern folders superior ++ shown_among pattern folders uppers

-- The superior levels of a name that end in its rest, after the prefix already read.
abbrev pub levels_from : List ℕ → List ℕ → List (List ℕ)
levels_from front [] = []
levels_from front (octet ∷ rest) =
    if octet == 47 then front ∷ levels_from (front ++ octet ∷ []) rest
    else levels_from (front ++ octet ∷ []) rest

-- The entries of the superior levels of some folders.
abbrev pub shown_levels : List ℕ → List (List ℕ) → List (List ℕ) → List ListEntry
shown_levels pattern folders [] = []
shown_levels pattern folders (folder ∷ some) =
    shown_among pattern folders (levels_from [] folder) ++ shown_levels pattern folders some

-- Whether a pattern ends in `%` (37).
abbrev pub ends_in_percent : List ℕ → Bool
ends_in_percent [] = false
ends_in_percent (octet ∷ []) = octet == 37
ends_in_percent (octet ∷ next ∷ rest) = ends_in_percent (next ∷ rest)

-- The entries of superior levels, if the pattern ends in `%`.
abbrev pub matched_levels : List ℕ → List (List ℕ) → List ListEntry
matched_levels pattern folders =
    if ends_in_percent pattern then shown_levels pattern folders folders else []

-- The entries that a pattern lists, in the order in which the code finds them.
abbrev pub matched_entries : List ℕ → List (List ℕ) → List ListEntry
matched_entries pattern folders = shown_mailboxes pattern folders ++ matched_levels pattern folders
