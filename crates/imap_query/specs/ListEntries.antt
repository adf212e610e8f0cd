-- The names that LIST shows (RFC 9051, section 6.3.9).

use Rattle.std.specs.Prelude.{◌≡◌, ℕ, true, false, ◌⊎◌, ◌↔◌, List, [], ◌∷◌, ◌++◌, map}
use Rattle.imap_types.specs.Ascending.{AreAscending}
use Rattle.imap_types.specs.Names.{fold_inbox}
use Rattle.imap_query.specs.Patterns.{IsIn, IsNameMatch}
use Rattle.imap_query.specs.declared.list_entries.ListEntry.{ListEntry}

-- A name is a superior level of another: the part before one of its separators `/` (47) (RFC 9051,
-- section 5.1.1).
abbrev pub IsSuperior : List ℕ → List ℕ → Type 0
IsSuperior superior name = (rest : List ℕ) × (name ≡ superior ++ 47 ∷ rest)

-- A name is a superior level of one of the folders; a level that spells INBOX in any letter case is
-- INBOX.
abbrev pub IsSuperiorLevel : List (List ℕ) → List ℕ → Type 0
IsSuperiorLevel folders name =
    (superior : List ℕ)
    × (folder : List ℕ)
    × IsIn folder folders
    × IsSuperior superior folder
    × (name ≡ fold_inbox superior)

-- A pattern ends in `%` (37).
abbrev pub EndsInPercent : List ℕ → Type 0
EndsInPercent pattern = (front : List ℕ) × (pattern ≡ front ++ 37 ∷ [])

-- An entry that a pattern lists: its name matches, and it is one of the folders or, if the pattern
-- ends in `%`, a superior level of theirs that is no folder (RFC 9051, section 6.3.9).
abbrev pub IsListEntry : List (List ℕ) → List ℕ → ListEntry → Type 0
IsListEntry folders pattern entry =
    IsNameMatch pattern entry.name
    × (((entry.is_mailbox ≡ true) × IsIn entry.name folders)
    ⊎ ((entry.is_mailbox ≡ false) × EndsInPercent pattern × IsSuperiorLevel folders entry.name
    × (¬ IsIn entry.name folders)))

-- The names of entries.
abbrev pub names_of : List ListEntry → List (List ℕ)
names_of entries = map (λ (entry : ListEntry). entry.name) entries

-- The entries that a pattern lists, distinct and in ascending order of their names.
pub record AreListEntries (folders : List (List ℕ)) (pattern : List ℕ) (entries : List ListEntry) :
    Type 0 where
  pub ascending : AreAscending (names_of entries)
  pub exactly : (entry : ListEntry) → IsIn entry entries ↔ IsListEntry folders pattern entry

-- The entries that LIST shows: for an empty pattern only the empty name, which is no mailbox;
-- otherwise those that reference and pattern, joined, list (RFC 9051, section 6.3.9).
abbrev pub AreShown : List ℕ → List ℕ → List (List ℕ) → List ListEntry → Type 0
AreShown reference [] folders entries = entries ≡ (record { name = []; is_mailbox = false }) ∷ []
AreShown reference (octet ∷ pattern) folders entries =
    AreListEntries folders (reference ++ octet ∷ pattern) entries
