-- The flags of a message in printing order, and those that it may have (RFC 9051, section 2.3.2).

use Rattle.std.specs.Prelude.{ℕ, ◌≤◌, Bool, List, [], ◌∷◌, ◌++◌, length, codes, IsTrue}
use Rattle.std.specs.Prelude.{if◌then◌else◌}
use Rattle.std.specs.List.{list_all}
use Rattle.imap_types.specs.declared.flags.Flags.{Flags}
use Rattle.imap_types.specs.Keywords.{is_lawful_keyword}

-- The text if the flag is set, else nothing.
abbrev pub text_if_set : Bool → List ℕ → List (List ℕ)
text_if_set is_set text = if is_set then text ∷ [] else []

-- The flags in printing order: the system flags, then the keywords by octets (RFC 9051, section
-- 2.3.2).
abbrev pub flag_texts : Flags → List (List ℕ)
flag_texts flags =
    text_if_set flags.answered (codes "\\Answered")
    ++ text_if_set flags.flagged (codes "\\Flagged")
    ++ text_if_set flags.deleted (codes "\\Deleted")
    ++ text_if_set flags.seen (codes "\\Seen")
    ++ text_if_set flags.draft (codes "\\Draft")
    ++ flags.keywords

-- Flags that a message may have: at most 32 keywords, each of 1 to 64 atom octets (these bounds are
-- the project's own).
abbrev pub IsLawfulFlags : Flags → Type 0
IsLawfulFlags flags =
    (length flags.keywords ≤ 32) × IsTrue (list_all is_lawful_keyword flags.keywords)
