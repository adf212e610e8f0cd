-- Mailbox names: INBOX, and the names that a mailbox may have (RFC 9051, section 5.1).

use Rattle.std.specs.Prelude.{◌≡◌, ℕ, ◌<◌, ◌≤◌, Bool, not, ◌&&◌, ◌==◌, nat_lt, List, length, map}
use Rattle.std.specs.Prelude.{codes, IsTrue, if◌then◌else◌}
use Rattle.std.specs.List.{list_all, slice_split}
use Rattle.std.specs.Char.{to_ascii_lowercase}
use Rattle.std.specs.Str.{IsUtf8, bytes_eq}

-- The name of the mailbox that every user has (RFC 9051, section 5.1).
abbrev pub inbox : List ℕ
inbox = codes "INBOX"

-- Whether a name is INBOX in any letter case (RFC 9051, section 5.1).
abbrev pub is_inbox : List ℕ → Bool
is_inbox name = bytes_eq (map to_ascii_lowercase name) (codes "inbox")

-- The name with INBOX of any case in capitals; any other name is unchanged (RFC 9051, section 5.1).
abbrev pub fold_inbox : List ℕ → List ℕ
fold_inbox name = if is_inbox name then inbox else name

-- An octet that a name may have: no control, and no wildcard `%` (37) or `*` (42) (RFC 9051,
-- section 5.1).
abbrev pub is_name_octet : ℕ → Bool
is_name_octet octet =
    not (nat_lt octet 32) && not (octet == 127) && not (octet == 37) && not (octet == 42)

-- The levels of a name, which separators `/` (47) divide (RFC 9051, section 5.1.1).
abbrev pub levels_of : List ℕ → List (List ℕ)
levels_of name = slice_split (λ octet. octet == 47) name

-- Whether a level isn't empty.
abbrev pub has_octets : List ℕ → Bool
has_octets level = not (length level == 0)

-- A name that a mailbox may have (RFC 9051, section 5.1; the bounds are the project's own).
pub record IsLawfulName (name : List ℕ) : Type 0 where
  pub not_empty : 0 < length name
  pub short : length name ≤ 255
  pub utf8 : IsUtf8 name
  pub octets : IsTrue (list_all is_name_octet name)
  pub levels : IsTrue (list_all has_octets (levels_of name))
  pub folded : fold_inbox name ≡ name
