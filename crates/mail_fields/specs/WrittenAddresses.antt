-- Addresses as they are written (RFC 5322, section 3.4).

use Rattle.std.specs.Prelude.{◌≡◌, ℕ, Bool, true, false, not, ◌&&◌, ◌==◌, List, [], ◌∷◌, ◌++◌}
use Rattle.std.specs.Prelude.{codes, length, nat_lt, if◌then◌else◌}
use Rattle.std.specs.List.{list_all, list_any}
use Rattle.mail_fields.specs.HeaderValues.{is_line_end}
use Rattle.mail_fields.specs.Written.{escaped}
use Rattle.mail_fields.specs.declared.mailboxes.Mailbox.{Mailbox}

-- An octet of a dot-atom: printable US-ASCII, neither a space nor one of the specials but the dot
-- (RFC 5322, section 3.2.3).
abbrev pub specials : List ℕ
specials = codes "()<>[]:;@\\,\""

abbrev pub is_dot_atom_octet : ℕ → Bool
is_dot_atom_octet octet =
    nat_lt 32 octet && nat_lt octet 127 && not (list_any (λ special. special == octet) specials)

pub record IsDotAtom (text : List ℕ) : Type 0 where
  pub octets : list_all is_dot_atom_octet text ≡ true
  pub some : (length text == 0) ≡ false

-- A mailbox that can be written: its name has no line ends, its local part and its domain are
-- dot-atoms, it has no route.
pub record IsCanonical (mailbox : Mailbox) : Type 0 where
  pub name : list_any is_line_end mailbox.name ≡ false
  pub route : mailbox.route ≡ []
  pub local_part : IsDotAtom mailbox.local_part
  pub host : IsDotAtom mailbox.host

abbrev pub AreCanonical : List Mailbox → Type 0
AreCanonical [] = Unit {0}
AreCanonical (mailbox ∷ mailboxes) = IsCanonical mailbox × AreCanonical mailboxes

-- A mailbox: its name in quotes, if it has one, and its address in angle brackets.
abbrev pub written_angle : Mailbox → List ℕ → List ℕ
written_angle mailbox rest =
    codes "<" ++ (mailbox.local_part ++ (codes "@" ++ (mailbox.host ++ (codes ">" ++ rest))))

abbrev pub written_mailbox : Mailbox → List ℕ → List ℕ
written_mailbox mailbox rest =
    if length mailbox.name == 0 then written_angle mailbox rest
    else codes "\"" ++ (escaped mailbox.name ++ (codes "\" " ++ written_angle mailbox rest))

-- Further mailboxes, each after a comma.
abbrev pub written_more : List Mailbox → List ℕ → List ℕ
written_more [] rest = rest
written_more (mailbox ∷ mailboxes) rest =
    codes ", " ++ written_mailbox mailbox (written_more mailboxes rest)

-- The value of a field with mailboxes, up to the line's end.
abbrev pub written_list : Mailbox → List Mailbox → List ℕ
written_list mailbox mailboxes =
    codes " " ++ written_mailbox mailbox (written_more mailboxes (codes "\r\n"))
