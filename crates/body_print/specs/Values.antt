-- Values as IMAP prints them in answers: NIL, strings, numbers and lists (RFC 3501, section 4; RFC
-- 9051, section 4).

use Rattle.std.specs.Prelude.{ℕ, Bool, not, ◌&&◌, ◌||◌, ◌==◌, List, [], ◌∷◌, ◌++◌, codes, length}
use Rattle.std.specs.Prelude.{nat_lt, if◌then◌else◌}
use Rattle.std.specs.Fmt.{decimal}
use Rattle.std.specs.List.{list_all}

mutual
  -- A value: NIL, a string, or a list with its first item and the further ones.
  pub data Value : Type 0 where
    NilValue : Value
    TextValue : List ℕ → Value
    ListValue : Joined → Spaced → Value

  -- An item of a list: values, one right after another, as addresses and bodies are.
  pub data Joined : Type 0 where
    NoJoined : Joined
    JoinedFrom : Value → Joined → Joined

  -- Further items of a list, each after a blank: values, or a number.
  pub data Spaced : Type 0 where
    NoSpaced : Spaced
    JoinedNext : Joined → Spaced → Spaced
    NumberNext : ℕ → Spaced → Spaced

-- An item that is one value; and a further item that is one.
abbrev pub one : Value → Joined
one value = JoinedFrom value NoJoined

abbrev pub next : Value → Spaced → Spaced
next value spaced = JoinedNext (one value) spaced

-- Whether an octet may be between quotes: US-ASCII without NUL, CR and LF (RFC 3501, section 9,
-- TEXT-CHAR).
abbrev pub is_quotable : ℕ → Bool
is_quotable octet =
    nat_lt octet 128 && not ((octet == 0) || ((octet == 13) || (octet == 10)))

-- Octets between quotes; `"` (34) and `\` (92) follow a `\`.
abbrev pub escaped : List ℕ → List ℕ
escaped [] = []
escaped (octet ∷ octets) =
    if (octet == 34) || (octet == 92) then 92 ∷ octet ∷ escaped octets
    else octet ∷ escaped octets

-- A string: between quotes if all its octets may be there, else a literal with its length (RFC
-- 3501, section 4.3).
abbrev pub quoted : List ℕ → List ℕ
quoted octets = codes "\"" ++ (escaped octets ++ codes "\"")

abbrev pub literal : List ℕ → List ℕ
literal octets = codes "{" ++ (decimal (length octets) ++ (codes "}\r\n" ++ octets))

abbrev pub string_text : List ℕ → List ℕ
string_text octets = if list_all is_quotable octets then quoted octets else literal octets

-- The text of a value.
abbrev mutual
  pub text_of : Value → List ℕ
  text_of NilValue = codes "NIL"
  text_of (TextValue octets) = string_text octets
  text_of (ListValue joined spaced) =
      codes "(" ++ (joined_text joined ++ (spaced_text spaced ++ codes ")"))

  pub joined_text : Joined → List ℕ
  joined_text NoJoined = []
  joined_text (JoinedFrom value joined) = text_of value ++ joined_text joined

  pub spaced_text : Spaced → List ℕ
  spaced_text NoSpaced = []
  spaced_text (JoinedNext joined spaced) =
      codes " " ++ (joined_text joined ++ spaced_text spaced)
  spaced_text (NumberNext number spaced) =
      codes " " ++ (decimal number ++ spaced_text spaced)
