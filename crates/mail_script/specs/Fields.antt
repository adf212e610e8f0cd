-- The fields of script lines: ranges of their numbers, and names of sessions.

use Rattle.std.specs.Prelude.{ℕ, ◌<◌, ◌≤◌, Bool, ◌&&◌, nat_lt, nat_le, List, length}
use Rattle.std.specs.List.{list_all}
use Rattle.std.specs.Char.{is_ascii_alphanumeric}
pub use Rattle.text_fields.specs.Fields.{IsId, IsNumber, IsReplica, id_text}

-- A moment in seconds, up to the end of the year 9999.
abbrev pub IsMoment : ℕ → Type 0
IsMoment seconds = seconds ≤ 253402300799

-- The first UID that a replica may assign (RFC 9051, section 2.3.1.1).
abbrev pub IsFirstUid : ℕ → Type 0
IsFirstUid uid = (0 < uid) × (uid ≤ 4294967295)

-- The k of the first incarnation that begins at a replica; the last value leaves no incarnation to
-- begin.
abbrev pub IsFirstK : ℕ → Type 0
IsFirstK k = (0 < k) × (k ≤ 65536)

-- Whether a session may have this name: 1 to 16 ASCII letters or digits.
abbrev pub is_session_name : List ℕ → Bool
is_session_name name =
    (nat_lt 0 (length name) && nat_le (length name) 16) && list_all is_ascii_alphanumeric name
