-- The sessions whose transcripts are audited.

use Rattle.std.specs.Prelude.{ℕ, ◌+◌, List, [], ◌∷◌, if◌then◌else◌}
use Rattle.std.specs.Str.{bytes_eq}
use Rattle.std.specs.Global.{Vec}
use Rattle.mail_audit.specs.KnownSessions.{SessionKnowledge, nothing_known}

-- A session's name, and the knowledge of the session.
pub record Session : Type 0 where
  pub name : List ℕ
  pub transcript : SessionKnowledge

-- The sessions stored by their names.
abbrev pub sessions_of : List (Vec ℕ × SessionKnowledge) → List Session
sessions_of [] = []
sessions_of (pair ∷ rest) = record { name = pair.0.items; transcript = pair.1 } ∷ sessions_of rest

-- The knowledge of the session with this name.
abbrev pub known_for : List ℕ → List Session → SessionKnowledge
known_for name [] = nothing_known
known_for name (session ∷ sessions) =
    if bytes_eq name session.name then session.transcript else known_for name sessions

-- The place of the first session with this name, or the number of sessions.
abbrev pub place_or_end : List ℕ → List Session → ℕ
place_or_end name [] = 0
place_or_end name (session ∷ sessions) =
    if bytes_eq name session.name then 0 else 1 + place_or_end name sessions
