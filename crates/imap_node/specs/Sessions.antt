-- The sessions of a replica, by their numbers.

use Rattle.std.specs.Prelude.{◌≡◌, ◌≢◌, ℕ, ◌-◌, ◌<◌, ◌==◌, false, List, slice_index_or, slice_set}
use Rattle.std.specs.Prelude.{Option, Some, None, IsSome, IsNone, if◌then◌else◌}
use Rattle.std.specs.Option.{option_map}
use Rattle.imap_commands.specs.declared.session.Session.{Session}
use Rattle.imap_commands.specs.declared.session.State.TheVariants.{Authenticated, NotAuthenticated}
use Rattle.imap_node.specs.declared.sessions.Auth.{Auth}
use Rattle.imap_node.specs.declared.sessions.Auth.TheVariants.{Preauth, Password}

-- The places of a replica's sessions. The session with number n is at place n - 1, and a place may
-- be vacant. Numbers begin at 1.
abbrev pub Places : Type 0
Places = List (Option Session)

-- The session with this number, if it is open; none has the number 0.
abbrev pub session_at : Places → ℕ → Option Session
session_at places n = if n == 0 then None else slice_index_or places (n - 1) None

-- The session with this number is open.
abbrev pub IsOpen : Places → ℕ → Type 0
IsOpen places n = IsSome (session_at places n)

-- The places with one open session replaced, or closed.
abbrev pub with_session : Places → ℕ → Option Session → Places
with_session places n place = slice_set places (n - 1) place

-- The session without a selected mailbox, and the session without an IDLE.
abbrev pub unselected : Session → Session
unselected session = record session { state = Authenticated }

abbrev pub without_idle : Session → Session
without_idle session = record session { idling = None }

-- The places with one session changed.
abbrev pub with_changed : Places → ℕ → (Session → Session) → Places
with_changed places n change = with_session places n (option_map change (session_at places n))

-- Every session but this one stays as it was.
abbrev pub OthersStay : Places → ℕ → Places → Type 0
OthersStay old n new = (m : ℕ) → m ≢ n → session_at new m ≡ session_at old m

-- A new session: its user is known already, or must log in.
abbrev pub new_session : Auth → Session
new_session Preauth = record { state = Authenticated; condstore = false; idling = None }
new_session (Password credentials) =
    record { state = NotAuthenticated credentials; condstore = false; idling = None }

-- A session is opened with the least number that no open session has, and nothing else changes.
pub record OpensSession (old : Places) (auth : Auth) (n : ℕ) (new : Places) : Type 0 where
  pub positive : 0 < n
  pub vacant : IsNone (session_at old n)
  pub least : (m : ℕ) → 0 < m → m < n → IsOpen old m
  pub open_now : session_at new n ≡ Some (new_session auth)
  pub others : OthersStay old n new
