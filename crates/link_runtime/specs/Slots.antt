-- The connections of a process, as their lock keeps them.

use Rattle.std.specs.Prelude.{◌≡◌, ◌≢◌, ◌≤◌, ◌⊎◌, ℕ, Bool, true, false, nat_le, not, List, [], ◌∷◌, ◌++◌}
use Rattle.std.specs.Prelude.{drop, length, if◌then◌else◌, set}
use Rattle.merge_laws.specs.Orders.{IsIn}
use Rattle.link_wire.specs.declared.wire_message.ByeReason.{ByeReason}
use Rattle.link_wire.specs.declared.wire_message.ByeReason.TheVariants.{Busy as BusyName, Memory}
use Rattle.link_runtime.specs.declared.connection.LinkConnection.{LinkConnection}
use Rattle.link_runtime.specs.declared.link_slots.RefusedPeer.{RefusedPeer}
use Rattle.link_runtime.specs.declared.link_table.Admission.TheVariants.{Added, Busy, Replaces}
use Rattle.link_runtime.specs.declared.link_table.LinkEntry.{LinkEntry}
use Rattle.link_runtime.specs.LinkTables.{AreNamesApart, IsAdmission, IsUnlinked}

-- A connection's number.
abbrev pub number_of : LinkConnection → ℕ
number_of connection = connection.number

-- Whether the links are to end, the links, the numbers of the accepted connections whose peers
-- haven't proved themselves, the oldest first, and the peers that aren't linked any more.
pub record SlotsState : Type 0 where
  pub stopped : Bool
  pub links : List LinkEntry
  pub unproved : List ℕ
  pub refused : List RefusedPeer

-- There are at most 64 links, no two with one name, and at most 16 connections whose peers haven't
-- proved themselves.
pub record AreWithinLimits (state : SlotsState) : Type 0 where
  pub names : AreNamesApart state.links
  pub links : length state.links ≤ 64
  pub unproved : length state.unproved ≤ 16

-- Nothing yet.
abbrev pub no_slots : SlotsState
no_slots = record { stopped = false; links = []; unproved = []; refused = [] }

-- The links are to end.
abbrev pub stopped_slots : SlotsState → SlotsState
stopped_slots state = record state { stopped = true }

-- The peer isn't linked any more, for this reason.
abbrev pub refused_slots : SlotsState → ℕ → ByeReason → SlotsState
refused_slots state peer reason =
    record state { refused = state.refused ++ record { name = peer; reason = reason } ∷ [] }

-- The links aren't to end.
abbrev pub IsOpen : SlotsState → Type 0
IsOpen state = state.stopped ≡ false

-- The connections without the oldest, if there are as many as there may be.
abbrev pub without_oldest : {X : Type 0} → List X → List X
without_oldest unproved = if nat_le 16 (length unproved) then drop 1 unproved else unproved

-- A connection was added after the others, or not; the oldest made place for it.
abbrev pub unproved_after : List ℕ → ℕ → Bool → List ℕ
unproved_after old number added =
    if added then without_oldest old ++ number ∷ [] else without_oldest old

-- The connection with this number was taken out, if there was one.
abbrev pub IsTakenOut : {X : Type 0} → (X → ℕ) → ℕ → List X → List X → Type 0
IsTakenOut {X} numbered number old new =
    ((new ≡ old) × ((x : X) → IsIn x old → numbered x ≢ number))
    ⊎ ((x : X) × (front back : List X)
    × (old ≡ front ++ x ∷ back)
    × (numbered x ≡ number)
    × (new ≡ front ++ back))

-- The peer isn't among those that aren't linked any more.
abbrev pub IsUnrefused : ℕ → List RefusedPeer → Type 0
IsUnrefused peer refused = (it : RefusedPeer) → IsIn it refused → it.name ≢ peer

-- The peer is among them, for this reason.
abbrev pub IsRefusedFor : ℕ → List RefusedPeer → ByeReason → Type 0
IsRefusedFor peer refused reason =
    (it : RefusedPeer) × IsIn it refused × (it.name ≡ peer) × (it.reason ≡ reason)

-- A connection became a link, as the table of links says.
abbrev pub IsAdmitted : List LinkEntry → LinkEntry → List LinkEntry → Type 0
IsAdmitted old entry new =
    (IsAdmission old entry Added × (new ≡ old ++ entry ∷ []))
    ⊎ ((at : ℕ) × IsAdmission old entry (Replaces at) × (new ≡ set old at entry))

-- Why a connection didn't become a link: the links are to end, or the table of links says so; or
-- its peer isn't linked any more, for this reason; or memory ran out.
abbrev pub IsNotAdmitted : SlotsState → LinkEntry → ByeReason → Type 0
IsNotAdmitted state entry reason =
    ((reason ≡ BusyName) × ((state.stopped ≡ true) ⊎ IsAdmission state.links entry Busy))
    ⊎ (IsRefusedFor entry.peer state.refused reason ⊎ (reason ≡ Memory))
