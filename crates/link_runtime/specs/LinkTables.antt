-- Which connections are links: at most one with each name.

use Rattle.std.specs.Prelude.{◌≡◌, ◌≢◌, ◌<◌, ◌≤◌, ◌⊎◌, ℕ, List, [], ◌∷◌, length, Some, slice_get}
use Rattle.merge_laws.specs.Orders.{IsIn}
use Rattle.link_wire.specs.declared.hello.Hello.{Hello}
use Rattle.link_wire.specs.declared.secret.Side.{Side}
use Rattle.link_wire.specs.declared.secret.Side.TheVariants.{Acceptor, Dialer}
use Rattle.link_runtime.specs.declared.link_table.Admission.{Admission}
use Rattle.link_runtime.specs.declared.link_table.Admission.TheVariants.{Added, Busy, Replaces}
use Rattle.link_runtime.specs.declared.link_table.LinkEntry.{LinkEntry}

-- The name of the end that opened a connection, at the side of this end.
abbrev pub dialer_of : Hello → ℕ → Side → ℕ
dialer_of hello own Dialer = own
dialer_of hello own Acceptor = hello.own

-- The connection with this number to a peer that said this of itself, at the side of this end.
abbrev pub entry_of : ℕ → Hello → ℕ → Side → LinkEntry
entry_of number hello own side = record {
  number = number;
  peer = hello.own;
  run = hello.run;
  dialer = dialer_of hello own side;
}

-- No link has this name.
abbrev pub IsUnlinked : ℕ → List LinkEntry → Type 0
IsUnlinked peer entries = (entry : LinkEntry) → IsIn entry entries → entry.peer ≢ peer

-- No two links have one name.
abbrev pub AreNamesApart : List LinkEntry → Type 0
AreNamesApart [] = Unit {0}
AreNamesApart (entry ∷ entries) = IsUnlinked entry.peer entries × AreNamesApart entries

-- The link at a place has this name.
pub record IsLinkedAt (peer : ℕ) (entries : List LinkEntry) (at : ℕ) (entry : LinkEntry) :
    Type 0 where
  pub within : at < length entries
  pub found : slice_get entries at ≡ Some entry
  pub named : entry.peer ≡ peer

-- A link gives way to a connection with the same process that the same name opened, or a lesser
-- one.
abbrev pub GivesWay : LinkEntry → LinkEntry → Type 0
GivesWay old new = (old.run ≡ new.run) × (new.dialer ≤ old.dialer)

-- Whether a connection becomes a link.
abbrev pub IsAdmission : List LinkEntry → LinkEntry → Admission → Type 0
IsAdmission entries new Added = IsUnlinked new.peer entries × (length entries < 64)
IsAdmission entries new (Replaces at) =
    (old : LinkEntry) × IsLinkedAt new.peer entries at old × GivesWay old new
IsAdmission entries new Busy =
    (IsUnlinked new.peer entries × (64 ≤ length entries))
    ⊎ ((at : ℕ) × (old : LinkEntry) × IsLinkedAt new.peer entries at old × (¬ GivesWay old new))
