-- How RENAME by a second session ends.

use Rattle.std.specs.Prelude.{◌≡◌, ℕ, List, Result, Ok}
use Rattle.imap_connection.specs.declared.fault.PortFault.{PortFault}
use Rattle.replica_lock.specs.Passes.{PassState}
use Rattle.rev1_connection.specs.declared.rename_port.RenameEnd.{RenameEnd}
use Rattle.rev1_connection.specs.declared.rename_port.RenameEnd.TheVariants.{Renamed}
use Rattle.rev1_rename.specs.Exchanges.{Exchange}
use Rattle.rev1_rename.specs.Turns.{AreTurns, IsBegun, IsWhole}
use Rattle.rev1_rename.specs.declared.work.RenameWork.{RenameWork}

-- If the mailboxes have their new names, some pass carried out the whole of this RENAME in turns at
-- the lock.
abbrev pub TakesTurns : RenameWork → Result RenameEnd PortFault → Type 0
TakesTurns old (Ok Renamed) =
    (p q : PassState)
    × (turns : List (List Exchange))
    × (new : RenameWork)
    × AreTurns old p turns new q
    × IsWhole new
TakesTurns old _ = Unit {0}

-- If the mailboxes have their new names, some pass carried out a RENAME from this name to this one.
abbrev pub RenamesInTurns : List ℕ → List ℕ → Result RenameEnd PortFault → Type 0
RenamesInTurns from to (Ok Renamed) =
    (work : RenameWork) × IsBegun from to work × TakesTurns work (Ok Renamed)
RenamesInTurns from to _ = Unit {0}
