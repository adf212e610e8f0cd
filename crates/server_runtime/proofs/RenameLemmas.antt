-- RENAME by a second session.
use Rattle.std.proofs.Common.{◌≡◌, ℕ, List, refl}
use Rattle.std.specs.Prelude.{IfOk, Result, Ok, Err}
use Rattle.imap_connection.specs.declared.fault.PortFault.{PortFault}
use Rattle.replica_lock.specs.Passes.{PassState}
use Rattle.rev1_connection.specs.declared.rename_port.RenameEnd.{RenameEnd}
use Rattle.rev1_connection.specs.declared.rename_port.RenameEnd.TheVariants.{NoSecondSession, Refused, Renamed}
use Rattle.rev1_rename.specs.Exchanges.{Exchange}
use Rattle.rev1_rename.specs.Turns.{AreTurns, IsBegun, IsWhole}
use Rattle.rev1_rename.specs.declared.work.RenameWork.{RenameWork}
use Rattle.server_runtime.specs.Renames.{RenamesInTurns, TakesTurns}

pub takes_turns : (old new : RenameWork) (p q : PassState) (turns : List (List Exchange)) (result : Result RenameEnd PortFault) → AreTurns old p turns new q → IfOk result (λ end. end ≡ Renamed → IsWhole new) → TakesTurns old result
takes_turns old new p q turns (Ok Renamed) t w = (p, q, turns, new, t, w refl)
takes_turns old new p q turns (Ok (Refused why)) t w = tt
takes_turns old new p q turns (Ok NoSecondSession) t w = tt
takes_turns old new p q turns (Err fault) t w = tt

pub renames_in_turns : (from to : List ℕ) (work : RenameWork) (result : Result RenameEnd PortFault) → IsBegun from to work → TakesTurns work result → RenamesInTurns from to result
renames_in_turns from to work (Ok Renamed) b t = (work, b, t)
renames_in_turns from to work (Ok (Refused why)) b t = tt
renames_in_turns from to work (Ok NoSecondSession) b t = tt
renames_in_turns from to work (Err fault) b t = tt
