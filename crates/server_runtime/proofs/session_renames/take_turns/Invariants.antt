use Rattle.std.proofs.Common.{List}
use Rattle.rev1_rename.specs.Exchanges.{Exchange}
use Rattle.rev1_rename.specs.Turns.{AreTurns}
use Rattle.server_runtime.proofs.session_renames.take_turns.Given as goal

abbrev pub invariant-loop : goal.invariant-loop
invariant-loop g l = (turns : List (List Exchange)) × AreTurns l.initial.work l.initial.pass turns l.work l.pass
