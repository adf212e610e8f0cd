use Rattle.std.proofs.Common.{◌≡◌}
use Rattle.server_runtime.specs.Places.{all_but}
use Rattle.server_runtime.proofs.replica_handle.others.Given as goal

abbrev pub invariant-loop-place : goal.invariant-loop-place
invariant-loop-place l = l.others.items ≡ all_but l.own l.place
