use Rattle.std.proofs.Common.{◌≡◌, drop, []}
use Rattle.std.specs.List.{filter}
use Rattle.session_view.specs.Sync.{is_listed}
use Rattle.session_view.proofs.sync_plan.last_listed.Given as goal

abbrev pub invariant-loop-i : goal.invariant-loop-i
invariant-loop-i l = filter (is_listed l.rows) (drop l.i l.view.items) ≡ []
