use Rattle.std.proofs.Common.{◌≤◌, drop, length}
use Rattle.session_view.specs.Walks.{IsWalk}
use Rattle.session_view.proofs.sync_plan.walk_view.Given as goal

abbrev pub invariant-loop-uid : goal.invariant-loop-uid
invariant-loop-uid l = record {
  few : length l.walk.gone.items ≤ l.walk.done;
  is_walk : IsWalk l.form.kind l.form.modseq l.rows l.view.items (drop l.uid-index l.uids) l.walk;
}
