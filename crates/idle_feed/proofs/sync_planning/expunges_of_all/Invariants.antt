use Rattle.std.proofs.Common.{◌≡◌, ◌+◌, List, [], drop, length}
use Rattle.session_view.specs.Sync.{expunges}
use Rattle.session_view.specs.declared.view_entry.ViewEntry.{ViewEntry}
use Rattle.idle_feed.proofs.sync_planning.expunges_of_all.Given as goal

abbrev pub invariant-loop-place : goal.invariant-loop-place
invariant-loop-place l =
    (view : List ViewEntry) → length view ≡ l.count → l.answers.items ≡ expunges [] (l.place + 1) (drop l.place view)
