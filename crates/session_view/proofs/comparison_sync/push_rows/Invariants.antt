use Rattle.std.proofs.Common.{◌≡◌, ◌++◌, ◌+◌, ◌-◌, drop, take}
use Rattle.session_view.specs.Views.{entries_of}
use Rattle.session_view.proofs.comparison_sync.push_rows.Given as goal

abbrev pub invariant-loop-step : goal.invariant-loop-step
invariant-loop-step g l = g.L.MessageList.entries l.entries ++ entries_of (take (l.count - l.step) (drop (l.start + l.step) l.rows)) ≡ g.L.MessageList.entries l.fn.entries ++ entries_of (take l.count (drop l.start l.rows))
