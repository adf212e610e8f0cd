use Rattle.std.proofs.Common.{◌≡◌, [], drop}
use Rattle.std.specs.Prelude.{reverse}
use Rattle.mailbox_rows.specs.RowViews.{listed_message}
use Rattle.imap_query.specs.Tests.{test_holds}
use Rattle.imap_query.specs.Runs.{run}
use Rattle.imap_query.proofs.keys.hits.Given as goal

abbrev pub invariant-loop-step : goal.invariant-loop-step
invariant-loop-step l = run (test_holds l.last l.shown (listed_message l.row)) (drop l.step-index l.steps) (reverse l.results.items) ≡ run (test_holds l.last l.shown (listed_message l.row)) l.steps []
