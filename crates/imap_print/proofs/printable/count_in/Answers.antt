use Rattle.std.proofs.Common.{arith}
use Rattle.imap_print.proofs.CountLemmas.{count_through_next_run}
use Rattle.imap_print.proofs.printable.count_in.Goals as goal

pub loop-run-preserved : goal.loop-run-preserved
loop-run-preserved c =
    omega (arith, c.saturating_add-count.ensures, c.size.ensures, c.loop-run.invariant, count_through_next_run c.args.runs.now c.loop-run.run-index (record { first = 0; last = 0 }) c.loop-run-test.true)
