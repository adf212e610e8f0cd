use Rattle.std.proofs.Common.{drop}
use Rattle.replica_lock.specs.Passes.{HaveOutcomes}
use Rattle.replica_lock.proofs.counted_book.first_mismatch.Given as goal

abbrev pub invariant-loop-pass : goal.invariant-loop-pass
invariant-loop-pass g l = HaveOutcomes l.book (drop l.pass-index l.passes) → HaveOutcomes l.book l.passes
