use Rattle.std.proofs.Common.{◌≢◌, ◌<◌, ℕ, get_or}
use Rattle.mail_bench.specs.Workloads.{word_of}
use Rattle.mail_bench.specs.declared.workload.Workload.TheVariants.{Noop}
use Rattle.mail_bench.proofs.WorkloadLemmas.{all}
use Rattle.mail_bench.proofs.workload.Workload.from_word.Given as goal

abbrev pub invariant-loop-place : goal.invariant-loop-place
invariant-loop-place l = (k : ℕ) → k < l.place → word_of (get_or all k Noop) ≢ l.word
