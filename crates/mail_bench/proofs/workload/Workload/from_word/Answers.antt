use Rattle.std.proofs.Common.{◌<◌, arith}
use Rattle.mail_bench.proofs.WorkloadLemmas.{none_named}
use Rattle.mail_bench.proofs.workload.Workload.from_word.Goals as goal

pub returns-clause-none : goal.returns-clause-none
returns-clause-none c = none_named c.args.word.now (λ k h. let at : k < c.loop-place.place = omega arith in c.loop-place.invariant k at)
