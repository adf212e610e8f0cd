use Rattle.uid_projection.proofs.ExhaustionLemmas.{has_version_of_test}
use Rattle.uid_projection.proofs.chart.has_version.Goals as goal

pub returns : goal.returns
returns c = λ list m. has_version_of_test c.args.folder.now list c.args.origin.now c.has_version.result (c.has_version.ensures.set list m)
