use Rattle.std.proofs.Common.{◌++◌}
use Rattle.uid_projection.proofs.ExhaustionLemmas.{has_version_of_test}
use Rattle.uid_projection.proofs.exhaustion.has_version.Goals as goal

pub returns : goal.returns
returns c = λ list a m. has_version_of_test c.args.folder.now (list ++ c.args.front.now) c.args.origin.now c.has_version_after.result (c.has_version_after.ensures.set list m a.sound a.causal)
