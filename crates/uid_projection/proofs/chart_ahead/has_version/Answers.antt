use Rattle.uid_projection.specs.FolderAhead.{folder_of}
use Rattle.uid_projection.proofs.AheadLemmas.{has_version_is}
use Rattle.uid_projection.proofs.chart_ahead.has_version.Goals as goal

pub returns : goal.returns
returns c = λ list k h m. has_version_is k list (folder_of c.args.ahead.now) c.args.origin.now c.has_version.result m (c.has_version.ensures k h)
