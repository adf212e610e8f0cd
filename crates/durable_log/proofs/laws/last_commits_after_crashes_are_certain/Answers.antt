use Rattle.durable_log.proofs.CrashLemmas.{last_commit_certain}
use Rattle.durable_log.proofs.laws.last_commits_after_crashes_are_certain.Goals as goal

pub returns : goal.returns
returns c = last_commit_certain
