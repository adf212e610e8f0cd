use Rattle.std.proofs.Common.{◌≤◌, arith}
use Rattle.std.proofs.lemmas.Bool.{false≢true}
use Rattle.uid_projection.specs.TagChanges.{is_added}
use Rattle.uid_projection.proofs.IdLemmas.{at_no_key}
use Rattle.uid_projection.proofs.presence_ahead.has_added_message.Goals as goal

pub returns-clause-no : goal.returns-clause-no
returns-clause-no c = λ _ i t.
    at_no_key is_added c.args.changes.now.entries (λ h. false≢true h) (λ place. let none : c.loop-at.at ≤ place = omega arith in c.loop-at.invariant place none) i t
