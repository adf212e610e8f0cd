use Rattle.std.proofs.Common.{◌≡◌}
use Rattle.session_view.specs.Views.{has_uid}
use Rattle.imap_cases.proofs.queries.views.differences.has_uid.Given as goal

abbrev pub invariant-loop-entry : goal.invariant-loop-entry
invariant-loop-entry l = has_uid l.entry-iterator l.uid ≡ has_uid l.view.items l.uid
