use Rattle.std.proofs.Common.{None}
use Rattle.uid_projection.specs.TagChanges.{stored_of}
use Rattle.uid_projection.proofs.TagChangesLemmas.{listed_changed}
use Rattle.uid_projection.proofs.IdLemmas.{on_ok_with}
use Rattle.uid_projection.proofs.messages_ahead.MessagesAhead.take_one.Goals as goal

pub returns-clause-whole : goal.returns-clause-whole
returns-clause-whole c =
    on_ok_with c.note_change.result
    (λ is. listed_changed (stored_of c.args.self.now) c.args.id.now (record { flags = None; origin = c.args.id.now }) _ _ is _ _ c.list_stored_origin.ensures.grows (λ none. absurd (cc none)) (c.in_ok-list_stored_origin.ensures {u = tt}).touched)
    c.note_change.ensures.ok
