use Rattle.std.proofs.Common.{Some}
use Rattle.uid_projection.specs.TagChanges.{stored_of}
use Rattle.uid_projection.proofs.TagChangesLemmas.{listed_changed}
use Rattle.uid_projection.proofs.IdLemmas.{on_ok_with}
use Rattle.uid_projection.proofs.ListLemmas.{grows_twice}
use Rattle.uid_projection.proofs.messages_ahead.MessagesAhead.put.Goals as goal

pub returns-clause-grows : goal.returns-clause-grows
returns-clause-grows c = on_ok_with c.note_change.result (λ _. grows_twice _ c.list_stored_origin.new.versions.entries _ c.list_stored_origin.ensures.grows c.list_id.ensures.grows) c.note_change.ensures.ok

pub returns-clause-whole : goal.returns-clause-whole
returns-clause-whole c =
    on_ok_with c.note_change.result
    (λ is. listed_changed (stored_of c.args.self.now) c.args.id.now (record { flags = Some c.args.flags; origin = c.args.origin.now }) _ _ is _ _
    (grows_twice _ c.list_stored_origin.new.versions.entries _ c.list_stored_origin.ensures.grows c.list_id.ensures.grows)
    (λ _. (c.in_ok-list_id.ensures {u = tt}).listed)
    (λ o k. c.list_id.ensures.grows.touched o ((c.in_ok-list_stored_origin.ensures {u = tt}).touched o k)))
    c.note_change.ensures.ok
