use Rattle.std.proofs.Common.{◌+◌, Some, cond, ap, ◌∙◌}
use Rattle.crdt_ops.specs.SortedSets.{same_id}
use Rattle.folder_state.specs.FolderTables.{folder_contents}
use Rattle.folder_state.proofs.FolderTablesLemmas.{message_tag_data, in_place_of}
use Rattle.folder_state.proofs.RoomLeftLemmas.{places_preserved}
use Rattle.folder_state.proofs.folder.Folder.put_message.Goals as goal

pub insert_version-requires-clause-apart : goal.insert_version-requires-clause-apart
insert_version-requires-clause-apart c = c.remove_message.ensures.removed

pub insert_version-requires-clause-places : goal.insert_version-requires-clause-places
insert_version-requires-clause-places c = places_preserved c.args.self.now c.remove_message.new.self (Some c.args.origin.now) 1 c.remove_message.ensures.room c.requires.places

pub insert_version-requires-clause-versions : goal.insert_version-requires-clause-versions
insert_version-requires-clause-versions c = c.remove_message.ensures.room.versions c.args.origin.now 1 c.requires.versions

pub returns-clause-tag_data : goal.returns-clause-tag_data
returns-clause-tag_data c = λ i.
    c.insert_version.ensures.tag_data i
    ∙ ap (cond (same_id i c.args.version.id) (Some (message_tag_data c.args.origin.now c.args.version.flags))) (c.remove_message.ensures.tag_data i)
    ∙ in_place_of (same_id i c.args.version.id) (Some (message_tag_data c.args.origin.now c.args.version.flags)) ((folder_contents c.args.self.now).tag_data i)

pub returns-clause-room : goal.returns-clause-room
returns-clause-room c = λ o n h. c.insert_version.ensures.room o n (places_preserved c.args.self.now c.remove_message.new.self o (n + 1) c.remove_message.ensures.room h)

pub returns-clause-versions : goal.returns-clause-versions
returns-clause-versions c = λ o n h k. c.insert_version.ensures.versions o n (c.remove_message.ensures.room.versions o (cond (same_id o c.args.origin.now) 1 0 + n) h) k
