use Rattle.folder_state.proofs.RoomLeftLemmas.{no_fuller_trans}
use Rattle.folder_state.proofs.folder.Folder.remove_ids.Goals as goal

pub returns-clause-room : goal.returns-clause-room
returns-clause-room c = no_fuller_trans c.args.self.now c.remove_tags.new.self c.remove_messages.new.self c.remove_tags.ensures.room c.remove_messages.ensures.room
