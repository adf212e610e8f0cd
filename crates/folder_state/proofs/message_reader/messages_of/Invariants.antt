use Rattle.std.proofs.Common.{◌≡◌, ◌++◌, drop, map}
use Rattle.folder_state.specs.MessageRefs.{stored_message}
use Rattle.folder_state.proofs.message_reader.messages_of.Given as goal

abbrev pub invariant-loop-origin : goal.invariant-loop-origin
invariant-loop-origin l = l.messages.items ++ map (stored_message l.folder.messages l.dated_texts.entries) (drop l.origin-index l.origins) ≡ map (stored_message l.folder.messages l.dated_texts.entries) l.origins
