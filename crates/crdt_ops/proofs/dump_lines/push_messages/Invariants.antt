use Rattle.std.proofs.Common.{◌≡◌, ◌++◌, take}
use Rattle.std.specs.List.{flat_map}
use Rattle.crdt_ops.specs.DumpLines.{message_line}
use Rattle.crdt_ops.proofs.dump_lines.push_messages.Given as goal

abbrev pub invariant-loop-message : goal.invariant-loop-message
invariant-loop-message l = l.text.items ≡ l.fn.text.items ++ flat_map message_line (take l.message-index l.messages)
