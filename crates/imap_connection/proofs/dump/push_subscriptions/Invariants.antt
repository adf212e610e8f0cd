use Rattle.std.proofs.Common.{◌≡◌, ◌++◌, take}
use Rattle.std.specs.List.{flat_map}
use Rattle.crdt_ops.specs.DumpLines.{subscription_line}
use Rattle.imap_connection.proofs.dump.push_subscriptions.Given as goal

abbrev pub invariant-loop-name : goal.invariant-loop-name
invariant-loop-name l = l.text.items ≡ l.fn.text.items ++ flat_map (subscription_line l.replica.applied) (take l.name-index l.name-items)
