use Rattle.std.proofs.Common.{◌≡◌, List, ◌++◌, take}
use Rattle.std.specs.List.{flat_map}
use Rattle.crdt_ops.specs.declared.op.Op.{Op}
use Rattle.subs_state.specs.Subscriptions.{IsMadeBy}
use Rattle.subs_state.specs.Table.{subscriptions_of}
use Rattle.crdt_ops.specs.DumpLines.{subscription_line}
use Rattle.mail_audit.proofs.dump_state.push_subscriptions.Given as goal

abbrev pub invariant-loop-name : goal.invariant-loop-name
invariant-loop-name l = (ops : List Op) → IsMadeBy (subscriptions_of l.subs) ops → l.text.items ≡ l.fn.text.items ++ flat_map (subscription_line ops) (take l.name-index l.name-items)
