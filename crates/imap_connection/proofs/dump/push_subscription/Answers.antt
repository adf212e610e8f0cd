use Rattle.std.proofs.Common.{codes}
use Rattle.crdt_ops.specs.Sets.{subscription_tags_of}
use Rattle.crdt_ops.proofs.DumpLineLemmas.{same_ids}
use Rattle.imap_connection.proofs.dump.push_subscription.Goals as goal

pub returns : goal.returns
returns c =
    same_ids c.push_name_line.result c.args.text.now.items c.push_name_line.new.text.items (codes "subscribed ") c.args.name.now c.in_ok-tags.tags (subscription_tags_of c.args.replica.now.applied c.args.name.now)
    (c.in_ok-tags.ensures {u = tt}) c.push_name_line.ensures
