use Rattle.std.proofs.Common.{codes}
use Rattle.crdt_ops.specs.Sets.{subscription_tags_of}
use Rattle.crdt_ops.proofs.DumpLineLemmas.{same_ids}
use Rattle.mail_audit.proofs.dump_state.push_subscription.Goals as goal

pub returns : goal.returns
returns c = λ ops made.
    same_ids c.push_name_line.result c.args.text.now.items c.push_name_line.new.text.items (codes "subscribed ") c.args.name.now c.in_ok-tags.tags (subscription_tags_of ops c.args.name.now)
    (c.in_ok-tags.ensures.set ops made) c.push_name_line.ensures
