use Rattle.rev1_front.proofs.StatusLemmas.{no_recent_item}
use Rattle.rev1_front.proofs.status_frame.without_recent_item.Goals as goal

pub returns-then-not-others : goal.returns-then-not-others
returns-then-not-others c =
    no_recent_item c.args.front.now c.args.items.now c.in_ok-others.others.text.items c.in_ok-others.others.has_recent c.in_ok-others.others.is_empty c.requires c.in_ok-others.ensures c.if-not-others.true
