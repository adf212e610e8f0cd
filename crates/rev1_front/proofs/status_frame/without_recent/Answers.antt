use Rattle.rev1_front.specs.StatusForms.{with_items}
use Rattle.rev1_front.proofs.StatusLemmas.{recent_along}
use Rattle.rev1_front.proofs.status_frame.without_recent.Goals as goal

pub returns-in-Some : goal.returns-in-Some
returns-in-Some c =
    let f = c.in-Some.ensures in
    recent_along c.without_recent_item.result (with_items c.in-Some.front.now c.in-Some.items.now) c.args.rest.now f.0 c.without_recent_item.ensures
