use Rattle.rev1_front.proofs.ClientLemmas.{recent_none, recent_some, status_by}
use Rattle.rev1_front.proofs.client_frames.take_status.Goals as goal

pub returns-in-None : goal.returns-in-None
returns-in-None c = λ other h. recent_none c.args.rest.now c.in_ok-without_recent.field-0 c.in_ok-without_recent.ensures c.in-None.is h.0 h.1 h.3

pub returns-in-Some : goal.returns-in-Some
returns-in-Some c =
    status_by c.args.mode c.args.tag.now c.args.rest.now c.in-Some.others.rest.items c.in-Some.others.only_recent c.take_others.result
    (recent_some c.args.rest.now c.in_ok-without_recent.field-0 c.in_ok-without_recent.ensures c.in-Some.others c.in-Some.is)
    c.take_others.ensures
