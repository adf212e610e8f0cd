use Rattle.std.proofs.Common.{List, ℕ, ap}
use Rattle.std.specs.Prelude.{codes}
use Rattle.rev1_front.specs.FrameForms.{reworded}
use Rattle.rev1_front.proofs.ClientLemmas.{none_along, spelled_none}
use Rattle.rev1_front.proofs.client_frames.take_others.Goals as goal

pub returns-in-None : goal.returns-in-None
returns-in-None c =
    let frame = reworded c.args.tag.now (codes "STATUS") c.deref.result.now in
    none_along frame (reworded c.args.tag.now (codes "STATUS") c.args.others.now.rest.items) (ap (λ (r : List ℕ). reworded c.args.tag.now (codes "STATUS") r) c.deref.ensures.value)
    (spelled_none frame c.in_ok-parse_parts.field-0 c.in_ok-parse_parts.ensures c.in-None.is)
