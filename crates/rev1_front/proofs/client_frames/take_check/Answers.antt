use Rattle.std.proofs.Common.{refl}
use Rattle.std.specs.Prelude.{codes}
use Rattle.rev1_front.specs.FrameForms.{reworded}
use Rattle.rev1_front.proofs.ClientLemmas.{check_none, spelled_none, spelled_some}
use Rattle.rev1_front.proofs.client_frames.take_check.Goals as goal

pub returns-in-None : goal.returns-in-None
returns-in-None c =
    let frame = reworded c.args.tag.now (codes "NOOP") c.args.rest.now in
    check_none c.args.tag.now c.args.rest.now (spelled_none frame c.in_ok-parse_parts.field-0 c.in_ok-parse_parts.ensures c.in-None.is)

pub returns-in-Some : goal.returns-in-Some
returns-in-Some c =
    let frame = reworded c.args.tag.now (codes "NOOP") c.args.rest.now in
    (c.in-Some.tagged, spelled_some frame c.in_ok-parse_parts.field-0 c.in_ok-parse_parts.ensures c.in-Some.tagged c.in-Some.is, refl)
