use Rattle.std.specs.Prelude.{codes}
use Rattle.rev1_front.specs.FrameForms.{reworded}
use Rattle.rev1_front.proofs.ClientLemmas.{lsub_by, lsub_unread, spelled_none, spelled_some}
use Rattle.rev1_front.proofs.name_commands.take_lsub.Goals as goal

pub returns-in-None : goal.returns-in-None
returns-in-None c =
    let frame = reworded c.args.tag.now (codes "LIST") c.args.rest.now in
    lsub_unread c.args.mode c.args.tag.now c.args.rest.now (spelled_none frame c.in_ok-parse_parts.field-0 c.in_ok-parse_parts.ensures c.in-None.is)

pub returns-in-Some : goal.returns-in-Some
returns-in-Some c =
    let frame = reworded c.args.tag.now (codes "LIST") c.args.rest.now in
    lsub_by c.args.mode c.args.tag.now c.args.rest.now c.in-Some.tagged c.lsub_of.result c.requires (spelled_some frame c.in_ok-parse_parts.field-0 c.in_ok-parse_parts.ensures c.in-Some.tagged c.in-Some.is) c.lsub_of.ensures
