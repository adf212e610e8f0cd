use Rattle.std.proofs.Common.{◌∙◌}
use Rattle.rev1_front.specs.FrameForms.{reworded}
use Rattle.rev1_front.proofs.ClientLemmas.{none_by, spelled_along}
use Rattle.rev1_front.proofs.frame_parts.parse_parts.Goals as goal

pub returns-in-Ok : goal.returns-in-Ok
returns-in-Ok c =
    spelled_along c.deref.result.now (reworded c.args.tag.now c.args.word.now c.args.rest.now) (c.deref.ensures.value ∙ c.in_ok-frame.ensures) c.in-Ok.tagged c.in-Ok.ensures.spelled

pub returns : goal.returns
returns c =
    none_by c.deref.result.now (reworded c.args.tag.now c.args.word.now c.args.rest.now) (c.deref.ensures.value ∙ c.in_ok-frame.ensures) c.none_read.result c.parse.result c.in-Err.why c.parse.ensures.only c.parse.ensures.no_tag c.parse.ensures.unknown
    c.in-Err.is c.none_read.ensures
