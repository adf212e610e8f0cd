use Rattle.imap_answers.specs.AnswerText.{body_text}
use Rattle.imap_print.proofs.ListsLemmas.{listed, lists_more}
use Rattle.imap_print.proofs.list_printers.push_bodies.Goals as goal

pub loop-part-preserved : goal.loop-part-preserved
loop-part-preserved c =
    lists_more body_text c.args.parts.now c.loop-part.part-index c.part-item.result c.args.is_first c.loop-part.none_yet _ _ _ c.loop-part-test.true c.part-item.is c.loop-part.invariant
    (listed _ _ _ _ _ c.in_ok-push_space.ensures c.in_ok-push_body.ensures)
