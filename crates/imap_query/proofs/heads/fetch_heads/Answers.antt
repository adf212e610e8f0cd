use Rattle.std.proofs.Common.{◌≡◌, ◌∙◌, ap, sym, true}
use Rattle.imap_query.specs.Heads.{are_answerable_by_heads}
use Rattle.imap_query.proofs.HeadLemmas.{answers_drop_next}
use Rattle.imap_query.proofs.heads.fetch_heads.Goals as goal

pub loop-shown-preserved : goal.loop-shown-preserved
loop-shown-preserved c =
    answers_drop_next c.args.asked.items.now c.args.asked.mode c.args.rows.now c.args.named.now c.loop-shown.shown-index _ _ _ _ (ap are_answerable_by_heads (sym c.requires.parts) ∙ c.requires.heads) c.loop-shown-test.true c.in_ok-push_answer.ensures c.loop-shown.invariant
