use Rattle.imap_query.proofs.HitLemmas.{number_above, numbers_drop_next}
use Rattle.imap_query.proofs.search_command.numbers.Goals as goal

pub loop-hit-preserved : goal.loop-hit-preserved
loop-hit-preserved c = (
  numbers_drop_next _ _ c.args.hits.now c.loop-hit.hit-index _ _ c.loop-hit-test.true c.in_ok-push.ensures.ok c.loop-hit.invariant.0,
  number_above _ _ c.args.hits.now c.loop-hit.hit-index _ c.loop-hit-test.true c.in_ok-push.ensures.ok c.loop-hit.invariant.1,
)
