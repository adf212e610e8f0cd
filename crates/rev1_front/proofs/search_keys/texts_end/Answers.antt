use Rattle.std.proofs.Common.{◌+◌, drop}
use Rattle.rev1_front.specs.SearchReading.{texts_len}
use Rattle.rev1_front.proofs.KeyLemmas.{texts_next}
use Rattle.rev1_front.proofs.search_keys.texts_end.Goals as goal

pub loop-turn-preserved : goal.loop-turn-preserved
loop-turn-preserved c = (
  c.text_end-end.ensures.within,
  texts_next c.args.octets.now c.args.count c.loop-turn.turn c.loop-turn.end c.text_end-end.result (c.args.start + texts_len c.args.count (drop c.args.start c.args.octets.now)) c.loop-turn-test.true c.text_end-end.ensures.value c.loop-turn.invariant.1,
)
