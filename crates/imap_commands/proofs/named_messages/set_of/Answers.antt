use Rattle.imap_commands.proofs.NamedLemmas.{first_above, number_above, set_append}
use Rattle.imap_commands.proofs.named_messages.set_of.Goals as goal

pub push-requires : goal.push-requires
push-requires c = first_above c.loop-number.set c.args.numbers.now c.loop-number.number-index _ c.loop-number-test.true c.loop-number.invariant.1

pub loop-number-preserved : goal.loop-number-preserved
loop-number-preserved c = (
  set_append c.loop-number.set _ c.args.numbers.now c.loop-number.number-index _ _ c.loop-number-test.true c.in_ok-push.ensures.ok c.loop-number.invariant.0,
  number_above c.loop-number.set _ c.args.numbers.now c.loop-number.number-index _ c.loop-number-test.true c.in_ok-push.ensures.ok c.loop-number.invariant.1,
)
