use Rattle.std.proofs.Common.{arith}
use Rattle.causal_inbox.proofs.Gapless.{lacks_take_next, next_of_less}
use Rattle.causal_inbox.proofs.history.place_of_uncovered.Goals as goal

pub loop-replica-preserved : goal.loop-replica-preserved
loop-replica-preserved c =
    let h = c.loop-replica.invariant in
    let within = h.within in
    let least = c.min-first.ensures in
    record {
      within = omega (arith, within, least);
      lacks = lacks_take_next c.args.clock.now c.args.ids.now.keys c.args.counted.now c.loop-replica.replica-index c.loop-replica.first c.place_of_next.result c.min-first.result c.loop-replica-item.result c.loop-replica-test.true c.loop-replica-item.is least h.lacks c.place_of_next.ensures.lacks;
      next = next_of_less c.args.clock.now c.args.ids.now.keys c.loop-replica.first c.place_of_next.result c.min-first.result least h.next c.place_of_next.ensures.next;
    }
