use Rattle.std.proofs.Common.{sym, subst}
use Rattle.merge_laws.specs.Orders.{IsIn}
use Rattle.server_runtime.specs.ReplicaEnds.{EndHasHistory, books_of}
use Rattle.server_runtime.proofs.EndLemmas.{books_have_histories}
use Rattle.world_core.proofs.PlaceLemmas.{all_more, take_whole}
use Rattle.server_runtime.proofs.replica_end.ends_keep_the_headline.Goals as goal

pub loop-end-preserved : goal.loop-end-preserved
loop-end-preserved c = all_more EndHasHistory c.args.ends.now c.loop-end.end-index _ c.loop-end-test.true c.end-item.is c.loop-end.invariant c.take_history.ensures

pub returns : goal.returns
returns c = λ interleaving merged linked. c.interleavings_are_runs.ensures.headline (books_of c.args.ends.now) interleaving (record {
  histories = books_have_histories c.args.ends.now
      (λ end i. c.loop-end.invariant end (subst (IsIn end) (sym (take_whole c.args.ends.now c.loop-end.end-index c.loop-end-test.false)) i));
  merged = merged;
  linked = linked;
})
