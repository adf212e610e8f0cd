use Rattle.std.proofs.Common.{sym, subst}
use Rattle.merge_laws.specs.Orders.{IsIn}
use Rattle.server_laws.specs.Interleavings.{HasHistory}
use Rattle.world_core.proofs.PlaceLemmas.{all_more, take_whole}
use Rattle.server_laws.proofs.books.books_keep_the_headline.Goals as goal

pub loop-book-preserved : goal.loop-book-preserved
loop-book-preserved c = all_more HasHistory c.args.books.now c.loop-book.book-index _ c.loop-book-test.true c.book-item.is c.loop-book.invariant (record { from_one = c.node-node.ensures.from_one; history = c.node-node.ensures.history })

pub returns : goal.returns
returns c = λ interleaving merged linked. c.interleavings_are_runs.ensures.headline c.args.books.now interleaving (record {
  histories = λ book i. c.loop-book.invariant book (subst (IsIn book) (sym (take_whole c.args.books.now c.loop-book.book-index c.loop-book-test.false)) i);
  merged = merged;
  linked = linked;
})
