use Rattle.std.proofs.lemmas.List.{get_or_default}
use Rattle.chunk_list.proofs.PartitionLemmas.{answer}
use Rattle.chunk_list.proofs.search.item_passes.Goals as goal

pub returns : goal.returns
returns g c =
    λ p d by.
    let called = (g.met.P.FnMut.1.post_iff _ _ _).0 c.pred.ensures in
    let result_is = answer g.P.Fn _ _ _ _ _ called.1 by in
    let same = get_or_default c.args.items.now c.args.at c.index-items-at.result d c.requires.within in
    cc
