use Rattle.std.proofs.Common.{◌≡◌, ◌<◌, length, ap, sym, subst, ◌∙◌, arith}
use Rattle.std.proofs.lemmas.List.{get_or_default}
use Rattle.chunk_list.specs.declared.chunks.Chunk.{Chunk}
use Rattle.chunk_list.specs.Chunks.{first_of}
use Rattle.chunk_list.proofs.PartitionLemmas.{answer}
use Rattle.chunk_list.proofs.SplitLemmas.{chunk_is}
use Rattle.chunk_list.proofs.search.first_item_passes.Goals as goal

pub index-requires : goal.index-requires
index-requires g c =
    let k = c.index-chunks-at.result in
    omega (arith, k.items.ok.0, subst (λ (c : Chunk _). 0 < length c.items.items) (sym c.index-chunks-at.is) (chunk_is c.args.chunks.now c.args.at k c.requires.within c.requires.chunks).some)

pub returns : goal.returns
returns g c =
    λ p d e by.
    let k = c.index-chunks-at.result in
    let some = subst (λ (c : Chunk _). 0 < length c.items.items) (sym c.index-chunks-at.is) (chunk_is c.args.chunks.now c.args.at k c.requires.within c.requires.chunks).some in
    let called = (g.met.P.FnMut.1.post_iff _ _ _).0 c.pred.ensures in
    let result_is : c.pred.result ≡ p k.start c.index.result.now = answer g.P.Fn _ _ _ _ _ called.1 by in
    result_is ∙ ap (p k.start) (c.index.ensures ∙ get_or_default k.items.items 0 c.index.result.now e some) ∙ ap (λ (c : Chunk _). p c.start (first_of c e)) (c.index-chunks-at.is ∙ get_or_default c.args.chunks.now c.args.at k d c.requires.within)
