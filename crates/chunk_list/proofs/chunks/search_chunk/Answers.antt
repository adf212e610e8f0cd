use Rattle.std.proofs.Common.{◌≡◌, ◌+◌, ◌<◌, get_or, subst, arith}
use Rattle.chunk_list.proofs.SplitLemmas.{is_in_chunk}
use Rattle.chunk_list.proofs.chunks.search_chunk.Goals as goal

pub returns : goal.returns
returns g c =
    let next : c.loop-high.high ≡ c.loop-high.low + 1 = omega arith in
    is_in_chunk c.args.chunks.now c.args.index c.loop-high.low c.requires.chunks c.requires.within (omega arith) c.loop-high.invariant.early (λ d below. subst (λ k. c.args.index < (get_or c.args.chunks.now k d).start) next (c.loop-high.invariant.late d (omega (arith, below))))
