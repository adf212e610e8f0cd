use Rattle.std.proofs.Common.{◌/◌, arith}
use Rattle.chunk_list.specs.declared.chunks.TheConstants.{CHUNK}
use Rattle.chunk_list.proofs.ReferenceLemmas.{lent_result}
use Rattle.chunk_list.proofs.chunks.item_near.Goals as goal

pub returns : goal.returns
returns g c = lent_result c.args.chunks.now (c.args.index / CHUNK) c.args.index c.in_ok-chunk.chunk.now c.requires c.in_ok-chunk.ensures.lookup.3.0 c.in_ok-chunk.ensures.lookup.1 (omega (arith, c.if-index-chunk.false)) c.deref.result.now c.get-2.result c.deref.ensures.value c.get-2.ensures.lookup
