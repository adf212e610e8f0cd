use Rattle.std.proofs.Common.{arith}
use Rattle.chunk_list.proofs.FreePlaceLemmas.{free_below_chunk}
use Rattle.chunk_list.proofs.list.ChunkList.release.Goals as goal

pub returns-clause-room : goal.returns-clause-room
returns-clause-room g c = omega (arith, c.clear.ensures.len, free_below_chunk 0 0 c.self.inside.chunks.items (omega arith) c.self.invariant.chunks)
