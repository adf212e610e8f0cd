use Rattle.std.proofs.Common.{arith}
use Rattle.chunk_list.proofs.FreePlaceLemmas.{free_at_most_chunk}
use Rattle.chunk_list.proofs.list.ChunkList.room.Goals as goal

pub overflow_add-result : goal.overflow_add-result
overflow_add-result g c = omega (arith, c.free_places.ensures, free_at_most_chunk 0 c.deref.result.now (omega arith), c.len.ensures, c.self.invariant.few)
