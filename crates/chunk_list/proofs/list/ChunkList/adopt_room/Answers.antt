use Rattle.std.proofs.Common.{length, ap, ◌∙◌, arith}
use Rattle.chunk_list.proofs.RoomLemmas.{IsMoved, moved_items, moved_valid}
use Rattle.chunk_list.proofs.list.ChunkList.adopt_room.Goals as goal
use Rattle.chunk_list.proofs.list.ChunkList.adopt_room.Goals.{After-append}

moved : (g : _) (c : After-append g) → IsMoved c.self.inside.chunks c.into_parts-chunks.result.0 c.append.new.self c.self.inside.spares c.into_parts-chunks.result.1 c.self.inside.len c.append.result
moved g c = record {
  valid = c.self.invariant;
  ready = c.into_parts-chunks.ensures.ready;
  reached = omega (arith, c.requires, ap (λ t. length t.items) c.self.view_is, c.into_parts-chunks.ensures.most);
  succeeds = c.append.ensures.succeeds;
  put = c.append.ensures.items;
  put_room = c.append.ensures.capacity;
}

pub invariant_of-self : goal.invariant_of-self
invariant_of-self g c = moved_valid _ _ _ _ _ _ _ (moved g (goal.at.invariant_of-self g c).After-append)

pub returns-clause-items : goal.returns-clause-items
returns-clause-items g c = moved_items _ _ _ _ _ _ _ (moved g (goal.at.returns-clause-items g c).After-append) ∙ ap (λ t. t.items) c.self.view_is
