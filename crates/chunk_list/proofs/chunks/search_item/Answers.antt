use Rattle.std.proofs.Common.{◌≡◌, ◌-◌, get_or, subst}
use Rattle.chunk_list.proofs.EditLemmas.{get_or_in}
use Rattle.chunk_list.proofs.PlaceLemmas.{slice_get_some}
use Rattle.chunk_list.specs.Chunks.{items_of}
use Rattle.chunk_list.proofs.chunks.search_item.Goals as goal

pub returns : goal.returns
returns g c =
    let item = subst (λ k. c.index.result.now ≡ get_or k.items.items (c.args.index - k.start) c.index.result.now) c.index-chunks-search_chunk.is c.index.ensures in
    slice_get_some (items_of c.args.chunks.now) c.args.index c.index.result.now c.requires.within (get_or_in c.args.chunks.now c.args.index c.search_chunk.result c.index-chunks-search_chunk.result c.requires.chunks c.search_chunk.ensures c.index.result.now item)
