-- A list's items and room, and when chunks and spares represent them.

use Rattle.std.specs.Prelude.{◌≡◌, ℕ, ◌+◌, ◌-◌, ◌*◌, ◌/◌, ◌≤◌, List, [], Vec, length, All, vec_len}
use Rattle.std.specs.Prelude.{vec_capacity}
use Rattle.chunk_list.specs.declared.chunks.TheConstants.{CHUNK, MAX_CHUNKS}
use Rattle.chunk_list.specs.declared.chunks.Chunk.{Chunk}
use Rattle.chunk_list.specs.Chunks.{items_of, AreChunks, AreDense}

-- The items in order, and how many further items can be pushed without asking for memory.
pub record ListState (T : Type 0) : Type 0 where
  pub items : List T
  pub room : ℕ

-- An empty vector with memory for the items of one chunk.
pub record IsSpare {T Z : Type 0} (spare : Vec T Z) : Type 0 where
  pub none : spare.items ≡ []
  pub room : CHUNK ≤ vec_capacity spare

-- The chunks are consecutive and dense, the spares are empty, and there are places for all chunks
-- and spares, both among the chunks and among the spares.
pub record IsChunkList {T X Y Z : Type 0} (held : Vec (Chunk T) X) (empty : Vec (Vec T Y) Z)
    (count : ℕ) : Type 0 where
  pub chunks : AreChunks 0 held.items
  pub dense : AreDense 0 held.items
  pub spares : All IsSpare empty.items
  pub chunk_places : vec_len held + vec_len empty ≤ vec_capacity held
  pub spare_places : vec_len held + vec_len empty ≤ vec_capacity empty
  pub few : vec_len held + vec_len empty ≤ MAX_CHUNKS
  pub len : count ≡ length (items_of held.items)

-- Reserved room: the most items that a list may have to adopt it, and how many further items the
-- list has room for then.
pub record RoomState : Type 0 where
  pub most : ℕ
  pub room : ℕ

-- The most items of a list whose chunks leave `spares` of these places free: each pair of
-- neighbours has more items than fit into one chunk.
abbrev pub most_items : ℕ → ℕ → ℕ
most_items places spares = (places - spares - 1) * (CHUNK / 2)

-- There are no chunks and all spares are empty; there is a place among the chunks for each spare,
-- and there are at least as many places among the spares as among the chunks.
pub record IsReady {T X Y Z : Type 0} (held : Vec (Chunk T) X) (empty : Vec (Vec T Y) Z) :
    Type 0 where
  pub none : held.items ≡ []
  pub spares : All IsSpare empty.items
  pub chunk_places : vec_len empty ≤ vec_capacity held
  pub spare_places : vec_capacity held ≤ vec_capacity empty
  pub few : vec_capacity held ≤ MAX_CHUNKS
