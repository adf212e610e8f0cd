-- The free places of the last chunk.
use Rattle.std.proofs.Common.{◌≡◌, ℕ, suc, ◌+◌, ◌-◌, ◌<◌, ◌≤◌, List, [], ◌∷◌, ◌++◌, length, get_or, take, drop, set, refl, ap, ◌∙◌, arith}
use Rattle.std.proofs.lemmas.List.{set_split, drop_all}
use Rattle.chunk_list.specs.declared.chunks.TheConstants.{CHUNK}
use Rattle.chunk_list.specs.Chunks.{AreChunks, free_at_end}
use Rattle.chunk_list.specs.declared.chunks.Chunk.{Chunk}
use Rattle.chunk_list.proofs.SplitLemmas.{parts_around}

pub free_append : {T : Type 0} (free : ℕ) (xs ys : List (Chunk T)) → free_at_end free (xs ++ ys) ≡ free_at_end (free_at_end free xs) ys
free_append free [] ys = refl
free_append free (c ∷ xs) ys = free_append (CHUNK - length c.items.items) xs ys

-- There are at most CHUNK free places.
pub free_at_most_chunk : {T : Type 0} (free : ℕ) (cs : List (Chunk T)) → free ≤ CHUNK → free_at_end free cs ≤ CHUNK
free_at_most_chunk free [] h = h
free_at_most_chunk free (c ∷ cs) h = free_at_most_chunk (CHUNK - length c.items.items) cs (omega arith)

-- There are fewer than CHUNK free places, since no chunk is empty.
pub free_below_chunk : {T : Type 0} (free before : ℕ) (cs : List (Chunk T)) → free < CHUNK → AreChunks before cs → free_at_end free cs < CHUNK
free_below_chunk free before [] h k = h
free_below_chunk free before (c ∷ cs) h k = free_below_chunk (CHUNK - length c.items.items) (before + length c.items.items) cs (omega (arith, k.0.some)) k.1

-- More free places before the chunks leave no fewer after them.
pub free_monotone : {T : Type 0} (few many : ℕ) (cs : List (Chunk T)) → few ≤ many → free_at_end few cs ≤ free_at_end many cs
free_monotone few many [] h = h
free_monotone few many (c ∷ cs) h = free_monotone (CHUNK - length c.items.items) (CHUNK - length c.items.items) cs (omega arith)

-- The free places, given the last chunk.
pub free_last : {T : Type 0} (free : ℕ) (cs : List (Chunk T)) (i : ℕ) (d : Chunk T) → i + 1 ≡ length cs → free_at_end free cs ≡ CHUNK - length (get_or cs i d).items.items
free_last free cs i d last =
    ap (free_at_end free) (parts_around cs i d (omega (arith, last))) ∙ free_append free (take i cs) (get_or cs i d ∷ drop (suc i) cs) ∙ ap (free_at_end (CHUNK - length (get_or cs i d).items.items)) (drop_all (suc i) cs (omega (arith, last)))

-- The free places after one chunk has been replaced.
pub free_set : {T : Type 0} (free : ℕ) (cs : List (Chunk T)) (i : ℕ) (c : Chunk T) → i < length cs → free_at_end free (set cs i c) ≡ free_at_end (CHUNK - length c.items.items) (drop (suc i) cs)
free_set free cs i c inside = ap (free_at_end free) (set_split cs i c inside) ∙ free_append free (take i cs) (c ∷ drop (suc i) cs)

pub free_at : {T : Type 0} (free : ℕ) (cs : List (Chunk T)) (i : ℕ) (d : Chunk T) → i < length cs → free_at_end free cs ≡ free_at_end (CHUNK - length (get_or cs i d).items.items) (drop (suc i) cs)
free_at free cs i d inside = ap (free_at_end free) (parts_around cs i d inside) ∙ free_append free (take i cs) (get_or cs i d ∷ drop (suc i) cs)

-- A list with free places has a chunk.
pub nonempty_if_free : {T : Type 0} (cs : List (Chunk T)) → 0 < free_at_end 0 cs → 0 < length cs
nonempty_if_free [] h = absurd (omega (arith, h))
nonempty_if_free (c ∷ cs) h = omega arith
