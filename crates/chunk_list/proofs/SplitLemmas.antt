-- Chunks, divided at one of them.
use Rattle.std.proofs.Common.{◌≡◌, ℕ, zero, suc, ◌+◌, ◌-◌, ◌*◌, ◌<◌, ◌≤◌, List, [], ◌∷◌, ◌++◌, length, get_or, take, drop, set, map, refl, ap, sym, subst, ◌∙◌, arith, length-append, inl, inr}
use Rattle.std.proofs.Math.Numerals.{add-one}
use Rattle.std.proofs.Math.Seq.{drop-cons}
use Rattle.std.proofs.lemmas.List.{take-append-drop, set_split, drop_all, take_more}
use Rattle.std.proofs.lemmas.List.Concat.{flat_map-append}
use Rattle.std.proofs.lemmas.Bool.{cases_order}
use Rattle.chunk_list.specs.Chunks.{AreChunks, AreSome, IsChunk, IsInChunk, free_at_end, items_of, with_one_less}
use Rattle.chunk_list.specs.declared.chunks.Chunk.{Chunk}
use Rattle.chunk_list.specs.declared.chunks.TheConstants.{CHUNK}

-- A list around one of its elements.
pub parts_around : {X : Type 0} (xs : List X) (i : ℕ) (d : X) → i < length xs → xs ≡ take i xs ++ get_or xs i d ∷ drop (suc i) xs
parts_around xs i d inside = sym (take-append-drop i xs) ∙ ap (λ ys. take i xs ++ ys) (drop-cons xs i d inside)

-- The items before, in and after one chunk.
pub items_around : {T : Type 0} (cs : List (Chunk T)) (i : ℕ) (d : Chunk T) → i < length cs → items_of cs ≡ items_of (take i cs) ++ ((get_or cs i d).items.items ++ items_of (drop (suc i) cs))
items_around cs i d inside = ap (λ xs. items_of xs) (parts_around cs i d inside) ∙ flat_map-append (λ c. c.items.items) (take i cs) (get_or cs i d ∷ drop (suc i) cs)

-- The items after one chunk has been replaced.
pub items_with : {T : Type 0} (cs : List (Chunk T)) (i : ℕ) (c : Chunk T) → i < length cs → items_of (set cs i c) ≡ items_of (take i cs) ++ (c.items.items ++ items_of (drop (suc i) cs))
items_with cs i c inside = ap (λ xs. items_of xs) (set_split cs i c inside) ∙ flat_map-append (λ c. c.items.items) (take i cs) (c ∷ drop (suc i) cs)

-- The chunks before a place, and those after it, are chunks.
pub front_of : {T : Type 0} (n : ℕ) (xs ys : List (Chunk T)) → AreChunks n (xs ++ ys) → AreChunks n xs
front_of n [] ys h = tt
front_of n (c ∷ xs) ys h = (h.0, front_of (n + length c.items.items) xs ys h.1)

pub back_of : {T : Type 0} (n m : ℕ) (xs ys : List (Chunk T)) → m ≡ n + length (items_of xs) → AreChunks n (xs ++ ys) → AreChunks m ys
back_of n m [] ys e h = let same : n ≡ m = omega (arith, e) in subst (λ k. AreChunks k ys) same h
back_of n m (c ∷ xs) ys e h = back_of (n + length c.items.items) m xs ys (omega (arith, e, length-append c.items.items (items_of xs))) h.1

pub joined : {T : Type 0} (n m : ℕ) (xs ys : List (Chunk T)) → m ≡ n + length (items_of xs) → AreChunks n xs → AreChunks m ys → AreChunks n (xs ++ ys)
joined n m [] ys e front back = let same : m ≡ n = omega (arith, e) in subst (λ k. AreChunks k ys) same back
joined n m (c ∷ xs) ys e front back = (front.0, joined (n + length c.items.items) m xs ys (omega (arith, e, length-append c.items.items (items_of xs))) front.1 back)

-- The chunks before one, that chunk, and the chunks after it.
pub chunks_before_place : {T : Type 0} (cs : List (Chunk T)) (i : ℕ) → i < length cs → AreChunks 0 cs → AreChunks 0 (take i cs)
chunks_before_place cs i inside h = front_of 0 (take i cs) (drop i cs) (subst (AreChunks 0) (sym (take-append-drop i cs)) h)

pub chunks_from_place : {T : Type 0} (cs : List (Chunk T)) (i : ℕ) (d : Chunk T) → i < length cs → AreChunks 0 cs → AreChunks (length (items_of (take i cs))) (get_or cs i d ∷ drop (suc i) cs)
chunks_from_place cs i d inside h = back_of 0 _ (take i cs) (get_or cs i d ∷ drop (suc i) cs) (omega arith) (subst (AreChunks 0) (parts_around cs i d inside) h)

pub chunk_is : {T : Type 0} (cs : List (Chunk T)) (i : ℕ) (d : Chunk T) → i < length cs → AreChunks 0 cs → IsChunk (length (items_of (take i cs))) (get_or cs i d)
chunk_is cs i d inside h = (chunks_from_place cs i d inside h).0

-- A chunk was replaced by one with the same number of items.
pub chunks_with : {T : Type 0} (cs : List (Chunk T)) (i : ℕ) (d c : Chunk T) → i < length cs → AreChunks 0 cs → IsChunk (length (items_of (take i cs))) c → AreChunks (length (items_of (take i cs)) + length c.items.items) (drop (suc i) cs) → AreChunks 0 (set cs i c)
chunks_with cs i d c inside h chunk tail = subst (AreChunks 0) (sym (set_split cs i c inside)) (joined 0 _ (take i cs) (c ∷ drop (suc i) cs) (omega arith) (chunks_before_place cs i inside h) (chunk, tail))

-- The start of the next chunk.
pub next_start : {T : Type 0} (cs : List (Chunk T)) (i : ℕ) (d : Chunk T) → i + 1 < length cs → AreChunks 0 cs → (get_or cs (i + 1) d).start ≡ (get_or cs i d).start + length (get_or cs i d).items.items
next_start cs i d inside h =
    let here = chunk_is cs i d (omega (arith, inside)) h in
    let next = chunk_is cs (i + 1) d inside h in
    let more = ap (λ xs. length (items_of xs)) (take_more cs i d (omega (arith, inside))) in
    let parts = flat_map-append (λ (c : Chunk _). c.items.items) (take i cs) (get_or cs i d ∷ []) in
    omega (arith, here.start, next.start, more, ap (λ xs. length xs) parts, length-append (items_of (take i cs)) ((get_or cs i d).items.items ++ []), length-append (get_or cs i d).items.items [])

-- The end of the last chunk.
pub last_end : {T : Type 0} (cs : List (Chunk T)) (i : ℕ) (d : Chunk T) → i + 1 ≡ length cs → AreChunks 0 cs → length (items_of cs) ≡ (get_or cs i d).start + length (get_or cs i d).items.items
last_end cs i d last h =
    let here = chunk_is cs i d (omega (arith, last)) h in
    let around = ap (λ xs. length xs) (items_around cs i d (omega (arith, last))) in
    let none = ap (λ xs. length (items_of xs)) (drop_all (suc i) cs (omega (arith, last))) in
    omega (arith, here.start, around, none, length-append (items_of (take i cs)) ((get_or cs i d).items.items ++ items_of (drop (suc i) cs)), length-append (get_or cs i d).items.items (items_of (drop (suc i) cs)))

-- A chunk contains the item if it doesn't start after the item and the next chunk does.
pub is_in_chunk : {T : Type 0} (cs : List (Chunk T)) (index i : ℕ) → AreChunks 0 cs → index < length (items_of cs) → i < length cs → ((d : Chunk T) → (get_or cs i d).start ≤ index) → ((d : Chunk T) → i + 1 < length cs → index < (get_or cs (i + 1) d).start) → IsInChunk cs index i
is_in_chunk cs index i h within inside start late = record {
  within = inside;
  start = start;
  end = λ d. elim (cases_order (i + 1) (length cs)) [
    | inl e ↦ omega (arith, within, last_end cs i d e h)
    | inr (inl below) ↦ omega (arith, late d below, next_start cs i d below h)
    | inr (inr above) ↦ absurd (omega (arith, above, inside))
  ];
}

-- All chunks have one item fewer before them.
pub down_items : {T : Type 0} (cs : List (Chunk T)) → items_of (map with_one_less cs) ≡ items_of cs
down_items [] = refl
down_items (c ∷ cs) = ap (λ xs. c.items.items ++ xs) (down_items cs)

pub down_chunks : {T : Type 0} (n m : ℕ) (cs : List (Chunk T)) → m ≡ n + 1 → AreChunks m cs → AreChunks n (map with_one_less cs)
down_chunks n m [] e h = tt
down_chunks n m (c ∷ cs) e h = (record { start = omega (arith, h.0.start, e); some = h.0.some; most = h.0.most; room = h.0.room }, down_chunks (n + length c.items.items) (m + length c.items.items) cs (omega (arith, e)) h.1)

pub down_free : {T : Type 0} (free : ℕ) (cs : List (Chunk T)) → free_at_end free (map with_one_less cs) ≡ free_at_end free cs
down_free free [] = refl
down_free free (c ∷ cs) = down_free (CHUNK - length c.items.items) cs

-- After some items, no chunk starts at 0.
pub start_positive_after : {T : Type 0} (n : ℕ) (cs : List (Chunk T)) → AreChunks n cs → 0 < n → (k : ℕ) (d : Chunk T) → k < length cs → 0 < (get_or cs k d).start
start_positive_after n [] h some k d inside = absurd (omega (arith, inside))
start_positive_after n (c ∷ cs) h some zero d inside = omega (arith, h.0.start, some)
start_positive_after n (c ∷ cs) h some (suc k) d inside = start_positive_after (n + length c.items.items) cs h.1 (omega (arith, some)) k d (omega (arith, inside))

-- A list has at most as many items as its chunks have places.
pub few_items : {T : Type 0} (n : ℕ) (cs : List (Chunk T)) → AreChunks n cs → length (items_of cs) ≤ CHUNK * length cs
few_items n [] h = omega arith
few_items n (c ∷ cs) h = omega (arith, h.0.most, few_items (n + length c.items.items) cs h.1, length-append c.items.items (items_of cs))

-- A list has at most as many chunks as items.
pub few_chunks : {T : Type 0} (n : ℕ) (cs : List (Chunk T)) → AreChunks n cs → length cs ≤ length (items_of cs)
few_chunks n [] h = omega arith
few_chunks n (c ∷ cs) h = omega (arith, h.0.some, few_chunks (n + length c.items.items) cs h.1, length-append c.items.items (items_of cs))

-- Each chunk but the first starts after 0.
pub start_positive_at : {T : Type 0} (cs : List (Chunk T)) → AreChunks 0 cs → (k : ℕ) (d : Chunk T) → 0 < k → k < length cs → 0 < (get_or cs k d).start
start_positive_at [] h k d late inside = absurd (omega (arith, inside))
start_positive_at (c ∷ cs) h zero d late inside = absurd (omega (arith, late))
start_positive_at (c ∷ cs) h (suc k) d late inside = start_positive_after (0 + length c.items.items) cs h.1 (omega (arith, h.0.some)) k d (omega (arith, inside))

pub some_chunks : {T : Type 0} (n : ℕ) (cs : List (Chunk T)) → AreChunks n cs → AreSome cs
some_chunks n [] h = tt
some_chunks n (c ∷ cs) h = (h.0.some, some_chunks (n + length c.items.items) cs h.1)

-- No chunk after another is empty.
pub some_after : {T : Type 0} (cs : List (Chunk T)) (i : ℕ) (d : Chunk T) → AreChunks 0 cs → i < length cs → AreSome (drop (i + 1) cs)
some_after cs i d h inside = subst (λ j. AreSome (drop j cs)) (sym (add-one i)) (some_chunks _ (drop (suc i) cs) (chunks_from_place cs i d inside h).1)

-- No chunk ends after the end of the list.
pub chunk_end : {T : Type 0} (cs : List (Chunk T)) (i : ℕ) (k : Chunk T) → AreChunks 0 cs → i < length cs → k ≡ get_or cs i k → k.start + length k.items.items ≤ length (items_of cs)
chunk_end cs i k h inside is =
    let around = ap (λ xs. length xs) (items_around cs i k inside) in
    let end : (get_or cs i k).start + length (get_or cs i k).items.items ≤ length (items_of cs) = omega (arith, around, (chunk_is cs i k inside h).start, length-append (items_of (take i cs)) ((get_or cs i k).items.items ++ items_of (drop (suc i) cs)), length-append (get_or cs i k).items.items (items_of (drop (suc i) cs))) in
    subst (λ c. c.start + length c.items.items ≤ length (items_of cs)) (sym is) end
