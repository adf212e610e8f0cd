-- A list stays a list when a chunk is added or removed.
use Rattle.std.proofs.Common.{◌≡◌, ℕ, suc, ◌+◌, ◌-◌, ◌*◌, ◌^◌, ◌<◌, ◌≤◌, [], ◌∷◌, ◌++◌, Some, length, get_or, take, drop, map, remove, vec_len, vec_capacity, Result, IsOk, is_ok, if◌then◌else◌, ap, sym, subst, ◌∙◌, arith, length-append}
use Rattle.std.specs.Prelude.{Vec}
use Rattle.std.proofs.Common.{Global}
use Rattle.std.proofs.Math.Numerals.{add-one}
use Rattle.std.proofs.lemmas.List.{append-nil, nil_from_length}
use Rattle.std.proofs.lemmas.List.Concat.{flat_map-append}
use Rattle.std.proofs.lemmas.List.Edits.{length-remove}
use Rattle.std.proofs.lemmas.List.Elements.{All-pop, All-push}
use Rattle.chunk_list.specs.declared.chunks.Chunk.{Chunk}
use Rattle.chunk_list.specs.declared.chunks.TheConstants.{CHUNK}
use Rattle.chunk_list.specs.Chunks.{AreChunks, AreDense, IsChunk, IsInChunk, free_at_end, items_of, with_one_less}
use Rattle.chunk_list.specs.Room.{IsChunkList, IsReady, IsSpare, most_items}
use Rattle.chunk_list.proofs.DensityLemmas.{dense_before, dense_down, count_of_dense, dense_from, dense_joined, dense_with_fewer_free}
use Rattle.chunk_list.proofs.EditLemmas.{get_or_in}
use Rattle.chunk_list.proofs.FreePlaceLemmas.{free_append, free_at_most_chunk}
use Rattle.chunk_list.proofs.MergeLemmas.{on_ok}
use Rattle.chunk_list.proofs.PlaceLemmas.{remove_between}
use Rattle.chunk_list.proofs.SplitLemmas.{chunk_is, few_chunks, down_chunks, down_items, few_items, chunks_from_place, chunks_before_place, items_around, joined}

-- A chunk of one item was made from a spare.
pub record IsOpened {T X Y Z : Type 0} (held new : Vec (Chunk T) X) (empty left : Vec (Vec T Y) Z) (count : ℕ) (x : T) (c : Chunk T) (spare : Vec T Y) : Type 0 where
  pub valid : IsChunkList held empty count
  pub taken : empty.items ≡ left.items ++ spare ∷ []
  pub taken_len : vec_len left + 1 ≡ vec_len empty
  pub taken_room : vec_capacity left ≡ vec_capacity empty
  pub start : c.start ≡ count
  pub items : c.items.items ≡ spare.items ++ x ∷ []
  pub room : vec_capacity c.items ≡ vec_capacity spare
  pub put : new.items ≡ held.items ++ c ∷ []
  pub put_len : vec_len new ≡ vec_len held + 1
  pub put_room : vec_capacity new ≡ vec_capacity held

module _ {T X Y Z : Type 0} (held new : Vec (Chunk T) X) (empty left : Vec (Vec T Y) Z) (count : ℕ) (x : T) (c : Chunk T) (spare : Vec T Y) (o : IsOpened held new empty left count x c spare) where
  is_spare : IsSpare spare
  is_spare = (All-pop IsSpare empty.items left.items (Some spare) o.taken o.valid.spares).1

  one : c.items.items ≡ x ∷ []
  one = o.items ∙ ap (λ xs. xs ++ x ∷ []) is_spare.none

  pub opened_items : items_of new.items ≡ items_of held.items ++ x ∷ []
  opened_items = ap (λ cs. items_of cs) o.put ∙ flat_map-append (λ (c : Chunk T). c.items.items) held.items (c ∷ []) ∙ ap (λ xs. items_of held.items ++ xs) (append-nil c.items.items ∙ one)

  pub opened_valid : free_at_end 0 held.items ≡ 0 → IsChunkList new left (count + 1)
  opened_valid full =
      let len_is : length c.items.items ≡ 1 = ap (λ xs. length xs) one in
      let k = o.valid in
      record {
        chunks = subst (AreChunks 0) (sym o.put) (joined 0 (length (items_of held.items)) held.items (c ∷ []) (omega arith) k.chunks (record { start = o.start ∙ k.len; some = omega (arith, len_is); most = omega (arith, len_is); room = omega (arith, o.room, is_spare.room) }, tt));
        dense = subst (AreDense 0) (sym o.put) (dense_joined 0 held.items (c ∷ []) k.dense (omega (arith, full, len_is), tt));
        spares = (All-pop IsSpare empty.items left.items (Some spare) o.taken k.spares).0;
        chunk_places = omega (arith, k.chunk_places, o.put_len, o.put_room, o.taken_len);
        spare_places = omega (arith, k.spare_places, o.put_len, o.taken_room, o.taken_len);
        few = omega (arith, k.few, o.put_len, o.taken_len);
        len = omega (arith, k.len, ap (λ xs. length xs) opened_items, length-append (items_of held.items) (x ∷ []));
      }

  pub opened_room : free_at_end 0 held.items ≡ 0 → free_at_end 0 new.items + CHUNK * vec_len left + 1 ≡ free_at_end 0 held.items + CHUNK * vec_len empty
  opened_room none =
      let len_is : length c.items.items ≡ 1 = ap (λ xs. length xs) one in
      omega (arith, none, len_is, o.taken_len, ap (free_at_end 0) o.put ∙ free_append 0 held.items (c ∷ []))

-- A chunk of one item became a spare.
pub record IsClosed {T X Z : Type 0} (held new : Vec (Chunk T) X) (empty more : Vec (Vec T Global) Z) (count index at : ℕ) (d : Chunk T) (x : T) (taken spare : Vec T Global) : Type 0 where
  pub valid : IsChunkList held empty count
  pub place : IsInChunk held.items index at
  pub single : length (get_or held.items at d).items.items ≤ 1
  pub items : taken ≡ (get_or held.items at d).items
  pub put : new.items ≡ take at held.items ++ map with_one_less (drop (at + 1) held.items)
  pub put_len : vec_len new + 1 ≡ vec_len held
  pub put_room : vec_capacity new ≡ vec_capacity held
  pub last : taken.items ≡ spare.items ++ x ∷ []
  pub last_room : vec_capacity spare ≡ vec_capacity taken
  pub back : more.items ≡ empty.items ++ spare ∷ []
  pub back_len : vec_len more ≡ vec_len empty + 1
  pub back_room : vec_capacity more ≡ vec_capacity empty

module _ {T X Z : Type 0} (held new : Vec (Chunk T) X) (empty more : Vec (Vec T Global) Z) (count index at : ℕ) (d : Chunk T) (x : T) (taken spare : Vec T Global) (o : IsClosed held new empty more count index at d x taken spare) where
  here : IsChunk (length (items_of (take at held.items))) (get_or held.items at d)
  here = chunk_is held.items at d o.place.within o.valid.chunks

  whole : (get_or held.items at d).items.items ≡ spare.items ++ x ∷ []
  whole = sym (ap (λ v. v.items) o.items) ∙ o.last

  none : spare.items ≡ []
  none = nil_from_length spare.items (omega (arith, o.single, ap (λ xs. length xs) whole, length-append spare.items (x ∷ [])))

  single : (get_or held.items at d).items.items ≡ x ∷ []
  single = whole ∙ ap (λ xs. xs ++ x ∷ []) none

  first : index - length (items_of (take at held.items)) ≡ 0
  first = omega (arith, here.start, o.place.start d, o.place.end d, o.single)

  pub closed_value : x ≡ get_or (items_of held.items) index x
  closed_value =
      let at_first : index - (get_or held.items at d).start ≡ 0 = omega (arith, here.start, first) in
      get_or_in held.items index at d o.valid.chunks o.place x (sym (ap (λ xs. get_or xs (index - (get_or held.items at d).start) x) single ∙ ap (λ k. get_or (x ∷ []) k x) at_first))

  pub closed_items : items_of new.items ≡ remove (items_of held.items) index
  closed_items =
      let front = items_of (take at held.items) in
      let tail = items_of (drop (suc at) held.items) in
      let old : items_of held.items ≡ front ++ ((x ∷ []) ++ tail) = items_around held.items at d o.place.within ∙ ap (λ xs. front ++ (xs ++ tail)) single in
      let gone : remove (front ++ ((x ∷ []) ++ tail)) index ≡ front ++ tail = remove_between front (x ∷ []) tail index (omega (arith, here.start, o.place.start d)) (omega (arith, here.start, o.place.end d, o.single)) ∙ ap (λ k. front ++ (remove (x ∷ []) k ++ tail)) first in
      ap (λ cs. items_of cs) o.put ∙ flat_map-append (λ (c : Chunk T). c.items.items) (take at held.items) (map with_one_less (drop (at + 1) held.items)) ∙ ap (λ xs. front ++ xs) (down_items (drop (at + 1) held.items)) ∙ ap (λ k. front ++ items_of (drop k held.items)) (add-one at) ∙ sym (ap (λ xs. remove xs index) old ∙ gone)

  pub closed_valid : IsChunkList new more (count - 1)
  closed_valid =
      let k = o.valid in
      let tail : AreChunks (length (items_of (take at held.items)) + length (get_or held.items at d).items.items) (drop (at + 1) held.items) = subst (λ j. AreChunks (length (items_of (take at held.items)) + length (get_or held.items at d).items.items) (drop j held.items)) (sym (add-one at)) (chunks_from_place held.items at d o.place.within k.chunks).1 in
      let len_is : length (get_or held.items at d).items.items ≡ 1 = ap (λ xs. length xs) single in
      let from = dense_from held.items at d o.place.within k.dense in
      let within : index < length (items_of held.items) = omega (arith, here.start, o.place.end d, ap (λ xs. length xs) (items_around held.items at d o.place.within), length-append (items_of (take at held.items)) ((get_or held.items at d).items.items ++ items_of (drop (suc at) held.items)), length-append (get_or held.items at d).items.items (items_of (drop (suc at) held.items))) in
      record {
        chunks = subst (AreChunks 0) (sym o.put) (joined 0 (length (items_of (take at held.items))) (take at held.items) (map with_one_less (drop (at + 1) held.items)) (omega arith) (chunks_before_place held.items at o.place.within k.chunks) (down_chunks (length (items_of (take at held.items))) _ (drop (at + 1) held.items) (omega (arith, len_is)) tail));
        dense = subst (AreDense 0) (sym o.put) (dense_joined 0 (take at held.items) (map with_one_less (drop (at + 1) held.items)) (dense_before held.items at d o.place.within k.dense) (dense_down _ (drop (at + 1) held.items) (dense_with_fewer_free _ _ (drop (at + 1) held.items) (omega (arith, from.0, len_is)) (subst (λ j. AreDense (CHUNK - length (get_or held.items at d).items.items) (drop j held.items)) (sym (add-one at)) from.1))));
        spares = subst (λ vs. (i : ℕ) (v : Vec T Global) → i < length vs → IsSpare (get_or vs i v)) (sym o.back) (All-push IsSpare empty.items spare k.spares (record { none = none; room = omega (arith, o.last_room, ap (λ v. vec_capacity v) o.items, here.room) }));
        chunk_places = omega (arith, k.chunk_places, o.put_len, o.put_room, o.back_len);
        spare_places = omega (arith, k.spare_places, o.put_len, o.back_room, o.back_len);
        few = omega (arith, k.few, o.put_len, o.back_len);
        len = omega (arith, k.len, ap (λ xs. length xs) closed_items, length-remove (items_of held.items) index within);
      }

  pub closed_room : free_at_end 0 held.items + CHUNK * vec_len empty ≤ free_at_end 0 new.items + CHUNK * vec_len more
  closed_room = omega (arith, o.back_len, free_at_most_chunk 0 held.items (omega arith))

-- The chunks were moved to another vector, with other spares.
pub record IsMoved {T X Y Z U E : Type 0} (held places new : Vec (Chunk T) X) (empty : Vec (Vec T Y) Z) (spares : Vec (Vec T Y) Z) (count : ℕ) (r : Result U E) : Type 0 where
  pub valid : IsChunkList held empty count
  pub ready : IsReady places spares
  pub reached : length (items_of held.items) ≤ most_items (vec_capacity places) (vec_len spares)
  pub succeeds : vec_len places + vec_len held ≤ vec_capacity places → IsOk r
  pub put : new.items ≡ (if is_ok r then places.items ++ held.items else places.items)
  pub put_room : vec_capacity places ≤ vec_capacity new

module _ {T X Y Z U E : Type 0} (held places new : Vec (Chunk T) X) (empty : Vec (Vec T Y) Z) (spares : Vec (Vec T Y) Z) (count : ℕ) (r : Result U E) (m : IsMoved held places new empty spares count r) where
  -- The vector has a place for each chunk and spare.
  few : vec_len held + vec_len spares ≤ vec_capacity places
  few = omega (arith, m.reached, count_of_dense 0 0 held.items (omega arith) m.valid.chunks m.valid.dense, held.ok.0, m.ready.chunk_places, few_chunks 0 held.items m.valid.chunks)

  same : new.items ≡ held.items
  same =
      let none : vec_len places ≡ 0 = omega (arith, places.ok.0, ap (λ cs. length cs) m.ready.none) in
      on_ok r new.items _ _ (m.succeeds (omega (arith, few, none))) m.put ∙ ap (λ cs. cs ++ held.items) m.ready.none

  pub moved_items : items_of new.items ≡ items_of held.items
  moved_items = ap (λ cs. items_of cs) same

  pub moved_valid : IsChunkList new spares count
  moved_valid =
      let len_is : vec_len new ≡ vec_len held = omega (arith, held.ok.0, new.ok.0, ap (λ cs. length cs) same) in
      record {
        chunks = subst (AreChunks 0) (sym same) m.valid.chunks;
        dense = subst (AreDense 0) (sym same) m.valid.dense;
        spares = m.ready.spares;
        chunk_places = omega (arith, few, len_is, m.put_room);
        spare_places = omega (arith, few, len_is, m.ready.spare_places);
        few = omega (arith, few, len_is, m.ready.few);
        len = omega (arith, m.valid.len, ap (λ cs. length cs) moved_items);
      }

-- The number of items fits into a word, and so does the next number.
pub fits : {T X Y Z : Type 0} (held : Vec (Chunk T) X) (empty : Vec (Vec T Y) Z) (count : ℕ) → IsChunkList held empty count → count + 1 < 2 ^ 60
fits held empty count k = omega (arith, k.len, few_items 0 held.items k.chunks, k.few, held.ok.0)
