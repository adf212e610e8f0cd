-- The chunks after an edit in one of them.
use Rattle.std.proofs.Common.{◌≡◌, ℕ, zero, suc, ◌+◌, ◌-◌, ◌<◌, ◌≤◌, List, [], ◌∷◌, ◌++◌, length, get_or, take, drop, set, map, remove, slice_get, vec_capacity, refl, ap, sym, subst, ◌∙◌, arith, length-append}
use Rattle.std.proofs.lemmas.List.{append_assoc, append-nil, take-append-le, take-take, take_rest, drop_all, drop_at, drop-drop, drop-append-le, length-take-le, get_or_append_left, get_or-take, get_or_default, drop-set-lt, length-drop, take_more_set}
use Rattle.std.proofs.Math.Numerals.{add-one}
use Rattle.std.proofs.Math.Seq.{drop-cons}
use Rattle.std.proofs.lemmas.List.Concat.{flat_map-append}
use borrow.Rule.Slice.PartMut.{put_mid}
use Rattle.chunk_list.specs.declared.chunks.Chunk.{Chunk}
use Rattle.chunk_list.specs.declared.chunks.TheConstants.{CHUNK}
use Rattle.chunk_list.specs.Chunks.{AreChunks, IsInChunk, free_at_end, items_of, with_one_less}
use Rattle.chunk_list.proofs.FreePlaceLemmas.{free_append, free_at, free_monotone, free_last, free_set}
use Rattle.chunk_list.proofs.PlaceLemmas.{get_between, slice_get_between, remove_between, set_between}
use Rattle.chunk_list.proofs.SplitLemmas.{chunk_is, chunks_with, down_chunks, down_free, down_items, chunks_from_place, chunks_before_place, items_around, items_with, joined}

module _ {T : Type 0} (cs : List (Chunk T)) (index at : ℕ) (d : Chunk T) (h : AreChunks 0 cs) (place : IsInChunk cs index at) where
  -- The start of the chunk.
  starts : (get_or cs at d).start ≡ length (items_of (take at cs))
  starts = (chunk_is cs at d place.within h).start

  low : length (items_of (take at cs)) ≤ index
  low = omega (arith, starts, place.start d)

  high : index < length (items_of (take at cs)) + length (get_or cs at d).items.items
  high = omega (arith, starts, place.end d)

  -- The item that is looked up in the chunk is the one of the list.
  pub slice_get_in : slice_get (get_or cs at d).items.items (index - (get_or cs at d).start) ≡ slice_get (items_of cs) index
  slice_get_in = sym (ap (λ xs. slice_get xs index) (items_around cs at d place.within) ∙ slice_get_between (items_of (take at cs)) (get_or cs at d).items.items (items_of (drop (suc at) cs)) index low high ∙ ap (λ k. slice_get (get_or cs at d).items.items (index - k)) (sym starts))

  pub get_or_in : (x : T) → x ≡ get_or (get_or cs at d).items.items (index - (get_or cs at d).start) x → x ≡ get_or (items_of cs) index x
  get_or_in x e = e ∙ sym (ap (λ xs. get_or xs index x) (items_around cs at d place.within) ∙ get_between (items_of (take at cs)) (get_or cs at d).items.items (items_of (drop (suc at) cs)) index x low high ∙ ap (λ k. get_or (get_or cs at d).items.items (index - k) x) (sym starts))

  -- The items from this one to the end of the list.
  pub rest_in : drop (index - (get_or cs at d).start) (get_or cs at d).items.items ++ items_of (drop (suc at) cs) ≡ drop index (items_of cs)
  rest_in =
      let front = items_of (take at cs) in
      let middle = (get_or cs at d).items.items in
      let tail = items_of (drop (suc at) cs) in
      let k = index - (get_or cs at d).start in
      let far : index ≡ length front + k = omega (arith, starts, low) in
      sym (ap (drop index) (items_around cs at d place.within) ∙ ap (λ n. drop n (front ++ (middle ++ tail))) far ∙ sym (drop-drop k (length front) (front ++ (middle ++ tail))) ∙ ap (drop k) (drop_at front (middle ++ tail) (length front) refl) ∙ drop-append-le k middle tail (omega (arith, starts, high)))

  -- One item is replaced.
  pub set_items : (c : Chunk T) (y : T) → c.items.items ≡ set (get_or cs at d).items.items (index - (get_or cs at d).start) y → items_of (set cs at c) ≡ set (items_of cs) index y
  set_items c y e = items_with cs at c place.within ∙ ap (λ xs. items_of (take at cs) ++ (xs ++ items_of (drop (suc at) cs))) (e ∙ ap (λ k. set (get_or cs at d).items.items (index - k) y) starts) ∙ sym (ap (λ xs. set xs index y) (items_around cs at d place.within) ∙ set_between (items_of (take at cs)) (get_or cs at d).items.items (items_of (drop (suc at) cs)) index y low high)

  -- The chunk has other items, in the same number.
  pub same_chunks : (c : Chunk T) → c.start ≡ (get_or cs at d).start → length c.items.items ≡ length (get_or cs at d).items.items → vec_capacity c.items ≡ vec_capacity (get_or cs at d).items → AreChunks 0 (set cs at c)
  same_chunks c start len_is room =
      let here = chunk_is cs at d place.within h in
      chunks_with cs at d c place.within h (record { start = start ∙ starts; some = omega (arith, len_is, here.some); most = omega (arith, len_is, here.most); room = omega (arith, room, here.room) }) (subst (λ k. AreChunks (length (items_of (take at cs)) + k) (drop (suc at) cs)) (sym len_is) (chunks_from_place cs at d place.within h).1)

  pub same_free : (c : Chunk T) → length c.items.items ≡ length (get_or cs at d).items.items → free_at_end 0 (set cs at c) ≡ free_at_end 0 cs
  same_free c len_is = free_set 0 cs at c place.within ∙ ap (λ k. free_at_end (CHUNK - k) (drop (suc at) cs)) len_is ∙ sym (free_at 0 cs at d place.within)

  -- The chunk has lost an item, and the starts of the chunks after it are corrected.
  abbrev lost : Chunk T → List (Chunk T)
  lost c = take at cs ++ c ∷ map with_one_less (drop (suc at) cs)

  pub lost_items : (c : Chunk T) → c.items.items ≡ remove (get_or cs at d).items.items (index - (get_or cs at d).start) → items_of (take at cs ++ c ∷ map with_one_less (drop (suc at) cs)) ≡ remove (items_of cs) index
  lost_items c e =
      flat_map-append (λ (c : Chunk T). c.items.items) (take at cs) (c ∷ map with_one_less (drop (suc at) cs)) ∙ ap (λ xs. items_of (take at cs) ++ (c.items.items ++ xs)) (down_items (drop (suc at) cs)) ∙ ap (λ xs. items_of (take at cs) ++ (xs ++ items_of (drop (suc at) cs))) (e ∙ ap (λ k. remove (get_or cs at d).items.items (index - k)) starts) ∙ sym (ap (λ xs. remove xs index) (items_around cs at d place.within) ∙ remove_between (items_of (take at cs)) (get_or cs at d).items.items (items_of (drop (suc at) cs)) index low high)

  pub lost_chunks : (c : Chunk T) → c.start ≡ (get_or cs at d).start → length c.items.items + 1 ≡ length (get_or cs at d).items.items → 0 < length c.items.items → vec_capacity c.items ≡ vec_capacity (get_or cs at d).items → AreChunks 0 (take at cs ++ c ∷ map with_one_less (drop (suc at) cs))
  lost_chunks c start len_is some room =
      let here = chunk_is cs at d place.within h in
      joined 0 _ (take at cs) (c ∷ map with_one_less (drop (suc at) cs)) (omega arith) (chunks_before_place cs at place.within h) (record { start = start ∙ starts; some = some; most = omega (arith, len_is, here.most); room = omega (arith, room, here.room) }, down_chunks _ _ (drop (suc at) cs) (omega (arith, len_is)) (chunks_from_place cs at d place.within h).1)

  pub lost_free : (c : Chunk T) → length c.items.items + 1 ≡ length (get_or cs at d).items.items → free_at_end 0 cs ≤ free_at_end 0 (take at cs ++ c ∷ map with_one_less (drop (suc at) cs))
  lost_free c len_is =
      let old = free_at 0 cs at d place.within in
      let new = free_append 0 (take at cs) (c ∷ map with_one_less (drop (suc at) cs)) ∙ down_free (CHUNK - length c.items.items) (drop (suc at) cs) in
      omega (arith, old, new, free_monotone (CHUNK - length (get_or cs at d).items.items) (CHUNK - length c.items.items) (drop (suc at) cs) (omega (arith, len_is)))

-- The items from this one to the end, as the code reads them from the chunks.
pub items_from : {T : Type 0} (cs : List (Chunk T)) (index at : ℕ) (k : Chunk T) (xs : List T) (ys : List (Chunk T)) → AreChunks 0 cs → IsInChunk cs index at → k ≡ get_or cs at k → xs ≡ k.items.items → ys ≡ cs → take (length xs - (index - k.start)) (drop (index - k.start) xs) ++ items_of (take (length ys - (at + 1)) (drop (at + 1) ys)) ≡ drop index (items_of cs)
items_from cs index at k xs ys h place is items all =
    ap (λ zs. zs ++ items_of (take (length ys - (at + 1)) (drop (at + 1) ys))) (take_rest xs (index - k.start)) ∙ ap (λ zs. drop (index - k.start) xs ++ items_of zs) (take_rest ys (at + 1)) ∙ ap (λ zs. drop (index - k.start) zs ++ items_of (drop (at + 1) ys)) items ∙ ap (λ zs. drop (index - k.start) k.items.items ++ items_of (drop (at + 1) zs)) all ∙ ap (λ (c : Chunk _). drop (index - c.start) c.items.items ++ items_of (drop (at + 1) cs)) is ∙ ap (λ j. drop (index - (get_or cs at k).start) (get_or cs at k).items.items ++ items_of (drop j cs)) (add-one at) ∙ rest_in cs index at k h place

-- The elements after one place are mapped.
pub written_after : {X : Type 0} (f : X → X) (xs ys : List X) (i : ℕ) → i < length xs → ys ≡ map f (take (length xs - (i + 1)) (drop (i + 1) xs)) → put_mid (i + 1) (length xs - (i + 1)) xs ys ≡ take (i + 1) xs ++ map f (drop (i + 1) xs)
written_after f xs ys i inside is =
    let k = length xs - (i + 1) in
    let none : drop k (drop (i + 1) xs) ≡ [] = drop_all k (drop (i + 1) xs) (omega (arith, length-drop (i + 1) xs)) in
    ap (λ zs. take (i + 1) xs ++ (ys ++ zs)) none ∙ ap (λ zs. take (i + 1) xs ++ zs) (append-nil ys ∙ is ∙ ap (map f) (take_rest xs (i + 1)))

-- The elements after one place are mapped, and the element at that place is replaced.
pub written_with : {X : Type 0} (f : X → X) (xs : List X) (i : ℕ) (y : X) → i < length xs → take (i + 1) (set xs i y) ++ map f (drop (i + 1) (set xs i y)) ≡ take i xs ++ y ∷ map f (drop (suc i) xs)
written_with f xs i y inside =
    let front : take (i + 1) (set xs i y) ≡ take i xs ++ y ∷ [] = take_more_set xs i y inside in
    let tail : drop (i + 1) (set xs i y) ≡ drop (i + 1) xs = drop-set-lt (i + 1) xs i y (omega arith) in
    ap (λ zs. zs ++ map f (drop (i + 1) (set xs i y))) front ∙ ap (λ zs. (take i xs ++ y ∷ []) ++ map f zs) tail ∙ append_assoc (take i xs) (y ∷ []) (map f (drop (i + 1) xs)) ∙ ap (λ j. take i xs ++ y ∷ map f (drop j xs)) (add-one i)

-- The elements after one place are mapped, and the element at that place is removed.
pub written_without : {X : Type 0} (f : X → X) (xs : List X) (i : ℕ) → i < length xs → remove (take (i + 1) xs ++ map f (drop (i + 1) xs)) i ≡ take i xs ++ map f (drop (i + 1) xs)
written_without f xs i inside =
    let ys = map f (drop (i + 1) xs) in
    let front : take i (take (i + 1) xs ++ ys) ≡ take i xs = take-append-le i (take (i + 1) xs) ys (omega (arith, length-take-le (i + 1) xs (omega (arith, inside)))) ∙ take-take i (i + 1) xs (omega arith) in
    let tail : drop (suc i) (take (i + 1) xs ++ ys) ≡ ys = drop_at (take (i + 1) xs) ys (suc i) (length-take-le (i + 1) xs (omega (arith, inside)) ∙ add-one i) in
    ap (λ zs. zs ++ drop (suc i) (take (i + 1) xs ++ ys)) front ∙ ap (λ zs. take i xs ++ zs) tail

-- The element at that place.
pub written_at : {X : Type 0} (xs ys : List X) (i : ℕ) (d e : X) → i < length xs → get_or (take (i + 1) xs ++ ys) i e ≡ get_or xs i d
written_at xs ys i d e inside = get_or_append_left (take (i + 1) xs) ys e i (omega (arith, length-take-le (i + 1) xs (omega (arith, inside)))) ∙ get_or-take (i + 1) xs i e (omega arith) ∙ get_or_default xs i e d inside

-- The last chunk has one further item.
pub pushed_items : {T : Type 0} (cs : List (Chunk T)) (i : ℕ) (d c : Chunk T) (x : T) → i + 1 ≡ length cs → c.items.items ≡ (get_or cs i d).items.items ++ x ∷ [] → items_of (set cs i c) ≡ items_of cs ++ x ∷ []
pushed_items cs i d c x last e =
    let inside : i < length cs = omega (arith, last) in
    let none = drop_all (suc i) cs (omega (arith, last)) in
    let old : items_of cs ≡ items_of (take i cs) ++ (get_or cs i d).items.items = items_around cs i d inside ∙ ap (λ xs. items_of (take i cs) ++ ((get_or cs i d).items.items ++ items_of xs)) none ∙ ap (λ xs. items_of (take i cs) ++ xs) (append-nil (get_or cs i d).items.items) in
    items_with cs i c inside ∙ ap (λ xs. items_of (take i cs) ++ (c.items.items ++ items_of xs)) none ∙ ap (λ xs. items_of (take i cs) ++ xs) (append-nil c.items.items ∙ e) ∙ sym (append_assoc (items_of (take i cs)) (get_or cs i d).items.items (x ∷ [])) ∙ ap (λ xs. xs ++ x ∷ []) (sym old)

pub pushed_chunks : {T : Type 0} (cs : List (Chunk T)) (i : ℕ) (d c : Chunk T) → AreChunks 0 cs → 0 < free_at_end 0 cs → i + 1 ≡ length cs → c.start ≡ (get_or cs i d).start → length c.items.items ≡ length (get_or cs i d).items.items + 1 → vec_capacity c.items ≡ vec_capacity (get_or cs i d).items → AreChunks 0 (set cs i c)
pushed_chunks cs i d c h free last start len_is room =
    let here = chunk_is cs i d (omega (arith, last)) h in
    let places = free_last 0 cs i d last in
    chunks_with cs i d c (omega (arith, last)) h (record { start = start ∙ here.start; some = omega (arith, len_is); most = omega (arith, len_is, places, free); room = omega (arith, room, here.room) }) (subst (AreChunks _) (sym (drop_all (suc i) cs (omega (arith, last)))) tt)

pub pushed_free : {T : Type 0} (cs : List (Chunk T)) (i : ℕ) (d c : Chunk T) → 0 < free_at_end 0 cs → i + 1 ≡ length cs → length c.items.items ≡ length (get_or cs i d).items.items + 1 → free_at_end 0 (set cs i c) + 1 ≡ free_at_end 0 cs
pushed_free cs i d c free last len_is =
    let new = free_set 0 cs i c (omega (arith, last)) ∙ ap (free_at_end (CHUNK - length c.items.items)) (drop_all (suc i) cs (omega (arith, last))) in
    omega (arith, new, free, len_is, free_last 0 cs i d last)

-- A list without an element, whose predecessor was replaced.
pub set_removed : {X : Type 0} (xs : List X) (i : ℕ) (y : X) → suc i < length xs → set (remove xs (suc i)) i y ≡ take i xs ++ y ∷ drop (suc (suc i)) xs
set_removed [] i y inside = absurd (omega (arith, inside))
set_removed (x ∷ []) i y inside = absurd (omega (arith, inside))
set_removed (x ∷ z ∷ xs) zero y inside = refl
set_removed (x ∷ z ∷ xs) (suc i) y inside = ap (λ ys. x ∷ ys) (set_removed (z ∷ xs) i y (omega (arith, inside)))

module _ {T : Type 0} (cs : List (Chunk T)) (i : ℕ) (d c : Chunk T) (h : AreChunks 0 cs) (inside : suc i < length cs) (both : c.items.items ≡ (get_or cs i d).items.items ++ (get_or cs (suc i) d).items.items) where
  here : i < length cs
  here = omega (arith, inside)

  next : drop (suc i) cs ≡ get_or cs (suc i) d ∷ drop (suc (suc i)) cs
  next = drop-cons cs (suc i) d inside

  -- Two chunks have become one.
  pub both_items : items_of (take i cs ++ c ∷ drop (suc (suc i)) cs) ≡ items_of cs
  both_items =
      let front = items_of (take i cs) in
      let first = (get_or cs i d).items.items in
      let second = (get_or cs (suc i) d).items.items in
      let tail = items_of (drop (suc (suc i)) cs) in
      flat_map-append (λ (c : Chunk T). c.items.items) (take i cs) (c ∷ drop (suc (suc i)) cs) ∙ ap (λ xs. front ++ (xs ++ tail)) both ∙ ap (λ xs. front ++ xs) (append_assoc first second tail) ∙ ap (λ ks. front ++ (first ++ items_of ks)) (sym next) ∙ sym (items_around cs i d here)

  pub both_chunks : c.start ≡ (get_or cs i d).start → vec_capacity (get_or cs i d).items ≤ vec_capacity c.items → length (get_or cs i d).items.items + length (get_or cs (suc i) d).items.items ≤ CHUNK → AreChunks 0 (take i cs ++ c ∷ drop (suc (suc i)) cs)
  both_chunks start room fits =
      let n = length (items_of (take i cs)) in
      let chunk = chunk_is cs i d here h in
      let len_is : length c.items.items ≡ length (get_or cs i d).items.items + length (get_or cs (suc i) d).items.items = ap (λ xs. length xs) both ∙ length-append (get_or cs i d).items.items (get_or cs (suc i) d).items.items in
      let rest = (subst (AreChunks (n + length (get_or cs i d).items.items)) next (chunks_from_place cs i d here h).1).1 in
      let same : n + length (get_or cs i d).items.items + length (get_or cs (suc i) d).items.items ≡ n + length c.items.items = omega (arith, len_is) in
      joined 0 n (take i cs) (c ∷ drop (suc (suc i)) cs) (omega arith) (chunks_before_place cs i here h) (record { start = start ∙ chunk.start; some = omega (arith, len_is, chunk.some); most = omega (arith, len_is, fits); room = omega (arith, room, chunk.room) }, subst (λ m. AreChunks m (drop (suc (suc i)) cs)) same rest)
