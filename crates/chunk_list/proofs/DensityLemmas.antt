-- Dense chunks: two neighbours have more items than fit into one.
use Rattle.std.proofs.Common.{◌≡◌, ℕ, suc, ◌+◌, ◌-◌, ◌*◌, ◌<◌, ◌≤◌, List, [], ◌∷◌, ◌++◌, length, get_or, take, drop, set, map, ap, sym, subst, ◌∙◌, arith, length-append, inl, inr, Bool, IsTrue, ◌↔◌}
use Rattle.std.proofs.Math.Numerals.{add-one}
use Rattle.std.proofs.lemmas.Bool.{cases_lt, cases_order}
use Rattle.std.proofs.lemmas.List.{set_split, drop_all, drop_at, drop-drop, drop_more, get_or_at, length-take-le, take-append-drop, take-take, take_at, take_more}
use Rattle.chunk_list.specs.Chunks.{AreChunks, AreDense, AreNearlyDense, FillOneChunk, FitOneChunk, free_at_end, items_of, with_one_less}
use Rattle.chunk_list.specs.declared.chunks.Chunk.{Chunk}
use Rattle.chunk_list.specs.declared.chunks.TheConstants.{CHUNK}
use Rattle.chunk_list.proofs.FreePlaceLemmas.{free_append}
use Rattle.chunk_list.proofs.SplitLemmas.{chunk_is, parts_around}

-- The chunks before a place, and those after it, are dense.
pub dense_front : {T : Type 0} (free : ℕ) (xs ys : List (Chunk T)) → AreDense free (xs ++ ys) → AreDense free xs
dense_front free [] ys h = tt
dense_front free (c ∷ xs) ys h = (h.0, dense_front (CHUNK - length c.items.items) xs ys h.1)

pub dense_back : {T : Type 0} (free : ℕ) (xs ys : List (Chunk T)) → AreDense free (xs ++ ys) → AreDense (free_at_end free xs) ys
dense_back free [] ys h = h
dense_back free (c ∷ xs) ys h = dense_back (CHUNK - length c.items.items) xs ys h.1

pub dense_joined : {T : Type 0} (free : ℕ) (xs ys : List (Chunk T)) → AreDense free xs → AreDense (free_at_end free xs) ys → AreDense free (xs ++ ys)
dense_joined free [] ys front back = back
dense_joined free (c ∷ xs) ys front back = (front.0, dense_joined (CHUNK - length c.items.items) xs ys front.1 back)

-- Chunks are dense after fewer free places too.
pub dense_with_fewer_free : {T : Type 0} (few many : ℕ) (cs : List (Chunk T)) → few ≤ many → AreDense many cs → AreDense few cs
dense_with_fewer_free few many [] h d = tt
dense_with_fewer_free few many (c ∷ cs) h d = (omega (arith, h, d.0), d.1)

pub dense_down : {T : Type 0} (free : ℕ) (cs : List (Chunk T)) → AreDense free cs → AreDense free (map with_one_less cs)
dense_down free [] h = tt
dense_down free (c ∷ cs) h = (h.0, dense_down (CHUNK - length c.items.items) cs h.1)

-- The number of dense chunks is limited by that of their items.
pub count_of_dense : {T : Type 0} (free before : ℕ) (cs : List (Chunk T)) → free ≤ CHUNK → AreChunks before cs → AreDense free cs → CHUNK * length cs + free ≤ 2 * length (items_of cs) + CHUNK
count_of_dense free before [] h k d = omega (arith, h)
count_of_dense free before (c ∷ cs) h k d = omega (arith, k.0.most, d.0, count_of_dense (CHUNK - length c.items.items) (before + length c.items.items) cs (omega arith) k.1 d.1, length-append c.items.items (items_of cs))

-- Dense chunks, divided at one of them.
module _ {T : Type 0} (cs : List (Chunk T)) (i : ℕ) (d : Chunk T) (inside : i < length cs) (h : AreDense 0 cs) where
  pub dense_before : AreDense 0 (take i cs)
  dense_before = dense_front 0 (take i cs) (drop i cs) (subst (AreDense 0) (sym (take-append-drop i cs)) h)

  pub dense_from : AreDense (free_at_end 0 (take i cs)) (get_or cs i d ∷ drop (suc i) cs)
  dense_from = dense_back 0 (take i cs) (get_or cs i d ∷ drop (suc i) cs) (subst (AreDense 0) (parts_around cs i d inside) h)

  -- A chunk is replaced by one with at least as many items.
  pub dense_with : (c : Chunk T) → length (get_or cs i d).items.items ≤ length c.items.items → AreDense 0 (set cs i c)
  dense_with c more = subst (AreDense 0) (sym (set_split cs i c inside)) (dense_joined 0 (take i cs) (c ∷ drop (suc i) cs) dense_before (omega (arith, more, dense_from.0), dense_with_fewer_free _ _ (drop (suc i) cs) (omega (arith, more)) dense_from.1))

-- The free places of the chunk at a place.
free_through : {T : Type 0} (cs : List (Chunk T)) (i : ℕ) (d : Chunk T) → i < length cs → free_at_end 0 (take (i + 1) cs) ≡ CHUNK - length (get_or cs i d).items.items
free_through cs i d inside = ap (free_at_end 0) (take_more cs i d inside) ∙ free_append 0 (take i cs) (get_or cs i d ∷ [])

-- One chunk between others has lost an item.
pub loose_between : {T : Type 0} (front : List (Chunk T)) (c : Chunk T) (tail : List (Chunk T)) (at : ℕ) → length front ≡ at → AreDense 0 front → free_at_end 0 front ≤ length c.items.items → AreDense (CHUNK - (length c.items.items + 1)) tail → AreNearlyDense (front ++ c ∷ tail) at
loose_between front c tail at many before here after =
    let front_is : take at (front ++ c ∷ tail) ≡ front = take_at front (c ∷ tail) at many in
    let tail_is : drop (at + 1) (front ++ c ∷ tail) ≡ tail = sym (drop-drop 1 at (front ++ c ∷ tail)) ∙ ap (drop 1) (drop_at front (c ∷ tail) at many) in
    record {
      front = subst (AreDense 0) (sym front_is) before;
      here = λ d. omega (arith, here, ap (free_at_end 0) front_is, ap (λ (k : Chunk _). length k.items.items) (get_or_at front c tail d at many));
      tail = λ d. subst (λ k. AreDense (CHUNK - (length k.items.items + 1)) (drop (at + 1) (front ++ c ∷ tail))) (sym (get_or_at front c tail d at many)) (subst (AreDense (CHUNK - (length c.items.items + 1))) (sym tail_is) after);
    }

-- A chunk has lost an item, and the starts of the chunks after it are corrected.
pub dense_lost : {T : Type 0} (cs : List (Chunk T)) (i : ℕ) (d : Chunk T) → i < length cs → AreDense 0 cs → (c : Chunk T) → length c.items.items + 1 ≡ length (get_or cs i d).items.items → AreNearlyDense (take i cs ++ c ∷ map with_one_less (drop (suc i) cs)) i
dense_lost cs i d inside h c many =
    let from = dense_from cs i d inside h in
    loose_between (take i cs) c (map with_one_less (drop (suc i) cs)) i (length-take-le i cs (omega (arith, inside))) (dense_before cs i d inside h) (omega (arith, many, from.0)) (dense_down _ (drop (suc i) cs) (subst (λ n. AreDense (CHUNK - n) (drop (suc i) cs)) (sym many) from.1))

-- The chunks if the one that has lost an item is to be joined with the next or the previous one.
filled_next : {T : Type 0} (d : Chunk T) (cs : List (Chunk T)) (at : ℕ) → AreNearlyDense cs at → at + 1 < length cs → ((e : Chunk T) → length (get_or cs at e).items.items + length (get_or cs (at + 1) e).items.items ≤ CHUNK) → FillOneChunk cs at
filled_next d cs at loose inside fits = record {
  front = loose.front;
  full = λ e. omega (arith, fits e, (next e).0);
  tail = subst (λ j. AreDense 0 (drop j cs)) far (dense_with_fewer_free 0 _ (drop (at + 1 + 1) cs) (omega arith) (next d).1);
}
  where
    far : at + 1 + 1 ≡ at + 2
    far = omega arith

    next : (e : _) → AreDense (CHUNK - (length (get_or cs at e).items.items + 1)) (get_or cs (at + 1) e ∷ drop (at + 1 + 1) cs)
    next e = subst (AreDense _) (drop_more cs (at + 1) e inside) (loose.tail e)

pub fill_next : {T : Type 0} (cs : List (Chunk T)) (at : ℕ) → AreNearlyDense cs at → at + 1 < length cs → ((e : Chunk T) → length (get_or cs at e).items.items + length (get_or cs (at + 1) e).items.items ≤ CHUNK) → FillOneChunk cs at
fill_next [] at loose inside fits = absurd (omega (arith, inside))
fill_next (c ∷ cs) at loose inside fits = filled_next c (c ∷ cs) at loose inside fits

filled_front : {T : Type 0} (d : Chunk T) (cs : List (Chunk T)) (i : ℕ) → AreNearlyDense cs (i + 1) → i + 1 < length cs → ((e : Chunk T) → length (get_or cs i e).items.items + length (get_or cs (i + 1) e).items.items ≤ CHUNK) → FillOneChunk cs i
filled_front d cs i loose inside fits =
    let far : i + 1 + 1 ≡ i + 2 = omega arith in
    let front : take i (take (i + 1) cs) ≡ take i cs = take-take i (i + 1) cs (omega arith) in
    record {
      front = subst (AreDense 0) front (dense_front 0 (take i (take (i + 1) cs)) (drop i (take (i + 1) cs)) (subst (AreDense 0) (sym (take-append-drop i (take (i + 1) cs))) loose.front));
      full = λ e. omega (arith, fits e, loose.here e, free_through cs i e (omega (arith, inside)));
      tail = subst (λ j. AreDense 0 (drop j cs)) far (dense_with_fewer_free 0 _ (drop (i + 1 + 1) cs) (omega arith) (loose.tail d));
    }

pub fill_front : {T : Type 0} (cs : List (Chunk T)) (at : ℕ) → AreNearlyDense cs at → 0 < at → at < length cs → ((e : Chunk T) → length (get_or cs (at - 1) e).items.items + length (get_or cs at e).items.items ≤ CHUNK) → FillOneChunk cs (at - 1)
fill_front [] at loose some inside fits = absurd (omega (arith, inside))
fill_front (c ∷ cs) at loose some inside fits =
    let back : at ≡ at - 1 + 1 = omega (arith, some) in
    filled_front c (c ∷ cs) (at - 1) (subst (AreNearlyDense (c ∷ cs)) back loose) (omega (arith, some, inside)) (λ e. subst (λ j. length (get_or (c ∷ cs) (at - 1) e).items.items + length (get_or (c ∷ cs) j e).items.items ≤ CHUNK) back (fits e))

-- The chunks are dense if the one that has lost an item can be joined with neither neighbour.
module _ {T : Type 0} (d : Chunk T) (cs : List (Chunk T)) (at : ℕ) (h : AreChunks 0 cs) (loose : AreNearlyDense cs at) (inside : at < length cs) (alone : 0 < at → length (get_or cs (at - 1) d).items.items + length (get_or cs at d).items.items ≤ CHUNK → ⊥) (apart : at + 1 < length cs → length (get_or cs at d).items.items + length (get_or cs (at + 1) d).items.items ≤ CHUNK → ⊥) where
  more_here : free_at_end 0 (take at cs) < length (get_or cs at d).items.items
  more_here = elim (cases_order at 0) [
    | inl first ↦ (let none : free_at_end 0 (take at cs) ≡ 0 = ap (λ j. free_at_end 0 (take j cs)) first in omega (arith, none, (chunk_is cs at d inside h).some))
    | inr (inl below) ↦ absurd (omega (arith, below))
    | inr (inr above) ↦ free_before above
  ]
    where
      free_before : 0 < at → free_at_end 0 (take at cs) < length (get_or cs at d).items.items
      free_before above =
          let back : at - 1 + 1 ≡ at = omega (arith, above) in
          let places : free_at_end 0 (take at cs) ≡ CHUNK - length (get_or cs (at - 1) d).items.items = subst (λ j. free_at_end 0 (take j cs) ≡ CHUNK - length (get_or cs (at - 1) d).items.items) back (free_through cs (at - 1) d (omega (arith, above, inside))) in
          elim (cases_lt CHUNK (length (get_or cs (at - 1) d).items.items + length (get_or cs at d).items.items)) [ inl more ↦ omega (arith, places, more, (chunk_is cs (at - 1) d (omega (arith, above, inside)) h).most) | inr fits ↦ absurd (alone above fits) ]

  dense_next : AreDense (CHUNK - length (get_or cs at d).items.items) (drop (at + 1) cs)
  dense_next = elim (cases_lt (at + 1) (length cs)) [
    | inl more ↦ with_next more
    | inr last ↦ subst (AreDense _) (sym (drop_all (at + 1) cs last)) tt
  ]
    where
      with_next : at + 1 < length cs → AreDense (CHUNK - length (get_or cs at d).items.items) (drop (at + 1) cs)
      with_next more =
          let next : AreDense (CHUNK - (length (get_or cs at d).items.items + 1)) (get_or cs (at + 1) d ∷ drop (at + 1 + 1) cs) = subst (AreDense _) (drop_more cs (at + 1) d more) (loose.tail d) in
          subst (AreDense _) (sym (drop_more cs (at + 1) d more)) (elim (cases_lt CHUNK (length (get_or cs at d).items.items + length (get_or cs (at + 1) d).items.items)) [ inl far ↦ (omega (arith, far, (chunk_is cs at d inside h).most), next.1) | inr fits ↦ absurd (apart more fits) ])

  densely : AreDense 0 cs
  densely = subst (AreDense 0) (sym (parts_around cs at d inside)) (dense_joined 0 (take at cs) (get_or cs at d ∷ drop (suc at) cs) loose.front (more_here, subst (λ j. AreDense (CHUNK - length (get_or cs at d).items.items) (drop j cs)) (add-one at) dense_next))

pub dense_if_unjoined : {T : Type 0} (cs : List (Chunk T)) (at : ℕ) → AreChunks 0 cs → AreNearlyDense cs at → at < length cs → ((d : Chunk T) → 0 < at → length (get_or cs (at - 1) d).items.items + length (get_or cs at d).items.items ≤ CHUNK → ⊥) → ((d : Chunk T) → at + 1 < length cs → length (get_or cs at d).items.items + length (get_or cs (at + 1) d).items.items ≤ CHUNK → ⊥) → AreDense 0 cs
dense_if_unjoined [] at h loose inside alone apart = tt
dense_if_unjoined (c ∷ cs) at h loose inside alone apart = densely c (c ∷ cs) at h loose inside (alone c) (apart c)

-- These facts, given the results of the code's tests of two neighbours.
pub fill_next_by_test : {T : Type 0} (cs xs : List (Chunk T)) (at : ℕ) (r : Bool) → xs ≡ cs → AreNearlyDense cs at → (IsTrue r → (0 < at + 1) × (at + 1 < length xs)) → ((d : Chunk T) → IsTrue r ↔ FitOneChunk xs (at + 1) d) → IsTrue r → FillOneChunk cs at
fill_next_by_test cs xs at r is loose both test_is t =
    let back : at + 1 - 1 ≡ at = omega arith in
    fill_next cs at loose (subst (λ ys. at + 1 < length ys) is (both t).1) (λ e. subst (λ j. length (get_or cs j e).items.items + length (get_or cs (at + 1) e).items.items ≤ CHUNK) back (subst (λ ys. FitOneChunk ys (at + 1) e) is ((test_is e).0 t)).2)

pub fill_front_by_test : {T : Type 0} (cs xs : List (Chunk T)) (at : ℕ) (r : Bool) → xs ≡ cs → AreNearlyDense cs at → (IsTrue r → (0 < at) × (at < length xs)) → ((d : Chunk T) → IsTrue r ↔ FitOneChunk xs at d) → IsTrue r → FillOneChunk cs (at - 1)
fill_front_by_test cs xs at r is loose both test_is t = fill_front cs at loose (both t).0 (subst (λ ys. at < length ys) is (both t).1) (λ e. (subst (λ ys. FitOneChunk ys at e) is ((test_is e).0 t)).2)

pub dense_by_tests : {T : Type 0} (cs xs ys : List (Chunk T)) (at : ℕ) (r s : Bool) → xs ≡ cs → ys ≡ cs → AreChunks 0 cs → AreNearlyDense cs at → at < length cs → ((d : Chunk T) → IsTrue r ↔ FitOneChunk xs (at + 1) d) → (IsTrue r → ⊥) → ((d : Chunk T) → IsTrue s ↔ FitOneChunk ys at d) → (IsTrue s → ⊥) → AreDense 0 cs
dense_by_tests cs xs ys at r s is same h loose inside next apart front alone =
    let back : at + 1 - 1 ≡ at = omega arith in
    dense_if_unjoined cs at h loose inside
    (λ d above fits. alone ((front d).1 (subst (λ zs. FitOneChunk zs at d) (sym same) (above, inside, fits))))
    (λ d more fits. apart ((next d).1 (subst (λ zs. FitOneChunk zs (at + 1) d) (sym is) (omega arith, more, subst (λ j. length (get_or cs j d).items.items + length (get_or cs (at + 1) d).items.items ≤ CHUNK) (sym back) fits))))
