-- The items after an edit in one piece.
use borrow.Rule.Slice.PartMut.{put_mid}
use Rattle.std.specs.Result.{is_err, is_ok}
use Rattle.std.proofs.Common.{Result, Ok, Err, true, false, if◌then◌else◌, ◌≡◌, ℕ, zero, suc, ◌+◌, ◌-◌, ◌<◌, ◌≤◌, List, [], ◌∷◌, ◌++◌, Some, length, get_or, take, drop, set, map, remove, refl, ap, sym, subst, ◌∙◌, arith, length-append, length-drop, inl, inr}
use Rattle.std.specs.List.{insert, slice_get}
use Rattle.std.proofs.lemmas.List.{append_assoc, append-nil, set_split, length-take, drop-drop, drop_all, take_rest}
use Rattle.std.proofs.lemmas.List.Concat.{flat_map-append}
use Rattle.std.proofs.Math.Seq.{take-add}
use Rattle.mailbox_rows.specs.declared.pieces.Piece.{Piece}
use Rattle.mailbox_rows.specs.declared.pieces.PieceSource.{PieceSource}
use Rattle.mailbox_rows.specs.declared.pieces.PieceSource.TheVariants.{Base, Own}
use Rattle.mailbox_rows.specs.Pieces.{ArePieces, IsAlone, IsPiece, IsInPiece, items_of, with_one_less, piece_items, source_items}
use Rattle.mailbox_rows.proofs.PlaceLemmas.{slice_get_between, remove_between, set_between}
use Rattle.mailbox_rows.proofs.SplitLemmas.{down_items, down_pieces, pieces_from_place, pieces_before_place, items_around, items_with, joined, piece_is}

-- Two pieces in the place of one, as an insertion and a change leave them.
pub two_for_one : {X : Type 0} (xs : List X) (i : ℕ) (x y : X) → i < length xs → set (insert xs (suc i) y) i x ≡ take i xs ++ x ∷ y ∷ drop (suc i) xs
two_for_one [] i x y h = absurd (omega (arith, h))
two_for_one (z ∷ xs) zero x y h = refl
two_for_one (z ∷ xs) (suc i) x y h = ap (λ ys. z ∷ ys) (two_for_one xs i x y (omega (arith, h)))

pub first_of_two : {X : Type 0} (xs : List X) (i : ℕ) (x y d : X) → i < length xs → get_or (take i xs ++ x ∷ y ∷ drop (suc i) xs) i d ≡ x
first_of_two [] i x y d h = absurd (omega (arith, h))
first_of_two (z ∷ xs) zero x y d h = refl
first_of_two (z ∷ xs) (suc i) x y d h = first_of_two xs i x y d (omega (arith, h))

pub second_of_two : {X : Type 0} (xs : List X) (i : ℕ) (x y d : X) → i < length xs → get_or (take i xs ++ x ∷ y ∷ drop (suc i) xs) (suc i) d ≡ y
second_of_two [] i x y d h = absurd (omega (arith, h))
second_of_two (z ∷ xs) zero x y d h = refl
second_of_two (z ∷ xs) (suc i) x y d h = second_of_two xs i x y d (omega (arith, h))

-- The state after a call that may fail, if it didn't fail.
pub given_ok : {A B X : Type 0} (r : Result A B) (x a b : X) → is_err r ≡ false → x ≡ (if is_ok r then a else b) → x ≡ a
given_ok (Ok v) x a b e h = h
given_ok (Err v) x a b e h = absurd (cc e)

-- The items after a place are changed, and the item at it is removed.
pub written_without : {X : Type 0} (f : X → X) (xs : List X) (i : ℕ) → i < length xs → remove (take (suc i) xs ++ map f (drop (suc i) xs)) i ≡ take i xs ++ map f (drop (suc i) xs)
written_without f [] i h = absurd (omega (arith, h))
written_without f (x ∷ xs) zero h = refl
written_without f (x ∷ xs) (suc i) h = ap (λ ys. x ∷ ys) (written_without f xs i (omega (arith, h)))

pub written_after : {X : Type 0} (f : X → X) (xs ys : List X) (i : ℕ) → i < length xs → ys ≡ map f (take (length xs - (i + 1)) (drop (i + 1) xs)) → put_mid (i + 1) (length xs - (i + 1)) xs ys ≡ take (i + 1) xs ++ map f (drop (i + 1) xs)
written_after f xs ys i inside is =
    let k = length xs - (i + 1) in
    let none : drop k (drop (i + 1) xs) ≡ [] = drop_all k (drop (i + 1) xs) (omega (arith, length-drop (i + 1) xs)) in
    ap (λ zs. take (i + 1) xs ++ (ys ++ zs)) none ∙ ap (λ zs. take (i + 1) xs ++ zs) (append-nil ys ∙ is ∙ ap (map f) (take_rest xs (i + 1)))

-- One of the first `n` items from a place on.
pub slice_get_take : {X : Type 0} (n : ℕ) (xs : List X) (i : ℕ) → i < n → slice_get (take n xs) i ≡ slice_get xs i
slice_get_take zero xs i h = absurd (omega (arith, h))
slice_get_take (suc n) [] i h = refl
slice_get_take (suc n) (x ∷ xs) zero h = refl
slice_get_take (suc n) (x ∷ xs) (suc i) h = slice_get_take n xs i (omega (arith, h))

pub slice_get_drop : {X : Type 0} (n : ℕ) (xs : List X) (i : ℕ) → slice_get (drop n xs) i ≡ slice_get xs (n + i)
slice_get_drop zero xs i = let e : i ≡ 0 + i = omega arith in ap (slice_get xs) e
slice_get_drop (suc n) [] i = refl
slice_get_drop (suc n) (x ∷ xs) i = let e : suc (n + i) ≡ suc n + i = omega arith in slice_get_drop n xs i ∙ ap (slice_get (x ∷ xs)) e

-- The items that a piece takes from a list are within the list.
pub base_piece_within : {T : Type 0} (b : List T) (from len : ℕ) → 0 < len → length (take len (drop from b)) ≡ len → from + len ≤ length b
base_piece_within b from len some item_count = omega (arith, some, item_count, length-take len (drop from b), length-drop from b)

-- A piece of the list below, cut in two.
pub base_parts : {T : Type 0} (b : List T) (from len count : ℕ) → count < len → take count (drop from b) ++ take (len - count) (drop (from + count) b) ≡ take len (drop from b)
base_parts b from len count h =
    let e : count + (len - count) ≡ len = omega (arith, h) in
    ap (λ zs. take count (drop from b) ++ take (len - count) zs) (sym (drop-drop count from b)) ∙ sym (take-add count (len - count) (drop from b)) ∙ ap (λ k. take k (drop from b)) e

module _ {T : Type 0} (b : List T) (ps : List (Piece T)) (index at : ℕ) (d : Piece T) (h : ArePieces b 0 ps) (place : IsInPiece ps index at) where
  starts : (get_or ps at d).start ≡ length (items_of b (take at ps))
  starts = (piece_is b ps at d place.within h).start

  low : length (items_of b (take at ps)) ≤ index
  low = omega (arith, starts, place.start d)

  high : index < length (items_of b (take at ps)) + length (piece_items b (get_or ps at d))
  high = omega (arith, starts, place.end d, (piece_is b ps at d place.within h).item_count)

  -- The item at `index` is the one in its piece.
  pub slice_get_in : slice_get (piece_items b (get_or ps at d)) (index - (get_or ps at d).start) ≡ slice_get (items_of b ps) index
  slice_get_in = sym (ap (λ xs. slice_get xs index) (items_around b ps at d place.within) ∙ slice_get_between (items_of b (take at ps)) (piece_items b (get_or ps at d)) (items_of b (drop (suc at) ps)) index low high ∙ ap (λ k. slice_get (piece_items b (get_or ps at d)) (index - k)) (sym starts))

-- If the item at `index` is in a piece of the list below, it is read from that list.
pub slice_get_base : {T : Type 0} (b : List T) (ps : List (Piece T)) (index at : ℕ) (p : Piece T) (from : ℕ) → ArePieces b 0 ps → IsInPiece ps index at → p ≡ get_or ps at p → p.source ≡ Base from → slice_get (drop from b) (index - p.start) ≡ slice_get (items_of b ps) index
slice_get_base b ps index at p from h place is source =
    let inside : index - p.start < p.len = subst (λ q. index - q.start < q.len) (sym is) (let low = place.start p in let end = place.end p in omega (arith, low, end)) in
    sym (slice_get_take p.len (drop from b) (index - p.start) inside) ∙ ap (λ s. slice_get (source_items b p.len s) (index - p.start)) (sym source) ∙ ap (λ q. slice_get (piece_items b q) (index - q.start)) is ∙ slice_get_in b ps index at p h place

pub slice_get_own : {T : Type 0} (b : List T) (ps : List (Piece T)) (index at : ℕ) (p : Piece T) (x : T) → ArePieces b 0 ps → IsInPiece ps index at → p ≡ get_or ps at p → p.source ≡ Own x → Some x ≡ slice_get (items_of b ps) index
slice_get_own b ps index at p x h place is source =
    let whole = piece_is b ps at p place.within h in
    let inside : index - p.start < length (piece_items b p) = subst (λ q. index - q.start < length (piece_items b q)) (sym is) (let low = place.start p in let end = place.end p in omega (arith, low, end, whole.item_count)) in
    let one : length (piece_items b p) ≡ 1 = ap (λ s. length (source_items b p.len s)) source in
    let none : index - p.start ≡ 0 = omega (arith, inside, one) in
    sym (ap (λ k. slice_get (piece_items b p) k) none ∙ ap (λ s. slice_get (source_items b p.len s) 0) source) ∙ ap (λ q. slice_get (piece_items b q) (index - q.start)) is ∙ slice_get_in b ps index at p h place

-- The place of a piece's item in the list below.
pub base_place : {T : Type 0} (b : List T) (ps : List (Piece T)) (index at : ℕ) (p : Piece T) (from : ℕ) → ArePieces b 0 ps → IsInPiece ps index at → p ≡ get_or ps at p → p.source ≡ Base from → from + (index - p.start) < length b
base_place b ps index at p from h place is source =
    let whole : IsPiece b (length (items_of b (take at ps))) p = subst (λ q. IsPiece b (length (items_of b (take at ps))) q) (sym is) (piece_is b ps at p place.within h) in
    let inside : index - p.start < p.len = subst (λ q. index - q.start < q.len) (sym is) (let low = place.start p in let end = place.end p in omega (arith, low, end)) in
    let item_count : length (take p.len (drop from b)) ≡ p.len = ap (λ s. length (source_items b p.len s)) (sym source) ∙ whole.item_count in
    omega (arith, inside, base_piece_within b from p.len whole.some item_count)

-- One piece has become two.
module _ {T : Type 0} (b : List T) (ps : List (Piece T)) (at : ℕ) (p x y : Piece T) (h : ArePieces b 0 ps) (inside : at < length ps) (is : p ≡ get_or ps at p) (both : piece_items b x ++ piece_items b y ≡ piece_items b p) where
  pub two_items : items_of b (take at ps ++ x ∷ y ∷ drop (suc at) ps) ≡ items_of b ps
  two_items =
      let front = items_of b (take at ps) in
      let tail = items_of b (drop (suc at) ps) in
      items_with b (take at ps) (x ∷ y ∷ drop (suc at) ps)
      ∙ ap (λ zs. front ++ zs) (sym (append_assoc (piece_items b x) (piece_items b y) tail) ∙ ap (λ zs. zs ++ tail) both ∙ ap (λ q. piece_items b q ++ tail) is)
      ∙ sym (items_around b ps at p inside)

  pub two_pieces : x.start ≡ p.start → 0 < x.len → length (piece_items b x) ≡ x.len → y.start ≡ p.start + x.len → 0 < y.len → length (piece_items b y) ≡ y.len → ArePieces b 0 (take at ps ++ x ∷ y ∷ drop (suc at) ps)
  two_pieces xs xsome xmany ys ysome ymany =
      let n = length (items_of b (take at ps)) in
      let here = subst (IsPiece b n) (sym is) (piece_is b ps at p inside h) in
      let item_count : p.len ≡ x.len + y.len = omega (arith, here.item_count, ap (λ zs. length zs) both, length-append (piece_items b x) (piece_items b y), xmany, ymany) in
      let same : n + p.len ≡ n + x.len + y.len = omega (arith, item_count) in
      let rest = (pieces_from_place b ps at p inside h).1 in
      let tail = subst (λ m. ArePieces b m (drop (suc at) ps)) same (subst (λ q. ArePieces b (n + q.len) (drop (suc at) ps)) (sym is) rest) in
      joined b 0 n (take at ps) (x ∷ y ∷ drop (suc at) ps) (omega arith) (pieces_before_place b ps at h) (record { start = omega (arith, xs, here.start); some = xsome; item_count = xmany }, (record { start = omega (arith, ys, here.start); some = ysome; item_count = ymany }, tail))

-- Edits of a piece of one item.
module _ {T : Type 0} (b : List T) (ps : List (Piece T)) (index at : ℕ) (d : Piece T) (h : ArePieces b 0 ps) (place : IsAlone ps index at) where
  alone_is : IsPiece b (length (items_of b (take at ps))) (get_or ps at d)
  alone_is = piece_is b ps at d place.within h

  length_before : length (items_of b (take at ps)) ≡ index
  length_before = omega (arith, alone_is.start, place.start d)

  single : length (piece_items b (get_or ps at d)) ≡ 1
  single = omega (arith, alone_is.item_count, place.one d)

  front_low : length (items_of b (take at ps)) ≤ index
  front_low = omega (arith, length_before)

  front_high : index < length (items_of b (take at ps)) + length (piece_items b (get_or ps at d))
  front_high = omega (arith, length_before, single)

  at_first : index - length (items_of b (take at ps)) ≡ 0
  at_first = omega (arith, length_before)

  pub set_items : (x : T) (n : ℕ) → items_of b (set ps at (record { start = n; len = 1; source = Own x })) ≡ set (items_of b ps) index x
  set_items x n =
      let p : Piece T = record { start = n; len = 1; source = Own x } in
      let front = items_of b (take at ps) in
      let tail = items_of b (drop (suc at) ps) in
      ap (λ qs. items_of b qs) (set_split ps at p place.within) ∙ items_with b (take at ps) (p ∷ drop (suc at) ps)
      ∙ ap (λ zs. front ++ (zs ++ tail)) (sym (set_single (piece_items b (get_or ps at d)) x single) ∙ ap (λ k. set (piece_items b (get_or ps at d)) k x) (sym at_first))
      ∙ sym (ap (λ zs. set zs index x) (items_around b ps at d place.within) ∙ set_between front (piece_items b (get_or ps at d)) tail index x front_low front_high)
    where
      set_single : (xs : List T) (x : T) → length xs ≡ 1 → set xs 0 x ≡ x ∷ []
      set_single [] x e = absurd (omega (arith, e))
      set_single (z ∷ []) x e = refl
      set_single (z ∷ w ∷ xs) x e = absurd (omega (arith, e))

  pub set_pieces : (x : T) (n : ℕ) → n ≡ (get_or ps at d).start → ArePieces b 0 (set ps at (record { start = n; len = 1; source = Own x }))
  set_pieces x n e =
      let p : Piece T = record { start = n; len = 1; source = Own x } in
      let m = length (items_of b (take at ps)) in
      subst (ArePieces b 0) (sym (set_split ps at p place.within)) (joined b 0 m (take at ps) (p ∷ drop (suc at) ps) (omega arith) (pieces_before_place b ps at h) (record { start = e ∙ alone_is.start; some = omega arith; item_count = refl }, subst (λ k. ArePieces b (m + k) (drop (suc at) ps)) (place.one d) (pieces_from_place b ps at d place.within h).1))

  pub lost_items : items_of b (take at ps ++ map with_one_less (drop (suc at) ps)) ≡ remove (items_of b ps) index
  lost_items =
      let front = items_of b (take at ps) in
      let tail = items_of b (drop (suc at) ps) in
      items_with b (take at ps) (map with_one_less (drop (suc at) ps)) ∙ ap (λ zs. front ++ zs) (down_items b (drop (suc at) ps))
      ∙ ap (λ zs. front ++ (zs ++ tail)) (sym (lost_single (piece_items b (get_or ps at d)) single) ∙ ap (λ k. remove (piece_items b (get_or ps at d)) k) (sym at_first))
      ∙ sym (ap (λ zs. remove zs index) (items_around b ps at d place.within) ∙ remove_between front (piece_items b (get_or ps at d)) tail index front_low front_high)
    where
      lost_single : (xs : List T) → length xs ≡ 1 → remove xs 0 ≡ []
      lost_single [] e = refl
      lost_single (z ∷ []) e = refl
      lost_single (z ∷ w ∷ xs) e = absurd (omega (arith, e))

  pub lost_pieces : ArePieces b 0 (take at ps ++ map with_one_less (drop (suc at) ps))
  lost_pieces =
      let m = length (items_of b (take at ps)) in
      joined b 0 m (take at ps) (map with_one_less (drop (suc at) ps)) (omega arith) (pieces_before_place b ps at h) (down_pieces b m (m + (get_or ps at d).len) (drop (suc at) ps) (omega (arith, place.one d)) (pieces_from_place b ps at d place.within h).1)

-- An item is appended.
pub pushed_items : {T : Type 0} (b : List T) (ps : List (Piece T)) (x : T) (n : ℕ) → items_of b (ps ++ record { start = n; len = 1; source = Own x } ∷ []) ≡ items_of b ps ++ x ∷ []
pushed_items b ps x n = items_with b ps (record { start = n; len = 1; source = Own x } ∷ [])

pub pushed_pieces : {T : Type 0} (b : List T) (ps : List (Piece T)) (x : T) (n : ℕ) → n ≡ length (items_of b ps) → ArePieces b 0 ps → ArePieces b 0 (ps ++ record { start = n; len = 1; source = Own x } ∷ [])
pushed_pieces b ps x n e h = joined b 0 n ps (record { start = n; len = 1; source = Own x } ∷ []) (omega (arith, e)) h (record { start = refl; some = omega arith; item_count = refl }, tt)
