-- Lists of pieces, split at one of them.
use Rattle.std.proofs.Common.{◌≡◌, ℕ, zero, suc, ◌+◌, ◌-◌, ◌<◌, ◌≤◌, List, [], ◌∷◌, ◌++◌, length, get_or, take, drop, set, map, refl, ap, sym, subst, ◌∙◌, arith, length-append, inl, inr}
use Rattle.std.proofs.Math.Seq.{drop-cons}
use Rattle.std.proofs.lemmas.List.{take-append-drop, set_split, drop_all, take_more}
use Rattle.std.proofs.lemmas.List.Concat.{flat_map-append}
use Rattle.std.proofs.lemmas.Bool.{cases_order}
use Rattle.mailbox_rows.specs.Pieces.{ArePieces, IsAlone, IsPiece, IsInPiece, items_of, with_one_less, piece_items}
use Rattle.mailbox_rows.specs.declared.pieces.Piece.{Piece}

-- A list around one of its elements.
pub parts_around : {X : Type 0} (xs : List X) (i : ℕ) (d : X) → i < length xs → xs ≡ take i xs ++ get_or xs i d ∷ drop (suc i) xs
parts_around xs i d inside = sym (take-append-drop i xs) ∙ ap (λ ys. take i xs ++ ys) (drop-cons xs i d inside)

-- The items around those of one piece.
pub items_around : {T : Type 0} (b : List T) (ps : List (Piece T)) (i : ℕ) (d : Piece T) → i < length ps → items_of b ps ≡ items_of b (take i ps) ++ (piece_items b (get_or ps i d) ++ items_of b (drop (suc i) ps))
items_around b ps i d inside = ap (λ xs. items_of b xs) (parts_around ps i d inside) ∙ flat_map-append (λ p. piece_items b p) (take i ps) (get_or ps i d ∷ drop (suc i) ps)

-- The items of pieces, with others after them.
pub items_with : {T : Type 0} (b : List T) (front tail : List (Piece T)) → items_of b (front ++ tail) ≡ items_of b front ++ items_of b tail
items_with b front tail = flat_map-append (λ p. piece_items b p) front tail

-- Pieces before others, and those after them.
pub front_of : {T : Type 0} (b : List T) (n : ℕ) (xs ys : List (Piece T)) → ArePieces b n (xs ++ ys) → ArePieces b n xs
front_of b n [] ys h = tt
front_of b n (p ∷ xs) ys h = (h.0, front_of b (n + p.len) xs ys h.1)

pub back_of : {T : Type 0} (b : List T) (n m : ℕ) (xs ys : List (Piece T)) → m ≡ n + length (items_of b xs) → ArePieces b n (xs ++ ys) → ArePieces b m ys
back_of b n m [] ys e h = let same : n ≡ m = omega (arith, e) in subst (λ k. ArePieces b k ys) same h
back_of b n m (p ∷ xs) ys e h = back_of b (n + p.len) m xs ys (omega (arith, e, h.0.item_count, length-append (piece_items b p) (items_of b xs))) h.1

pub joined : {T : Type 0} (b : List T) (n m : ℕ) (xs ys : List (Piece T)) → m ≡ n + length (items_of b xs) → ArePieces b n xs → ArePieces b m ys → ArePieces b n (xs ++ ys)
joined b n m [] ys e front back = let same : m ≡ n = omega (arith, e) in subst (λ k. ArePieces b k ys) same back
joined b n m (p ∷ xs) ys e front back = (front.0, joined b (n + p.len) m xs ys (omega (arith, e, front.0.item_count, length-append (piece_items b p) (items_of b xs))) front.1 back)

-- All before one piece, the piece, and all after it.
pub pieces_before_place : {T : Type 0} (b : List T) (ps : List (Piece T)) (i : ℕ) → ArePieces b 0 ps → ArePieces b 0 (take i ps)
pieces_before_place b ps i h = front_of b 0 (take i ps) (drop i ps) (subst (ArePieces b 0) (sym (take-append-drop i ps)) h)

pub pieces_from_place : {T : Type 0} (b : List T) (ps : List (Piece T)) (i : ℕ) (d : Piece T) → i < length ps → ArePieces b 0 ps → ArePieces b (length (items_of b (take i ps))) (get_or ps i d ∷ drop (suc i) ps)
pieces_from_place b ps i d inside h = back_of b 0 _ (take i ps) (get_or ps i d ∷ drop (suc i) ps) (omega arith) (subst (ArePieces b 0) (parts_around ps i d inside) h)

pub piece_is : {T : Type 0} (b : List T) (ps : List (Piece T)) (i : ℕ) (d : Piece T) → i < length ps → ArePieces b 0 ps → IsPiece b (length (items_of b (take i ps))) (get_or ps i d)
piece_is b ps i d inside h = (pieces_from_place b ps i d inside h).0

-- The place at which the next piece starts.
pub next_start : {T : Type 0} (b : List T) (ps : List (Piece T)) (i : ℕ) (d : Piece T) → i + 1 < length ps → ArePieces b 0 ps → (get_or ps (i + 1) d).start ≡ (get_or ps i d).start + (get_or ps i d).len
next_start b ps i d inside h =
    let here = piece_is b ps i d (omega (arith, inside)) h in
    let next = piece_is b ps (i + 1) d inside h in
    let more = ap (λ xs. length (items_of b xs)) (take_more ps i d (omega (arith, inside))) in
    let parts = items_with b (take i ps) (get_or ps i d ∷ []) in
    omega (arith, here.start, here.item_count, next.start, more, ap (λ xs. length xs) parts, length-append (items_of b (take i ps)) (piece_items b (get_or ps i d) ++ []), length-append (piece_items b (get_or ps i d)) [])

-- The place at which the last piece ends.
pub last_end : {T : Type 0} (b : List T) (ps : List (Piece T)) (i : ℕ) (d : Piece T) → i + 1 ≡ length ps → ArePieces b 0 ps → length (items_of b ps) ≡ (get_or ps i d).start + (get_or ps i d).len
last_end b ps i d last h =
    let here = piece_is b ps i d (omega (arith, last)) h in
    let around = ap (λ xs. length xs) (items_around b ps i d (omega (arith, last))) in
    let none = ap (λ xs. length (items_of b xs)) (drop_all (suc i) ps (omega (arith, last))) in
    omega (arith, here.start, here.item_count, around, none, length-append (items_of b (take i ps)) (piece_items b (get_or ps i d) ++ items_of b (drop (suc i) ps)), length-append (piece_items b (get_or ps i d)) (items_of b (drop (suc i) ps)))

-- No piece ends after the list's end.
pub piece_end : {T : Type 0} (b : List T) (ps : List (Piece T)) (i : ℕ) (d : Piece T) → i < length ps → ArePieces b 0 ps → (get_or ps i d).start + (get_or ps i d).len ≤ length (items_of b ps)
piece_end b ps i d inside h =
    let here = piece_is b ps i d inside h in
    let around = ap (λ xs. length xs) (items_around b ps i d inside) in
    omega (arith, here.start, here.item_count, around, length-append (items_of b (take i ps)) (piece_items b (get_or ps i d) ++ items_of b (drop (suc i) ps)), length-append (piece_items b (get_or ps i d)) (items_of b (drop (suc i) ps)))

-- The item is in a piece if the next one starts after it.
pub in_piece : {T : Type 0} (b : List T) (ps : List (Piece T)) (index i : ℕ) → ArePieces b 0 ps → index < length (items_of b ps) → i < length ps → ((d : Piece T) → (get_or ps i d).start ≤ index) → ((d : Piece T) → i + 1 < length ps → index < (get_or ps (i + 1) d).start) → IsInPiece ps index i
in_piece b ps index i h within inside start late = record {
  within = inside;
  start = start;
  end = λ d. elim (cases_order (i + 1) (length ps)) [
    | inl e ↦ omega (arith, within, last_end b ps i d e h)
    | inr (inl below) ↦ omega (arith, late d below, next_start b ps i d below h)
    | inr (inr above) ↦ absurd (omega (arith, above, inside))
  ];
}

-- Pieces have the same items if each counts one item less before it.
pub down_items : {T : Type 0} (b : List T) (ps : List (Piece T)) → items_of b (map with_one_less ps) ≡ items_of b ps
down_items b [] = refl
down_items b (p ∷ ps) = ap (λ xs. piece_items b p ++ xs) (down_items b ps)

pub down_pieces : {T : Type 0} (b : List T) (n m : ℕ) (ps : List (Piece T)) → m ≡ n + 1 → ArePieces b m ps → ArePieces b n (map with_one_less ps)
down_pieces b n m [] e h = tt
down_pieces b n m (p ∷ ps) e h = (record { start = omega (arith, h.0.start, e); some = h.0.some; item_count = h.0.item_count }, down_pieces b (n + p.len) (m + p.len) ps (omega (arith, e)) h.1)

-- After some items, no piece starts at 0.
pub start_positive_after : {T : Type 0} (b : List T) (n : ℕ) (ps : List (Piece T)) → ArePieces b n ps → 0 < n → (k : ℕ) (d : Piece T) → k < length ps → 0 < (get_or ps k d).start
start_positive_after b n [] h some k d inside = absurd (omega (arith, inside))
start_positive_after b n (p ∷ ps) h some zero d inside = omega (arith, h.0.start, some)
start_positive_after b n (p ∷ ps) h some (suc k) d inside = start_positive_after b (n + p.len) ps h.1 (omega (arith, some)) k d (omega (arith, inside))

-- No piece after the first starts at 0.
pub start_positive_at : {T : Type 0} (b : List T) (ps : List (Piece T)) → ArePieces b 0 ps → (k : ℕ) (d : Piece T) → 0 < k → k < length ps → 0 < (get_or ps k d).start
start_positive_at b [] h k d late inside = absurd (omega (arith, inside))
start_positive_at b (p ∷ ps) h zero d late inside = absurd (omega (arith, late))
start_positive_at b (p ∷ ps) h (suc k) d late inside = start_positive_after b (0 + p.len) ps h.1 (omega (arith, h.0.some)) k d (omega (arith, inside))
