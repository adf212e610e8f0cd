-- The items of pieces, and the number of items before each piece.

use Rattle.std.specs.Prelude.{◌≡◌, ℕ, ◌+◌, ◌-◌, ◌*◌, ◌<◌, ◌≤◌, List, [], ◌∷◌, length, flat_map}
use Rattle.std.specs.Prelude.{get_or, take, drop}
use Rattle.mailbox_rows.specs.declared.pieces.Piece.{Piece}
use Rattle.mailbox_rows.specs.declared.pieces.PieceSource.{PieceSource}
use Rattle.mailbox_rows.specs.declared.pieces.PieceSource.TheVariants.{Base, Own}

-- The `len` items of a source over a list.
abbrev pub source_items : {T : Type 0} → List T → ℕ → PieceSource T → List T
source_items base len (Base from) = take len (drop from base)
source_items base len (Own item) = item ∷ []

-- The items of a piece over a list.
abbrev pub piece_items : {T : Type 0} → List T → Piece T → List T
piece_items base p = source_items base p.len p.source

-- The items of all pieces, one after another.
abbrev pub items_of : {T : Type 0} → List T → List (Piece T) → List T
items_of base ps = flat_map (λ p. piece_items base p) ps

-- A piece with `before` items before it: its `start` is that number, it isn't empty, and its `len`
-- is the number of its items.
pub record IsPiece {T : Type 0} (base : List T) (before : ℕ) (p : Piece T) : Type 0 where
  pub start : p.start ≡ before
  pub some : 0 < p.len
  pub item_count : length (piece_items base p) ≡ p.len

-- Pieces one after another, with `before` items before the first.
abbrev pub ArePieces : {T : Type 0} → List T → ℕ → List (Piece T) → Type 0
ArePieces base before [] = Unit {0}
ArePieces base before (p ∷ ps) = IsPiece base before p × ArePieces base (before + p.len) ps

-- A piece with one item less before it.
abbrev pub with_one_less : {T : Type 0} → Piece T → Piece T
with_one_less p = record { start = p.start - 1; len = p.len; source = p.source }

-- The item at `index` is in the piece at this place.
pub record IsInPiece {T : Type 0} (ps : List (Piece T)) (index at : ℕ) : Type 0 where
  pub within : at < length ps
  pub start : (d : Piece T) → (get_or ps at d).start ≤ index
  pub end : (d : Piece T) → index < (get_or ps at d).start + (get_or ps at d).len

-- The item at `index` is the only one of the piece at this place.
pub record IsAlone {T : Type 0} (ps : List (Piece T)) (index at : ℕ) : Type 0 where
  pub within : at < length ps
  pub start : (d : Piece T) → (get_or ps at d).start ≡ index
  pub one : (d : Piece T) → (get_or ps at d).len ≡ 1

-- The items in order, and how many further pieces need no more memory. An edit takes two at most.
pub record PatchedState (T : Type 0) : Type 0 where
  pub items : List T
  pub places : ℕ

-- There is room for this number of edits.
abbrev pub HasRoom : {T : Type 0} → PatchedState T → ℕ → Type 0
HasRoom list edits = 2 * edits ≤ list.places
