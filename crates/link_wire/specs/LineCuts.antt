-- How lines of at most `limit` octets are cut from a stream that arrives in pieces.

use Rattle.std.specs.Prelude.{◌≡◌, ◌<◌, ◌≤◌, ◌⊎◌, ℕ, IsTrue, List, [], ◌∷◌, ◌++◌, length}
use Rattle.std.specs.List.{flat_map}
use Rattle.link_wire.specs.Digests.{has_no_lf}

-- A cutter between two pieces: the octets of a line so far, and the most that a line may have.
pub record CutterState : Type 0 where
  pub limit : ℕ
  pub line : List ℕ

-- The octets so far are the beginning of a line within the limit.
pub record IsOpenLine (state : CutterState) : Type 0 where
  pub within : length state.line ≤ state.limit
  pub no_lf : IsTrue (has_no_lf state.line)

-- The piece has no end of a line (10): it continues the line.
pub record ContinuesLine (old : CutterState) (piece : List ℕ) (new : CutterState) : Type 0 where
  pub open_line : IsOpenLine new
  pub limit : new.limit ≡ old.limit
  pub line_is : new.line ≡ old.line ++ piece

-- The piece ends the line, which is within the limit; the rest of the piece comes after it.
pub record EndsLine (old : CutterState) (piece : List ℕ) (new : CutterState)
    (line rest : List ℕ) : Type 0 where
  pub within : length line ≤ old.limit
  pub no_lf : IsTrue (has_no_lf line)
  pub stream_is : old.line ++ piece ≡ line ++ 10 ∷ rest
  pub new_is : new ≡ record old { line = [] }

-- The line has more octets than the limit.
pub record IsTooLong (old : CutterState) (piece : List ℕ) : Type 0 where
  pub front : List ℕ
  pub rest : List ℕ
  pub no_lf : IsTrue (has_no_lf front)
  pub beyond : old.limit < length front
  pub stream_is : old.line ++ piece ≡ front ++ rest

-- A cutter at the beginning of a line.
abbrev pub at_start : ℕ → CutterState
at_start limit = record { limit = limit; line = [] }

-- From these pieces comes this line; the pieces after it begin with what is left of the one that
-- ended the line.
abbrev pub TakesLine : CutterState → List (List ℕ) → List ℕ → List (List ℕ) → Type 0
TakesLine state [] line rest = ⊥
TakesLine state (piece ∷ pieces) line rest =
    ((new : CutterState) × ContinuesLine state piece new × TakesLine new pieces line rest)
    ⊎ ((new : CutterState) × (left : List ℕ)
    × EndsLine state piece new line left × (rest ≡ left ∷ pieces))

-- From these pieces come these lines, one after another, and then these pieces are left.
abbrev pub TakesLines : ℕ → List (List ℕ) → List (List ℕ) → List (List ℕ) → Type 0
TakesLines limit pieces [] rest = rest ≡ pieces
TakesLines limit pieces (line ∷ lines) rest =
    (left : List (List ℕ))
    × TakesLine (at_start limit) pieces line left
    × TakesLines limit left lines rest

-- A line, without its end, that is within the limit.
abbrev pub IsLineWithin : ℕ → List ℕ → Type 0
IsLineWithin limit line = IsTrue (has_no_lf line) × (length line ≤ limit)

-- The lines, each with its end.
abbrev pub lines_text : List (List ℕ) → List ℕ
lines_text lines = flat_map (λ line. line ++ 10 ∷ []) lines
