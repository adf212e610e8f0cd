-- The ends of the replicas that a server ran, and their books, for which the headline of
-- `server_laws` holds.

use Rattle.std.specs.Prelude.{◌≡◌, ℕ, Bool, true, false, List, [], ◌∷◌, length, Some, slice_get}
use Rattle.replica_lock.specs.Histories.{BookState}
use Rattle.server_laws.specs.Interleavings.{HasHistory}
use Rattle.server_runtime.specs.declared.replica_end.ReplicaEnd.{ReplicaEnd}
use Rattle.server_runtime.specs.declared.replica_end.ReplicaEnd.TheVariants.{Finished, Lost}

-- The books of those that returned them, in order.
abbrev pub books_of : List ReplicaEnd → List BookState
books_of [] = []
books_of (Finished book ∷ ends) = book ∷ books_of ends
books_of (_ ∷ ends) = books_of ends

-- If the replica returned its book, the book has this name.
abbrev pub IsEndOf : ℕ → ReplicaEnd → Type 0
IsEndOf name (Finished book) = book.node.start.replica ≡ name
IsEndOf name _ = Unit {0}

-- The replica returned its whole journal, or never ran: it isn't lost.
abbrev pub is_whole : ReplicaEnd → Bool
is_whole Lost = false
is_whole _ = true

-- There is one end for each of these names, in their order, and the books have these names.
pub record AreEndsOf (names : List ℕ) (ends : List ReplicaEnd) : Type 0 where
  pub count : length ends ≡ length names
  pub each : (i : ℕ) (name : ℕ) (end : ReplicaEnd) → slice_get names i ≡ Some name
      → slice_get ends i ≡ Some end
      → IsEndOf name end

-- If the replica returned its book, the book's journal leads to it.
abbrev pub EndHasHistory : ReplicaEnd → Type 0
EndHasHistory (Finished book) = HasHistory book
EndHasHistory _ = Unit {0}
