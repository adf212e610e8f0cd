-- The results of a release of one held operation: when each is returned, and the inbox after it. It
-- is causal delivery, as operation-based replicated types need it (Jungnickel, Oldenburg, Loibl,
-- OPODIS 2017).

use Rattle.std.specs.Prelude.{◌≡◌, ℕ, Bool, true, false, List, [], ◌∷◌}
use Rattle.tags_clocks.specs.declared.id.OpId.{OpId}
use Rattle.merge_laws.specs.declared.follower.NotReady.{NotReady}
use Rattle.merge_laws.specs.declared.follower.NotReady.TheVariants.{Exhausted, NoMemory}
use Rattle.causal_inbox.specs.Inbox.{ReceivedOps, IsStalled, IsNextReleased, IsReleased}

module _ {S O : Type 0} (id : O → OpId) (clock : O → List (ℕ × ℕ))
    (exhausts : S → List O → List O → Type 0) where
  -- Whether an operation was released, and the operations received after it: none is released only
  -- if no ripe one is held.
  abbrev pub Releases : ReceivedOps S O → Bool → ReceivedOps S O → Type 0
  Releases old true new = IsReleased id clock exhausts old new
  Releases old false new = (¬ IsStalled id clock old) × (new ≡ old)

  -- When each fault of a release is returned: the operation that is released next needs a number
  -- that a counter lacks; or it needs no such number, and memory runs out.
  abbrev pub RefusesRelease : ReceivedOps S O → NotReady → Type 0
  RefusesRelease s Exhausted =
      (o : O) × IsNextReleased id clock s o × exhausts s.start s.applied (o ∷ [])
  RefusesRelease s NoMemory =
      (o : O) × IsNextReleased id clock s o × ¬ exhausts s.start s.applied (o ∷ [])
