use Rattle.std.proofs.Common.{ℕ, ◌<◌, IsSome, None, slice_index_or}
use Rattle.imap_node.proofs.sessions.vacant_place.Given as goal

abbrev pub invariant-loop-place : goal.invariant-loop-place
invariant-loop-place l = (k : ℕ) → k < l.place → IsSome (slice_index_or l.places k None)
