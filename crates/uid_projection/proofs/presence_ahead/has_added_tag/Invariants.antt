use Rattle.std.proofs.Common.{◌≡◌, ◌≤◌, ℕ, false}
use Rattle.std.specs.List.{slice_get}
use Rattle.uid_projection.specs.TagChanges.{value_at_key, is_tag}
use Rattle.uid_projection.proofs.presence_ahead.has_added_tag.Given as goal

abbrev pub invariant-loop-at : goal.invariant-loop-at
invariant-loop-at l = (place : ℕ) → l.at ≤ place → value_at_key is_tag l.tags.entries (slice_get l.tags.entries place) ≡ false

abbrev pub decreases-loop-at : goal.decreases-loop-at
decreases-loop-at l = l.at
