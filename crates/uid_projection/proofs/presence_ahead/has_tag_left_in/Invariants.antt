use Rattle.std.proofs.Common.{◌≡◌, ◌<◌, ℕ, false}
use Rattle.std.specs.List.{slice_get}
use Rattle.folder_state.specs.FolderTables.{folder_ids}
use Rattle.uid_projection.specs.TagChanges.{is_present_at}
use Rattle.uid_projection.proofs.presence_ahead.has_tag_left_in.Given as goal

abbrev pub invariant-loop-place : goal.invariant-loop-place
invariant-loop-place l = (place : ℕ) → place < l.place → is_present_at l.tags.entries l.messages (slice_get (folder_ids l.folder) place) ≡ false
