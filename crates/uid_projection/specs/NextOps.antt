-- Pending operations, and the state of a folder and its chart before them.

use Rattle.std.specs.Prelude.{◌≡◌, ℕ, Bool, true, List, [], ◌∷◌, ◌++◌}
use Rattle.tags_clocks.specs.declared.id.OpId.{OpId}
use Rattle.mailbox_rows.specs.declared.entry.ListingEntry.{ListingEntry}
use Rattle.crdt_ops.specs.declared.op.Op.{Op}
use Rattle.crdt_ops.specs.Tags.{removed_ids}
use Rattle.folder_state.specs.Contents.{Contents, IsMadeBy, effect_of, origin_in}
use Rattle.uid_projection.specs.FolderAhead.{IsAhead, folder_of}
use Rattle.uid_projection.specs.declared.folder_ahead.FolderAhead.{FolderAhead}
use Rattle.uid_projection.specs.declared.first_numbers.Counters.{Counters}
use Rattle.uid_projection.specs.Applied.{IsApplied}
use Rattle.uid_projection.specs.UidsAndModSeqs.{kind_names_folder}
use Rattle.uid_projection.specs.EntryMoves.{loses}

-- These operations come next after the list that led to the contents, and the folder is the one in
-- these contents.
pub record IsNextAhead (start : Counters) (folder : List ℕ) (nothing : List ListingEntry)
    (c : Contents) (list ops : List Op) (ahead : FolderAhead) : Type 0 where
  pub own : folder_of ahead ≡ folder
  pub none : nothing ≡ []
  pub applied : IsApplied (list ++ ops)
  pub made : IsMadeBy c list
  pub is_ahead : IsAhead c ahead

-- The operation about the folder comes next after the list that led to the contents. It removes
-- versions of these origins, and the folder is the one after it.
pub record AdvancesAhead (c : Contents) (list : List Op) (o : Op) (lost : OpId → Bool)
    (ahead : FolderAhead) : Type 0 where
  pub applied : IsApplied (list ++ o ∷ [])
  pub about : kind_names_folder (folder_of ahead) o.kind ≡ true
  pub made : IsMadeBy c list
  pub is_lost : (g : OpId) → lost g ≡ loses (origin_in c (folder_of ahead)) (removed_ids o.kind) g
  pub is_ahead : IsAhead (effect_of c o) ahead
