-- The contents of folders after operations that are yet to be applied.

use Rattle.std.specs.Prelude.{ℕ, Bool, true, false, ◌&&◌, ◌||◌, Option, None, Some, List}
use Rattle.tags_clocks.specs.declared.id.OpId.{OpId}
use Rattle.merge_laws.specs.Orders.{fold_of}
use Rattle.crdt_ops.specs.declared.op.Op.{Op}
use Rattle.crdt_ops.specs.SortedSets.{is_some_id}
use Rattle.folder_state.specs.Contents.{Contents, effect_of, origin_in}
use Rattle.folder_state.specs.FolderTables.{FolderTables, tag_data_in, has_tag_in}
use Rattle.folder_state.specs.OpRoom.{origin_of_op}

abbrev pub is_some : {X : Type 0} → Option X → Bool
is_some None = false
is_some (Some x) = true

-- Whether the message tag of this folder and id is present.
abbrev pub has_tag_data : Contents → List ℕ → OpId → Bool
has_tag_data c folder id = is_some (c.tag_data folder id)

-- The contents after these operations.
abbrev pub contents_after : Contents → List Op → Contents
contents_after c ops = fold_of effect_of c ops

-- Whether the folder has a tag with this id after these operations, of either kind.
abbrev pub has_tag_after : Contents → List Op → List ℕ → OpId → Bool
has_tag_after c ops folder id =
    (contents_after c ops).tags folder id || has_tag_data (contents_after c ops) folder id

-- Contents in which each folder has the tags of one folder, without dates and texts.
abbrev pub contents_of_folder : Option FolderTables → Contents
contents_of_folder folder =
    record {
      tags = λ name id. has_tag_in folder id;
      tag_data = λ name id. tag_data_in folder id;
      dated_texts = λ id. None;
    }

-- Whether the id is that of a version of the origin in the folder.
abbrev pub is_version : Contents → List ℕ → OpId → OpId → Bool
is_version c folder origin id = is_some_id origin (origin_in c folder id)

-- Whether an operation adds a version of the origin that the folder has after all these operations.
abbrev pub op_adds_lasting_version : Option FolderTables → List Op → List ℕ → OpId → Op → Bool
op_adds_lasting_version table ops folder origin op =
    is_some_id origin (origin_of_op op.id op.kind)
    && is_version (contents_after (contents_of_folder table) ops) folder origin op.id
