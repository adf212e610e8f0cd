-- The lines of a dump, and the text of the state that a set of operations defines.

use Rattle.std.specs.Prelude.{ℕ, List, [], ◌∷◌, ◌++◌, codes}
use Rattle.std.specs.List.{flat_map}
use Rattle.tags_clocks.specs.declared.id.OpId.{OpId}
use Rattle.crdt_ops.specs.declared.message.Message.{Message}
use Rattle.crdt_ops.specs.declared.op.Op.{Op}
use Rattle.crdt_ops.specs.Sets.{folder_tags_of, folders_of, messages_of, subscribed_names_of}
use Rattle.crdt_ops.specs.Sets.{subscription_tags_of}
use Rattle.crdt_ops.specs.Text.{flags_text, id_text, ids_text, text_field, name_text, op_text}

-- The line of an operation.
abbrev pub op_line : Op → List ℕ
op_line op = codes "op " ++ (op_text op ++ 10 ∷ [])

-- A line of a word that ends with a space, a name, and ids.
abbrev pub name_line : List ℕ → List ℕ → List OpId → List ℕ
name_line word name ids = word ++ (name_text name ++ 32 ∷ (ids_text ids ++ 10 ∷ []))

-- The line of a folder, with the ids of its present folder tags.
abbrev pub folder_line : List Op → List ℕ → List ℕ
folder_line ops folder = name_line (codes "folder ") folder (folder_tags_of ops folder)

-- A message's date and text, each after a space (32), and the end of their line.
abbrev pub dated_text_fields : Message → List ℕ
dated_text_fields message = 32 ∷ (message.date ++ 32 ∷ (text_field message.text ++ 10 ∷ []))

-- The fields of a message's line after its versions: its flags, its date and its text.
abbrev pub message_fields : Message → List ℕ
message_fields message = flags_text message.flags ++ dated_text_fields message

-- The line of a message: its origin, its versions, flags, date and text.
abbrev pub message_line : Message → List ℕ
message_line message =
    codes "message "
    ++ (id_text message.origin ++ 32 ∷ (ids_text message.versions ++ 32 ∷ message_fields message))

-- The lines of a folder: its own, and those of its messages by their origins.
abbrev pub folder_lines : List Op → List ℕ → List ℕ
folder_lines ops folder = folder_line ops folder ++ flat_map message_line (messages_of ops folder)

-- The line of a subscribed name, with the ids of its present subscription tags.
abbrev pub subscription_line : List Op → List ℕ → List ℕ
subscription_line ops name = name_line (codes "subscribed ") name (subscription_tags_of ops name)

-- The state that these operations define: folders with their messages, and subscribed names.
abbrev pub state_text : List Op → List ℕ
state_text ops =
    flat_map (folder_lines ops) (folders_of ops)
    ++ flat_map (subscription_line ops) (subscribed_names_of ops)
