-- One folder after pending operations, which are applied to it step by step: its tags, its versions
-- and its messages.
use Rattle.std.specs.Prelude.{◌≡◌, ℕ, Bool, Option, None, Some, IsSome, List, if◌then◌else◌}
use Rattle.std.specs.Map.{lookup}
use Rattle.std.specs.Option.{option_map}
use Rattle.tags_clocks.specs.declared.id.OpId.{OpId}
use Rattle.crdt_ops.specs.declared.message.Message.{Message}
use Rattle.crdt_ops.specs.SortedSets.{same_id}
use Rattle.crdt_ops.specs.Sets.{MessageTagData, DatedText}
use Rattle.mailbox_rows.specs.MessageData.{message_data_at}
use Rattle.mailbox_rows.specs.declared.folder_messages.OwnedMessage.{OwnedMessage}
use Rattle.folder_state.specs.Contents.{Contents}
use Rattle.folder_state.specs.FolderTables.{tag_data_in, has_tag_in}
use Rattle.folder_state.specs.Tables.{contents_of}
use Rattle.folder_state.specs.MessageRefs.{message_of_data}
use Rattle.uid_projection.specs.declared.folder_ahead.FolderAhead.{FolderAhead}
use Rattle.uid_projection.specs.declared.folder_ahead.MailboxAhead.{MailboxAhead}
use Rattle.uid_projection.specs.TagChanges.{AreAll, IsWhole, tag_data_of, stored_of}
use Rattle.uid_projection.specs.TagChanges.{dated_text_over}
use Rattle.uid_projection.specs.TagChanges.{list_of, tag_over}

-- The folder's name.
abbrev pub folder_of : FolderAhead → List ℕ
folder_of ahead = ahead.name

-- Whether the folder tag with this id is present.
abbrev pub tags_ahead : FolderAhead → OpId → Bool
tags_ahead ahead = tag_over ahead.tags.entries (stored_of ahead.messages)

-- The data that the message tag with this id carries, if it is present.
abbrev pub tag_data_ahead : FolderAhead → OpId → Option MessageTagData
tag_data_ahead ahead = tag_data_of ahead.messages

-- The date and text of the Append with this id, if it was applied.
abbrev pub dated_texts_ahead : FolderAhead → OpId → Option DatedText
dated_texts_ahead ahead =
    dated_text_over ahead.dated_texts.entries (contents_of ahead.value.now).dated_texts

-- The stored tags are those of this folder. The origin of each changed tag, and each id with an
-- added date and text, has a list, so that its message counts as changed.
pub record IsOrderly (ahead : FolderAhead) : Type 0 where
  pub tags : (id : OpId)
      → (contents_of ahead.value.now).tags ahead.name id ≡ has_tag_in (stored_of ahead.messages) id
  pub tag_data : (id : OpId)
      → (contents_of ahead.value.now).tag_data ahead.name id
      ≡ tag_data_in (stored_of ahead.messages) id
  pub whole : IsWhole ahead.messages
  pub dated_texts : (id : OpId)
      → IsSome (lookup (same_id id) ahead.dated_texts.entries)
      → IsSome (list_of ahead.messages id)

-- The folder is the one in these contents.
pub record IsAhead (contents : Contents) (ahead : FolderAhead) : Type 0 where
  pub orderly : IsOrderly ahead
  pub tags : (id : OpId) → tags_ahead ahead id ≡ contents.tags ahead.name id
  pub tag_data : (id : OpId) → tag_data_ahead ahead id ≡ contents.tag_data ahead.name id
  pub dated_texts : (id : OpId) → dated_texts_ahead ahead id ≡ contents.dated_texts id

-- The message has the versions of the origin, and the date and text of its Append.
pub record IsOwned (ahead : FolderAhead) (origin : OpId) (message : OwnedMessage) : Type 0 where
  pub versions : AreAll (tag_data_ahead ahead) origin message.versions.items
  pub date : option_map (λ date. date.now) message.date
      ≡ option_map (λ (dated : DatedText). dated.date) (dated_texts_ahead ahead origin)
  pub text : option_map (λ text. text.now) message.text
      ≡ option_map (λ (dated : DatedText). dated.text) (dated_texts_ahead ahead origin)

-- The message of this origin, if there is one, was put among the others.
abbrev pub IsOwnedAt : FolderAhead → Option OpId → List (OpId × OwnedMessage)
    → List (OpId × OwnedMessage) → Type 0
IsOwnedAt ahead None old new = new ≡ old
IsOwnedAt ahead (Some origin) old new =
    (message : OwnedMessage) × (IsOrderly ahead → IsOwned ahead origin message)
    × ((id : OpId)
    → lookup (same_id id) new
    ≡ (if same_id origin id then Some message else lookup (same_id id) old))

-- The message of an origin in a mailbox after pending operations: the one that replaces a stored
-- one, or the stored one.
abbrev pub message_ahead : MailboxAhead → OpId → Option Message
message_ahead ahead origin =
    option_map (message_of_data origin) (message_data_at ahead.fresh.entries ahead.mailbox origin)
