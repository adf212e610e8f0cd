-- The data of a mailbox's messages by their origins: versions, flags, date and text.

pub use Rattle.mailbox_rows.specs.ListingEntries.{first_of, is_id}
use Rattle.std.specs.Prelude.{ℕ, List, [], Option, Some, None, map}
use Rattle.std.specs.Global.{Vec}
use Rattle.std.specs.Map.{lookup}
use Rattle.std.specs.Option.{option_map, unwrap_or}
use Rattle.imap_types.specs.declared.flags.Flags.{Flags}
use Rattle.tags_clocks.specs.declared.id.OpId.{OpId}
use Rattle.imap_types.specs.Unions.{united_flags, version_ids}
use Rattle.imap_types.specs.declared.version.Version.{Version}
use Rattle.mailbox_rows.specs.declared.entry.ListingEntry.{ListingEntry}
use Rattle.mailbox_rows.specs.ListedMessage.{ListedMessage}
use Rattle.mailbox_rows.specs.RowViews.{epoch}
use Rattle.mailbox_rows.specs.declared.folder_messages.DatedText.{DatedText}
use Rattle.mailbox_rows.specs.declared.folder_messages.FolderMessages.{FolderMessages}
use Rattle.mailbox_rows.specs.declared.folder_messages.OwnedMessage.{OwnedMessage}

-- The data of a message: the ids of its versions' tags, the union of their flags, its date and
-- text.
pub record MessageData : Type 0 where
  pub versions : List OpId
  pub flags : Flags
  pub date : List ℕ
  pub text : List ℕ

-- The data of a message with these versions, this date and this text.
abbrev pub message_data : List Version → Option (List ℕ) → Option (List ℕ) → MessageData
message_data versions date text = record {
  versions = version_ids versions;
  flags = united_flags versions;
  date = unwrap_or date epoch;
  text = unwrap_or text [];
}

-- The data of a message with these versions and the date and text of its Append, if applied.
abbrev pub message_data_of : List Version → Option DatedText → MessageData
message_data_of versions dated_text =
    message_data versions (option_map (λ (l : DatedText). l.date) dated_text)
    (option_map (λ (l : DatedText). l.text) dated_text)

-- The data of a message as pending operations leave it.
abbrev pub owned_message_data : OwnedMessage → MessageData
owned_message_data m =
    message_data m.versions.items (option_map (λ date. date.now) m.date)
    (option_map (λ text. text.now) m.text)

-- The value of a map under this origin, if any.
abbrev pub entry_under : {X : Type 0} → OpId → List (OpId × X) → Option X
entry_under origin entries = lookup (is_id origin) entries

-- The versions under this origin, if there is a table that has it.
abbrev pub versions_in : Option (List (OpId × Vec Version)) → OpId → Option (List Version)
versions_in None origin = None
versions_in (Some messages) origin =
    option_map (λ (versions : Vec Version). versions.items) (entry_under origin messages)

-- A mailbox's two tables: its messages' versions, and the dates and texts of all Appends.
abbrev pub messages_of : FolderMessages → Option (List (OpId × Vec Version))
messages_of mailbox = option_map (λ messages. messages.now.entries) mailbox.messages

abbrev pub dated_texts_of : FolderMessages → List (OpId × DatedText)
dated_texts_of mailbox = mailbox.dated_texts.now.entries

-- The data of the mailbox's stored message of this origin, if it exists.
abbrev pub stored_message_data : FolderMessages → OpId → Option MessageData
stored_message_data mailbox origin =
    option_map (λ versions. message_data_of versions (entry_under origin (dated_texts_of mailbox)))
    (versions_in (messages_of mailbox) origin)

-- The data of the message of this origin: as pending operations leave it if they change it, else as
-- it is stored.
abbrev pub message_data_at : List (OpId × OwnedMessage) → FolderMessages → OpId → Option MessageData
message_data_at fresh mailbox origin =
    first_of (option_map owned_message_data (entry_under origin fresh))
    (stored_message_data mailbox origin)

-- A message with the numbers of its entry.
abbrev pub with_numbers : ListingEntry → MessageData → ListedMessage
with_numbers e message = record {
  uid = e.uid;
  modseq = e.modseq;
  origin = e.origin;
  versions = message.versions;
  flags = message.flags;
  date = message.date;
  text = message.text;
}

-- The data of an unknown message: no versions, no flags, no text.
abbrev pub no_message_data : MessageData
no_message_data = message_data [] None None

-- The message that an entry shows.
abbrev pub row_by : List (OpId × OwnedMessage) → FolderMessages → ListingEntry → ListedMessage
row_by fresh mailbox e =
    with_numbers e (unwrap_or (message_data_at fresh mailbox e.origin) no_message_data)

-- The messages that these entries show.
abbrev pub rows_by : List (OpId × OwnedMessage) → FolderMessages → List ListingEntry
    → List ListedMessage
rows_by fresh mailbox entries = map (row_by fresh mailbox) entries
