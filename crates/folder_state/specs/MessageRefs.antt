-- Messages borrowed from folders.

use Rattle.std.specs.Prelude.{List}
use Rattle.std.specs.Global.{Vec}
use Rattle.std.specs.Map.{lookup}
use Rattle.std.specs.Option.{option_map, unwrap_or}
use Rattle.tags_clocks.specs.declared.id.OpId.{OpId}
use Rattle.imap_types.specs.declared.version.Version.{Version}
use Rattle.imap_types.specs.Unions.{united_flags, version_ids}
use Rattle.crdt_ops.specs.declared.message.Message.{Message}
use Rattle.crdt_ops.specs.SortedSets.{same_id}
use Rattle.crdt_ops.specs.Sets.{DatedText, no_dated_text}
use Rattle.mailbox_rows.specs.MessageData.{MessageData}
use Rattle.mailbox_rows.specs.declared.folder_messages.DatedText.{DatedText as StoredDatedText}
use Rattle.folder_state.specs.FolderTables.{versions_at}
use Rattle.folder_state.specs.declared.message_ref.MessageRef.{MessageRef}

-- A stored date and text.
abbrev pub stored_dated_text : StoredDatedText → DatedText
stored_dated_text dated = record { date = dated.date; text = dated.text }

-- The message of an origin with this data.
abbrev pub message_of_data : OpId → MessageData → Message
message_of_data origin message_data =
    record {
      origin = origin;
      versions = message_data.versions;
      flags = message_data.flags;
      date = message_data.date;
      text = message_data.text;
    }

-- A borrowed message, as a value.
abbrev pub message_ref : MessageRef → Message
message_ref message = record {
  origin = message.origin;
  versions = version_ids message.versions.list.now;
  flags = united_flags message.versions.list.now;
  date = unwrap_or (option_map (λ date. date.now) message.date) no_dated_text.date;
  text = unwrap_or (option_map (λ text. text.now) message.text) no_dated_text.text;
}

-- The message of an origin, read from the tables.
abbrev pub stored_message : List (OpId × Vec Version) → List (OpId × StoredDatedText) → OpId
    → Message
stored_message messages dated_texts origin =
    let dated : DatedText = unwrap_or
    (option_map stored_dated_text (lookup (same_id origin) dated_texts)) no_dated_text in
    record {
      origin = origin;
      versions = version_ids (versions_at messages origin);
      flags = united_flags (versions_at messages origin);
      date = dated.date;
      text = dated.text;
    }
