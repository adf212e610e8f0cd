use Rattle.std.proofs.Common.{refl}
use Rattle.std.specs.Option.{option_copied, option_map}
use Rattle.folder_state.specs.Tables.{contents_of}
use Rattle.folder_state.proofs.VersionLemmas.{mailbox_by_tables}
use Rattle.folder_state.proofs.folders.Folders.mailbox.Goals as goal

pub returns : goal.returns
returns c = record {
  contents = λ o.
      mailbox_by_tables (contents_of c.args.self.now) c.args.name.now (option_copied c.folder.result) c.message_table.ensures.indexed c.folder.ensures.tag_data c.args.self.now.dated_texts.entries (λ i. refl) o
      (option_map (λ messages. messages.now.entries) c.message_table.result) c.message_table.ensures.messages;
}
