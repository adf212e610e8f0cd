use Rattle.std.proofs.Common.{◌∙◌, ap, sym}
use Rattle.std.specs.Option.{option_copied, option_map}
use Rattle.crdt_ops.specs.Sets.{MessageTagData}
use Rattle.imap_types.specs.Unions.{united_flags, version_ids}
use Rattle.folder_state.specs.FolderTables.{folder_contents}
use Rattle.folder_state.specs.MessageRefs.{message_ref, stored_dated_text}
use Rattle.folder_state.proofs.VersionLemmas.{some_message_ref}
use Rattle.folder_state.proofs.message_ref.message_ref.Goals as goal

pub returns-in-Some : goal.returns-in-Some
returns-in-Some c = λ v n same l.
    let post = c.with_dated_text.ensures in
    some_message_ref v n (folder_contents c.args.folder.now) c.args.origin.now c.in-Some.versions.now (option_map stored_dated_text (option_copied c.get.result)) (message_ref c.with_dated_text.result) same (c.in-Some.ensures {u = tt})
    (ap (option_map stored_dated_text) c.get.ensures.value ∙ sym l) post.origin (post.versions ∙ ap version_ids c.new.ensures) (post.flags ∙ ap united_flags c.new.ensures) post.date post.text

pub returns-in-None : goal.returns-in-None
returns-in-None c = λ v n same l h. c.in-None.ensures {u = tt} h.0 (ap (option_map (λ (b : MessageTagData). b.origin)) (sym (same h.0)) ∙ h.1)
