use Rattle.std.proofs.Common.{◌++◌, List, ℕ, sym, subst, ◌∙◌}
use Rattle.imap_node.specs.SessionFeeds.{MailboxNotes, NotesNameIn}
use Rattle.imap_node.specs.ChangeNotes.{AreNotesSoFar}
use Rattle.crdt_ops.specs.Tags.{name_of}
use Rattle.imap_node.proofs.ChangeNotesLemmas.{so_far_append}
use Rattle.imap_node.proofs.change_notes.push_notes_of_op.Goals as goal

pub returns : goal.returns
returns c =
    let start = c.args.replica.now.start in
    let before = c.args.replica.now.applied in
    let name = name_of c.args.kind.now in
    let done = c.in_ok-notes_of_mailbox.ensures {u = tt} in
    subst (λ (folders : List MailboxNotes). AreNotesSoFar start before c.args.ops.now name c.args.folders.now.items folders) (sym (c.in_ok-push.ensures {u = tt}).items)
    (so_far_append start before c.args.ops.now name c.args.folders.now.items c.in_ok-notes_of_mailbox.field-0 (done.name ∙ c.name-name.ensures) (subst (λ (n : List ℕ). NotesNameIn start before (before ++ c.args.ops.now) n c.in_ok-notes_of_mailbox.field-0.notes) c.name-name.ensures done.notes))
