use Rattle.std.proofs.Common.{ℕ, List, ◌++◌, IfOk, sym, subst, ap, ◌∙◌}
use Rattle.imap_node.specs.SessionFeeds.{NotesNameIn}
use Rattle.imap_node.specs.ChangeNotes.{IsSnapshotOf}
use Rattle.uid_projection.specs.Incarnations.{uidvalidity_of}
use Rattle.uid_projection.specs.UidsAndModSeqs.{uidnext_of}
use Rattle.imap_node.proofs.change_notes.notes_of_mailbox.Goals as goal

pub returns-clause-notes : goal.returns-clause-notes
returns-clause-notes c =
    let start = c.args.replica.now.start in
    let before = c.args.replica.now.applied in
    let ops = c.args.ops.now in
    let snapshot = c.in_ok-snapshot.snapshot in
    let is = c.in_ok-snapshot.ensures {u = tt} in
    subst (λ (name : List ℕ). IfOk c.notes.result (λ folder. NotesNameIn start before (before ++ ops) name folder.notes)) is.name_is
    (c.notes.ensures.notes start before ops c.requires.follow.causal (subst (λ (name : List ℕ). IsSnapshotOf start before ops name snapshot) (sym is.name_is) is)
    (c.uidvalidity_after.ensures ∙ ap (λ (name : List ℕ). uidvalidity_of start name (before ++ ops)) (sym is.name_is)) (c.uidnext_after.ensures ∙ ap (λ (name : List ℕ). uidnext_of start name (before ++ ops)) (sym is.name_is)))
