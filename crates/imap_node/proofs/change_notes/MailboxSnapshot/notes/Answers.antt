use Rattle.std.proofs.Common.{List, ℕ, subst}
use Rattle.imap_node.specs.ChangeNotes.{MailboxSnapshot, NamesTouched}
use Rattle.imap_node.proofs.ChangeNotesLemmas.{names_in}
use Rattle.imap_node.proofs.change_notes.MailboxSnapshot.notes.Goals as goal

pub returns-clause-notes : goal.returns-clause-notes
returns-clause-notes c = λ start before ops a is u n.
    let inside = c.self.inside in
    let notes = c.in_ok-notes.notes.items in
    let names = subst (λ (touched : List ℕ). NamesTouched inside.uidvalidity c.args.uidvalidity inside.uidnext c.args.uidnext touched notes) c.deref.ensures.value (c.in_ok-notes.ensures {u = tt}) in
    names_in start before ops c.args.self.name c.args.self c.args.uidvalidity c.args.uidnext notes a is u n (subst (λ (snapshot : MailboxSnapshot). NamesTouched snapshot.uidvalidity c.args.uidvalidity snapshot.uidnext c.args.uidnext snapshot.touched notes) c.self.view_is names)
