use Rattle.std.proofs.Common.{◌≡◌, List, sym, subst, ap, ◌∙◌}
use Rattle.session_view.specs.NoteChanges.{NoteAllChanges}
use Rattle.session_view.specs.ViewState.{ViewState}
use Rattle.session_view.specs.Views.{entries_of}
use Rattle.session_view.specs.declared.notes.Note.{Note}
use Rattle.imap_node.specs.SessionFeeds.{IsNotedFor, notes_in}
use Rattle.imap_node.specs.Mailboxes.{rows_for}
use Rattle.imap_node.specs.Replays.{view_in, view_of}
use Rattle.imap_node.proofs.SessionChangeLemmas.{same_view}
use Rattle.imap_node.proofs.feeds.note_one.Goals as goal

pub returns-in-Selected : goal.returns-in-Selected
returns-in-Selected c = record {
  noted = λ start before after view change_notes at noted.
      let own = c.in-Selected.view in
      let same : view ≡ own = same_view view own (sym at ∙ ap view_in c.in-Some.is ∙ ap view_of c.in-Selected.is) in
      let own_noted = subst (λ (v : ViewState). IsNotedFor start before c.args.feed.now.pending v) same noted in
      let named = subst (λ (notes : List Note). NoteAllChanges notes (rows_for start after own) (entries_of (rows_for start before own))) (sym (c.notes_of.ensures ∙ ap (notes_in c.args.change_notes.now) c.name.ensures)) (change_notes own.name own.uidvalidity) in
      subst (λ (v : ViewState). IsNotedFor start after c.note_all.new.feed.pending v) (sym same) (c.note_all.ensures.noted (rows_for start before own) (rows_for start after own) own.entries own_noted named);
}
