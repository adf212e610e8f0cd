use Rattle.std.proofs.Common.{◌≡◌, ◌++◌, List, sym, ap, ◌∙◌, subst}
use Rattle.imap_cases.specs.Differences.{notes_of_entries, notes_of_rows}
use Rattle.session_view.specs.NoteChanges.{NoteAllChanges}
use Rattle.session_view.specs.declared.notes.Note.{Note}
use Rattle.imap_cases.proofs.DifferenceLemmas.{all_noted}
use Rattle.imap_cases.proofs.queries.views.differences.differences.Goals as goal

pub returns : goal.returns
returns c =
    let rows = c.args.rows.now in
    let view = c.args.view.now.items in
    let notes : c.new.result ≡ notes_of_entries rows view ++ notes_of_rows view rows =
    c.new.ensures
    ∙ c.in_ok-push_row_notes.ensures {u = tt}
    ∙ ap (λ (ns : List Note). ns ++ notes_of_rows view rows) (c.in_ok-push_entry_notes.ensures {u = tt} ∙ ap (λ (ns : List Note). ns ++ notes_of_entries rows view) c.new-notes.ensures.items) in
    subst (λ (ns : List Note). NoteAllChanges ns rows view) (sym notes) (all_noted rows view)
