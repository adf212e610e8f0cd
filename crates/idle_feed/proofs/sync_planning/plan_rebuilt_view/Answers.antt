use Rattle.std.proofs.Common.{◌≡◌, List, [], length, map, sym, ap, ◌∙◌, subst, arith}
use Rattle.std.proofs.lemmas.List.{length-append, length-map}
use Rattle.session_view.specs.NoteChanges.{NoteAllChanges, notes_left_by_sync}
use Rattle.mailbox_rows.specs.RowViews.{rows_after_uid}
use Rattle.session_view.specs.Sync.{refreshed_entry, staying_entries, view_after_sync}
use Rattle.session_view.specs.Views.{entries_of, entry_of, last_uid}
use Rattle.session_view.specs.declared.notes.Note.{Note}
use Rattle.session_view.specs.declared.view_entry.ViewEntry.{ViewEntry}
use Rattle.session_view.specs.declared.view_entry.SyncKind.{SyncKind}
use Rattle.idle_feed.proofs.sync_planning.plan_rebuilt_view.Goals as goal

pub returns-clause-change : goal.returns-clause-change
returns-clause-change c = λ h.
    let kind = c.args.form.kind in
    let rows = c.args.rows.now in
    let replayed = c.in_ok-replayed.replayed.items in
    let stay = staying_entries kind rows replayed in
    let new = rows_after_uid (last_uid stay) rows in
    let shown : c.in_ok-entries.field-0.entries.items ≡ view_after_sync kind rows replayed = c.in_ok-entries.ensures.entries in
    let none : notes_left_by_sync kind rows replayed ≡ [] = ap (λ (k : SyncKind). notes_left_by_sync k rows replayed) (c.is_all-whole.ensures.full h) in
    let count = length-append (map (refreshed_entry rows) stay) (entries_of new) in
    let first = length-map stay (refreshed_entry rows) in
    let second = length-map new entry_of in
    let all : length (view_after_sync kind rows replayed) ≡ length rows = sym (ap length shown) ∙ sym c.len.ensures ∙ c.is_all-whole.ensures.count h ∙ c.count-listed.ensures.count in
    let left = ap length none in
    let names = c.equal_counts_suffice.ensures kind rows replayed c.count-listed.ensures.rising c.in_ok-replayed.ensures.rising (omega (arith, count, first, second, all, left)) in
    subst (λ (notes : List Note). NoteAllChanges notes rows c.in_ok-entries.field-0.entries.items) (sym c.new.ensures.items)
    (subst (λ (notes : List Note). NoteAllChanges notes rows c.in_ok-entries.field-0.entries.items) none
    (subst (λ (es : List ViewEntry). NoteAllChanges (notes_left_by_sync kind rows replayed) rows es) (sym shown) names))
