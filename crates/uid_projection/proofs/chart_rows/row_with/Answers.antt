use Rattle.std.proofs.Common.{ap, ◌∙◌, sym}
use Rattle.mailbox_rows.specs.RowViews.{row_of}
use Rattle.folder_state.specs.Tables.{contents_of}
use Rattle.uid_projection.proofs.RowLemmas.{row_of_entry, row_then, row_by_message, rows_by_entries}
use Rattle.uid_projection.proofs.chart_rows.row_with.Goals as goal

pub returns-in-Some : goal.returns-in-Some
returns-in-Some c = λ start list u h m s.
    let n = c.args.folder.now in
    let es = c.args.entries.now.entries in
    let e = c.in-Some.entry in
    c.row.ensures
    ∙ row_by_message (contents_of c.args.value.now) list n e _ m (c.mailbox.ensures.contents e.origin)
    ∙ ap (row_then list n) (sym c.in-Some.is ∙ c.entry_with.ensures s.ascending) ∙ row_of_entry list n c.args.uid es s.ascending
    ∙ ap (row_of c.args.uid) (rows_by_entries start n list u h es s)

pub returns-in-None : goal.returns-in-None
returns-in-None c = λ start list u h m s.
    let n = c.args.folder.now in
    let es = c.args.entries.now.entries in
    ap (row_then list n) (sym c.in-None.is ∙ c.entry_with.ensures s.ascending) ∙ row_of_entry list n c.args.uid es s.ascending
    ∙ ap (row_of c.args.uid) (rows_by_entries start n list u h es s)
