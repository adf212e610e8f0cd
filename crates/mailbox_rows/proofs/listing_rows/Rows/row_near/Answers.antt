use Rattle.std.proofs.Common.{◌≡◌, Some, option_map, ap, subst, sym, ◌∙◌}
use Rattle.std.specs.List.{slice_get}
use Rattle.mailbox_rows.specs.RowViews.{listed_message, row_of}
use Rattle.mailbox_rows.proofs.WindowLemmas.{row_of_get}
use Rattle.mailbox_rows.proofs.listing_rows.Rows.row_near.Goals as goal

pub returns-then-row-uid : goal.returns-then-row-uid
returns-then-row-uid c =
    let rows = c.args.self.now in
    let row = listed_message c.in-Some.row in
    let is_row : slice_get rows c.args.place ≡ Some row = sym c.row_at.ensures ∙ ap (option_map listed_message) c.in-Some.is in
    let changed : row_of row.uid rows ≡ Some row = row_of_get 1 rows c.args.place row c.len-len.ensures.rising is_row in
    sym (subst (λ uid. row_of uid rows ≡ Some row) c.if-row-uid.true changed)
