use Rattle.std.proofs.Common.{◌∙◌, sym, ap, Some, option_map}
use Rattle.mailbox_rows.specs.RowViews.{head_of, listed_message}
use Rattle.mailbox_rows.proofs.listing_rows.Rows.search_head.Goals as goal

pub returns-in-Some : goal.returns-in-Some
returns-in-Some c =
    ap Some c.head.ensures ∙ ap (λ o. option_map head_of (option_map listed_message o)) (sym c.in-Some.is) ∙ ap (option_map head_of) c.row_of.ensures
