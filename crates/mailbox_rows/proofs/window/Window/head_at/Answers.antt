use Rattle.std.proofs.Common.{◌∙◌, sym, ap, Some, option_map}
use Rattle.std.specs.List.{slice_get}
use Rattle.mailbox_rows.specs.RowViews.{head_of}
use Rattle.mailbox_rows.specs.MessageData.{row_by}
use Rattle.mailbox_rows.proofs.WindowLemmas.{rows_get}
use Rattle.mailbox_rows.proofs.window.Window.head_at.Goals as goal

pub returns-in-Some : goal.returns-in-Some
returns-in-Some c = let w = c.self.inside in
    ap Some c.head_of_entry.ensures ∙ ap (λ o. option_map head_of (option_map (row_by w.fresh.entries w.mailbox) o)) (sym c.in-Some.is ∙ c.get.ensures) ∙ ap (option_map head_of) (sym (rows_get w.fresh.entries w.mailbox w.entries.entries c.args.place)) ∙ ap (λ rows. option_map head_of (slice_get rows c.args.place)) c.self.view_is

pub returns-in-None : goal.returns-in-None
returns-in-None c = let w = c.self.inside in
    ap (λ o. option_map head_of (option_map (row_by w.fresh.entries w.mailbox) o)) (sym c.in-None.is ∙ c.get.ensures) ∙ ap (option_map head_of) (sym (rows_get w.fresh.entries w.mailbox w.entries.entries c.args.place)) ∙ ap (λ rows. option_map head_of (slice_get rows c.args.place)) c.self.view_is
