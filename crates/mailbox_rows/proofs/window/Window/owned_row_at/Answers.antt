use Rattle.std.proofs.Common.{◌∙◌, sym, ap, option_map}
use Rattle.std.specs.List.{slice_get}
use Rattle.mailbox_rows.specs.MessageData.{row_by}
use Rattle.mailbox_rows.proofs.WindowLemmas.{if_ok, rows_get}
use Rattle.mailbox_rows.proofs.window.Window.owned_row_at.Goals as goal

pub returns-in-Some : goal.returns-in-Some
returns-in-Some c = let w = c.self.inside in
    if_ok c.owned_row_of.result (λ row e. e ∙ ap (option_map (row_by w.fresh.entries w.mailbox)) (sym c.in-Some.is ∙ c.get.ensures) ∙ sym (rows_get w.fresh.entries w.mailbox w.entries.entries c.args.place) ∙ ap (λ rows. slice_get rows c.args.place) c.self.view_is) c.owned_row_of.ensures

pub returns-in-None : goal.returns-in-None
returns-in-None c = let w = c.self.inside in
    ap (option_map (row_by w.fresh.entries w.mailbox)) (sym c.in-None.is ∙ c.get.ensures) ∙ sym (rows_get w.fresh.entries w.mailbox w.entries.entries c.args.place) ∙ ap (λ rows. slice_get rows c.args.place) c.self.view_is
