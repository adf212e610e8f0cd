use Rattle.std.proofs.Common.{List, ap, subst, ◌∙◌}
use Rattle.mailbox_rows.specs.RowViews.{changed_since}
use Rattle.mailbox_rows.specs.MessageData.{rows_by}
use Rattle.mailbox_rows.proofs.WindowLemmas.{if_ok, rows_changed}
use Rattle.mailbox_rows.proofs.window.Window.changed_since.Goals as goal

pub returns : goal.returns
returns c =
    let w = c.self.inside in
    if_ok c.owned_rows.result
    (λ rows is. is ∙ ap (rows_by w.fresh.entries w.mailbox) (c.deref.ensures.value ∙ c.in_ok-entries.ensures {u = tt}) ∙ rows_changed c.args.modseq w.fresh.entries w.mailbox w.entries.entries ∙ ap (changed_since c.args.modseq) c.self.view_is)
    c.owned_rows.ensures
