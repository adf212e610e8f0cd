use Rattle.std.proofs.Common.{◌∙◌, sym, ap, length}
use Rattle.mailbox_rows.proofs.WindowLemmas.{rows_length}
use Rattle.mailbox_rows.proofs.window.Window.len.Goals as goal

pub returns : goal.returns
returns c = let w = c.self.inside in c.len.ensures ∙ sym (rows_length w.fresh.entries w.mailbox w.entries.entries) ∙ ap (λ rows. length rows) c.self.view_is
