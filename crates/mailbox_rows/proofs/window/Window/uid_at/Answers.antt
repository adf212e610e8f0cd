use Rattle.std.proofs.Common.{◌∙◌, sym, ap, option_map}
use Rattle.std.specs.List.{slice_get}
use Rattle.mailbox_rows.specs.ListedMessage.{ListedMessage}
use Rattle.mailbox_rows.proofs.WindowLemmas.{rows_uid}
use Rattle.mailbox_rows.proofs.window.Window.uid_at.Goals as goal

pub returns-in-Some : goal.returns-in-Some
returns-in-Some c = let w = c.self.inside in
    ap (option_map (λ e. e.uid)) (sym c.in-Some.is ∙ c.get.ensures) ∙ sym (rows_uid w.fresh.entries w.mailbox w.entries.entries c.args.place) ∙ ap (λ rows. option_map (λ (row : ListedMessage). row.uid) (slice_get rows c.args.place)) c.self.view_is

pub returns-in-None : goal.returns-in-None
returns-in-None c = let w = c.self.inside in
    ap (option_map (λ e. e.uid)) (sym c.in-None.is ∙ c.get.ensures) ∙ sym (rows_uid w.fresh.entries w.mailbox w.entries.entries c.args.place) ∙ ap (λ rows. option_map (λ (row : ListedMessage). row.uid) (slice_get rows c.args.place)) c.self.view_is
