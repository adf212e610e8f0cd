use Rattle.std.proofs.Common.{ℕ, List, Option, ap, ◌∙◌}
use Rattle.mailbox_rows.specs.ListedMessage.{ListedMessage}
use Rattle.session_view.specs.ViewState.{rows_under}
use Rattle.imap_commands.proofs.replica_mail.rows_after.Goals as goal

pub returns : goal.returns
returns g c =
    let after = g.R.ReplicaMail.after c.args.replica.now in
    let view = c.args.view.now in
    c.rows_under.ensures
    ∙ ap (λ (now : Option ℕ). rows_under view.uidvalidity now c.in_ok-rows.rows) (c.uidvalidity_after.ensures ∙ ap (λ (name : List ℕ). after.uidvalidity name) c.name-2.ensures)
    ∙ ap (λ (rows : List ListedMessage). rows_under view.uidvalidity (after.uidvalidity view.name) rows) (c.in_ok-rows.ensures {u = tt} ∙ ap (λ (name : List ℕ). after.listing name) c.name.ensures)
