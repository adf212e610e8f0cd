use Rattle.std.proofs.Common.{ℕ, List, ◌++◌, Option, ap, ◌∙◌}
use Rattle.mailbox_rows.specs.ListedMessage.{ListedMessage}
use Rattle.session_view.specs.ViewState.{rows_under}
use Rattle.uid_projection.specs.Incarnations.{uidvalidity_of}
use Rattle.uid_projection.specs.Listing.{listing}
use Rattle.imap_node.proofs.replica_after.rows_after.Goals as goal

pub returns : goal.returns
returns c =
    let start = c.args.replica.now.start in
    let all = c.args.replica.now.applied ++ c.args.ops.now in
    let view = c.args.view.now in
    c.rows_under.ensures
    ∙ ap (λ (now : Option ℕ). rows_under view.uidvalidity now c.in_ok-rows.rows) (c.uidvalidity_after.ensures ∙ ap (λ (name : List ℕ). uidvalidity_of start name all) c.name-2.ensures)
    ∙ ap (λ (rows : List ListedMessage). rows_under view.uidvalidity (uidvalidity_of start view.name all) rows) (c.in_ok-rows.ensures {u = tt} ∙ ap (λ (name : List ℕ). listing start name all) c.name.ensures)
