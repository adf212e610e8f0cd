use Rattle.std.proofs.Common.{◌++◌, Some, subst, sym}
use Rattle.imap_commands.specs.declared.session.State.{State}
use Rattle.imap_node.specs.InputEffects.{IsListingFor}
use Rattle.imap_node.proofs.plan.listing_after_ops.Goals as goal

pub returns-in_ok-rows_after-in-Selected : goal.returns-in_ok-rows_after-in-Selected
returns-in_ok-rows_after-in-Selected c =
    subst (λ (state : State). IsListingFor c.args.replica.now.start (c.args.replica.now.applied ++ c.args.ops.now) state (Some c.in_ok-rows_after-in-Selected.field-0)) (sym c.in-Selected.is) (c.in_ok-rows_after-in-Selected.ensures {u = tt})
