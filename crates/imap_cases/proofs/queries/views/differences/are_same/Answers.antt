use Rattle.std.proofs.Common.{sym}
use Rattle.mailbox_rows.specs.RowViews.{listed_message}
use Rattle.session_view.proofs.SyncLemmas.{same_flags_is}
use Rattle.imap_cases.proofs.queries.views.differences.are_same.Goals as goal

pub returns : goal.returns
returns c =
    same_flags_is c.args.flags.now (listed_message c.args.row.now).flags c.has_flags.result
    (λ h. sym (c.has_flags.ensures.0 h), λ e. c.has_flags.ensures.1 (sym e))
