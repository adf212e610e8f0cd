use Rattle.std.proofs.Common.{◌≡◌, Bool, ap, sym, ◌∙◌}
use Rattle.imap_commands.specs.FetchCommand.{fetch_report}
use Rattle.imap_commands.specs.MailStates.{MailState, open_mailbox, rows_in}
use Rattle.imap_commands.specs.SessionStates.{report_if_selected}
use Rattle.imap_commands.specs.declared.session.State.{State}
use Rattle.imap_commands.proofs.ReportLemmas.{if_ok_is}
use Rattle.session_view.specs.ViewState.{ViewState}
use Rattle.imap_commands.proofs.fetch_command.report_of_fetch.Goals as goal

pub returns-then-is_unchanged : goal.returns-then-is_unchanged
returns-then-is_unchanged g c =
    let before = g.R.ReplicaMail.before c.args.replica.now in
    let after = g.R.ReplicaMail.after c.args.replica.now in
    let input = c.args.input.now in
    let request = c.args.request.now in
    let view = c.in-Selected.view in
    let read_only = c.in-Selected.read_only in
    let same : before ≡ after = sym (c.is_unchanged.ensures c.if-is_unchanged.true) in
    if_ok_is c.fetch_report.result _ _
    ((λ i. fetch_report (c.in_ok-mailbox.ensures {u = tt} i) (c.in_ok-mailbox.ensures {u = tt} i).rows input.modseq request)
    ∙ ap (λ (mail : MailState). fetch_report (open_mailbox before view read_only) (rows_in mail view) input.modseq request) same
    ∙ ap (λ (s : State). report_if_selected s (λ (view : ViewState) (read_only : Bool). fetch_report (open_mailbox before view read_only) (rows_in after view) input.modseq request)) (sym c.in-Selected.is))
    c.fetch_report.ensures
