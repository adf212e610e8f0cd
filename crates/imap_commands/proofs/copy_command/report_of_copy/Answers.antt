use Rattle.std.proofs.Common.{ap, sym, ◌∙◌}
use Rattle.imap_commands.specs.Arguments.{OpenMailbox}
use Rattle.imap_commands.specs.CopyCommand.{copy_report, report_of_copy}
use Rattle.imap_commands.specs.NamedMessages.{messages_named_by}
use Rattle.imap_commands.specs.declared.session.State.{State}
use Rattle.imap_commands.proofs.ReportLemmas.{if_ok_is, named_in_mailbox}
use Rattle.imap_commands.proofs.copy_command.report_of_copy.Goals as goal

pub returns : goal.returns
returns g c =
    let before = g.R.ReplicaMail.before c.args.replica.now in
    let after = g.R.ReplicaMail.after c.args.replica.now in
    let state = c.args.input.now.state.now in
    let request = c.args.request.now in
    let exists = c.in_ok-mailbox.ensures {u = tt} in
    let target = c.in_ok-target.ensures {u = tt} in
    let named = named_in_mailbox before state c.in-Selected.view c.in-Selected.read_only c.in_ok-mailbox.mailbox (λ (m : OpenMailbox). messages_named_by request.by_uid request.messages m.view) c.args.input.now.named.now c.in-Selected.is exists c.requires.named in
    if_ok_is c.copy_report-report.result _ _
    ((λ i. copy_report (exists i) request (target i)) ∙ ap (λ (s : State). report_of_copy before after s request) (sym c.in-Selected.is))
    (c.copy_report-report.ensures request named)
