use Rattle.std.proofs.Common.{IfOk, subst, sym}
use Rattle.imap_commands.specs.Arguments.{OpenMailbox}
use Rattle.imap_commands.specs.SearchCommand.{IsReportOfSearch, IsSearchReport}
use Rattle.imap_commands.specs.declared.session.State.{State}
use Rattle.imap_commands.proofs.search_command.report_of_search.Goals as goal

pub returns : goal.returns
returns g c =
    let after = g.R.ReplicaMail.after c.args.replica.now in
    subst (λ (s : State). IfOk c.search_report.result (λ report. IsReportOfSearch after s c.args.tag.now c.args.request.now report)) (sym c.in-Selected.is)
    (subst (λ (mailbox : OpenMailbox). IfOk c.search_report.result (λ report. IsSearchReport mailbox c.args.tag.now c.args.request.now report)) (c.in_ok-mailbox.ensures {u = tt}) c.search_report.ensures)
