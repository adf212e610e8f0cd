use Rattle.std.proofs.Common.{◌≡◌, IfOk, subst, sym}
use Rattle.imap_commands.specs.Commands.{IsCommandReport}
use Rattle.imap_commands.specs.SimpleCommands.{report_of_status}
use Rattle.imap_syntax.specs.declared.command.Command.{Command}
use Rattle.imap_commands.proofs.commands.command_report.Goals as goal

pub returns-in-Select : goal.returns-in-Select
returns-in-Select g c =
    let input = c.args.input.now in
    subst (λ (command : Command). IfOk c.report_of_select.result (λ report. IsCommandReport (g.R.ReplicaMail.before c.args.replica.now) (g.R.ReplicaMail.after c.args.replica.now) input.state.now input.modseq c.args.tagged.now.tag command report)) (sym c.in-Select.is)
    c.report_of_select.ensures

pub returns-in-Examine : goal.returns-in-Examine
returns-in-Examine g c =
    let input = c.args.input.now in
    subst (λ (command : Command). IfOk c.report_of_select-in-Examine.result (λ report. IsCommandReport (g.R.ReplicaMail.before c.args.replica.now) (g.R.ReplicaMail.after c.args.replica.now) input.state.now input.modseq c.args.tagged.now.tag command report)) (sym c.in-Examine.is)
    c.report_of_select-in-Examine.ensures

pub returns-in-ListNames : goal.returns-in-ListNames
returns-in-ListNames g c =
    let input = c.args.input.now in
    subst (λ (command : Command). IfOk c.report_of_list.result (λ report. IsCommandReport (g.R.ReplicaMail.before c.args.replica.now) (g.R.ReplicaMail.after c.args.replica.now) input.state.now input.modseq c.args.tagged.now.tag command report)) (sym c.in-ListNames.is)
    c.report_of_list.ensures

pub returns-in-Append : goal.returns-in-Append
returns-in-Append g c =
    let input = c.args.input.now in
    subst (λ (command : Command). IsCommandReport (g.R.ReplicaMail.before c.args.replica.now) (g.R.ReplicaMail.after c.args.replica.now) input.state.now input.modseq c.args.tagged.now.tag command c.report_of_append.result) (sym c.in-Append.is)
    c.report_of_append.ensures

pub returns-in-Status : goal.returns-in-Status
returns-in-Status g c =
    let input = c.args.input.now in
    subst (λ (command : Command). IfOk c.report_of_status.result (λ report. IsCommandReport (g.R.ReplicaMail.before c.args.replica.now) (g.R.ReplicaMail.after c.args.replica.now) input.state.now input.modseq c.args.tagged.now.tag command report)) (sym c.in-Status.is)
    (subst (λ items. IfOk c.report_of_status.result (λ report. report ≡ report_of_status (g.R.ReplicaMail.after c.args.replica.now) c.in-Status.name items)) c.as_slice-in-Status.ensures c.report_of_status.ensures)

pub returns-in-Search : goal.returns-in-Search
returns-in-Search g c =
    let input = c.args.input.now in
    subst (λ (command : Command). IfOk c.report_of_search.result (λ report. IsCommandReport (g.R.ReplicaMail.before c.args.replica.now) (g.R.ReplicaMail.after c.args.replica.now) input.state.now input.modseq c.args.tagged.now.tag command report)) (sym c.in-Search.is)
    c.report_of_search.ensures

pub returns-in-Fetch : goal.returns-in-Fetch
returns-in-Fetch g c =
    let input = c.args.input.now in
    subst (λ (command : Command). IfOk c.report_of_fetch.result (λ report. IsCommandReport (g.R.ReplicaMail.before c.args.replica.now) (g.R.ReplicaMail.after c.args.replica.now) input.state.now input.modseq c.args.tagged.now.tag command report)) (sym c.in-Fetch.is)
    c.report_of_fetch.ensures

pub returns-in-Store : goal.returns-in-Store
returns-in-Store g c =
    let input = c.args.input.now in
    subst (λ (command : Command). IfOk c.report_of_store.result (λ report. IsCommandReport (g.R.ReplicaMail.before c.args.replica.now) (g.R.ReplicaMail.after c.args.replica.now) input.state.now input.modseq c.args.tagged.now.tag command report)) (sym c.in-Store.is)
    c.report_of_store.ensures

pub returns-in-Copy : goal.returns-in-Copy
returns-in-Copy g c =
    let input = c.args.input.now in
    subst (λ (command : Command). IfOk c.report_of_copy.result (λ report. IsCommandReport (g.R.ReplicaMail.before c.args.replica.now) (g.R.ReplicaMail.after c.args.replica.now) input.state.now input.modseq c.args.tagged.now.tag command report)) (sym c.in-Copy.is)
    c.report_of_copy.ensures

pub returns-in-Move : goal.returns-in-Move
returns-in-Move g c =
    let input = c.args.input.now in
    subst (λ (command : Command). IfOk c.report_of_move.result (λ report. IsCommandReport (g.R.ReplicaMail.before c.args.replica.now) (g.R.ReplicaMail.after c.args.replica.now) input.state.now input.modseq c.args.tagged.now.tag command report)) (sym c.in-Move.is)
    c.report_of_move.ensures
