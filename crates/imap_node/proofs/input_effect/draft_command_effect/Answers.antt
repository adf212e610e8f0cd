use Rattle.std.proofs.Common.{Bool, ◌++◌, subst, ◌∙◌}
use Rattle.std.proofs.lemmas.Result.{IfOk-weaker}
use Rattle.imap_node.specs.Commands.{IsCommandReport}
use Rattle.imap_node.specs.Responses.{report_effect}
use Rattle.imap_node.proofs.input_effect.draft_command_effect.Goals as goal

pub returns : goal.returns
returns c =
    let start = c.args.replica.now.start in
    let ops = c.args.replica.now.applied in
    let all = c.args.replica.now.applied ++ c.args.ops.now in
    let tagged = c.args.tagged.now in
    let report = c.in_ok-report.report in
    IfOk-weaker c.draft_report_effect.result _ _
    (λ effect h. (
      report,
      subst (λ (modseq : Bool). IsCommandReport start ops all c.args.session.now.state modseq tagged.tag tagged.command report) c.is_on-modseq.ensures (c.in_ok-report.ensures {u = tt}),
      h c.args.session.now.state
          ∙ (λ i. report_effect (c.in_ok-first.ensures {u = tt} i) report (c.in_ok-moved.ensures {u = tt} c.args.session.now.state i) (c.is_on-modseq.ensures i) tagged.tag tagged.command),
    ))
    c.draft_report_effect.ensures
