use Rattle.std.proofs.Common.{◌∙◌, ap}
use Rattle.mail_script.specs.Outcomes.{outcome_line}
use Rattle.mail_script.specs.declared.outcome_line.OutcomeLine.{OutcomeLine}
use Rattle.mail_replay.specs.Deliveries.{outcome_line_of}
use Rattle.tags_clocks.specs.declared.id.OpId.{OpId}
use Rattle.mail_replay.proofs.deliveries.deliver_and_print.Goals as goal

pub returns-clause-ok : goal.returns-clause-ok
returns-clause-ok c =
    let status = c.in_ok-status.status in
    let line = c.outcome_line_of-outcome.ensures ∙ ap (λ (i : OpId). outcome_line_of c.args.source i c.args.replica status) c.id-id.ensures in
    (outcome_line c.outcome_line_of-outcome.result, (status, (c.in_ok-status.ensures {u = tt}).ok, ap (λ (l : OutcomeLine). outcome_line l) line), (c.in_ok-write_outcome.ensures {u = tt}).ok)
