use Rattle.std.proofs.lemmas.Result.{IfOk-weaker}
use Rattle.imap_commands.proofs.select_command.select_report.Goals as goal

pub returns : goal.returns
returns c =
    IfOk-weaker c.report_with_flags.result _ _
    (λ report h. record { keywords = c.in_ok-keywords.keywords; borne = c.in_ok-keywords.ensures {u = tt}; only = h })
    c.report_with_flags.ensures
