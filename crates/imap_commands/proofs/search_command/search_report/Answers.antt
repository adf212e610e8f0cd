use Rattle.std.proofs.Common.{[], ◌∷◌, ◌∙◌}
use Rattle.std.proofs.lemmas.Result.{IfOk-weaker}
use Rattle.imap_answers.specs.declared.answer.Answer.TheVariants.{Search}
use Rattle.imap_commands.specs.Report.{report_of_answers}
use Rattle.imap_commands.proofs.search_command.search_report.Goals as goal

pub returns : goal.returns
returns c =
    IfOk-weaker c.one_answer.result _ _
    (λ report h. record {
      results = c.in_ok-results.results;
      finds = c.in_ok-results.ensures {u = tt};
      only = h ∙ (λ i. report_of_answers (Search (c.in_ok-tag.ensures {u = tt} i) c.args.request.now.by_uid c.in_ok-results.results ∷ []));
    })
    c.one_answer.ensures
