use Rattle.std.proofs.Common.{◌∙◌, ap, length, sym}
use Rattle.imap_query.specs.FetchCommand.{fetch_answers}
use Rattle.imap_commands.proofs.GoneLemmas.{none_gone}
use Rattle.imap_commands.proofs.fetch_command.fetch_report.Goals as goal

pub code_for_answers-code-requires : goal.code_for_answers-code-requires
code_for_answers-code-requires c e =
    let items = c.as_slice.result.now in
    let mode = c.mode_of-mode.result in
    let before = c.mailbox.inside.rows in
    let view = c.entries-view.result.now.items in
    let shown = c.deref.ensures.value ∙ c.in_ok-shown.ensures in
    let own = c.deref-2.ensures.value ∙ c.in_ok-own.ensures ∙ ap (fetch_answers items mode before _) shown in
    none_gone items mode before _ view c.numbers-numbers.result.now (sym (ap length own) ∙ e)
