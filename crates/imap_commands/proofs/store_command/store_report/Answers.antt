use Rattle.std.proofs.Common.{◌∙◌, ap, sym}
use Rattle.imap_commands.specs.NamedMessages.{NamedMessages, messages_stored_by}
use Rattle.imap_commands.specs.StoreCommand.{is_refused}
use Rattle.imap_commands.specs.Report.{message_at}
use Rattle.imap_commands.proofs.NamedLemmas.{chosen_rising}
use Rattle.imap_commands.proofs.store_command.store_report.Goals as goal

pub store_code-requires : goal.store_code-requires
store_code-requires c =
    let request = c.args.request.now in
    chosen_rising request.by_uid request.by_uid request.messages (λ n. is_refused request.unchanged_since (message_at c.mailbox.inside.rows c.entries-view.result.now.items n)) c.mailbox.inside.view.now.entries c.entries-view.result.now.items
    c.numbers-numbers.result.now c.deref.result.now c.entries-view.ensures.entries c.entries-view.ensures.rising (c.deref.ensures.value ∙ c.in_ok-refused.ensures {u = tt})
    (c.numbers-numbers.ensures ∙ ap (λ (f : NamedMessages). f.numbers) c.requires ∙ (λ i. (messages_stored_by (sym c.mailbox.view_is i) request).numbers))
