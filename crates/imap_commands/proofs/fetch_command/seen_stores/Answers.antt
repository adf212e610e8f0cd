use Rattle.std.proofs.Common.{◌∙◌, ap, sym}
use Rattle.std.specs.List.{list_any}
use Rattle.imap_query.specs.FetchCommand.{sets_seen}
use Rattle.imap_commands.specs.Arguments.{OpenMailbox}
use Rattle.imap_commands.proofs.SeenLemmas.{read_only_stores, unset_stores}
use Rattle.imap_commands.proofs.fetch_command.seen_stores.Goals.{then-mailbox-via-then-mailbox, then-mailbox-via-else-mailbox+then-not-any_sets_seen}
use Rattle.imap_commands.proofs.fetch_command.seen_stores.Goals as goal

pub returns-then-mailbox : goal.returns-then-mailbox
returns-then-mailbox c =
    let mailbox = c.args.mailbox.now in
    let request = c.args.request.now in
    let numbers = c.args.numbers.now in
    c.new-kinds.ensures.items
    ∙ elim c.then-mailbox.branch [
      | then-mailbox-via-then-mailbox w ↦ read_only_stores mailbox request numbers (sym (ap (λ (m : OpenMailbox). m.read_only) c.mailbox.view_is) ∙ w.if-mailbox.true)
      | then-mailbox-via-else-mailbox+then-not-any_sets_seen w ↦ unset_stores mailbox request numbers (sym (ap (λ items. list_any sets_seen items) w.as_slice.ensures) ∙ sym w.any_sets_seen.ensures ∙ w.if-not-any_sets_seen.true)
    ]
