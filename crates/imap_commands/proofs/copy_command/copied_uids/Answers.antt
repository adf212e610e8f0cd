use Rattle.std.proofs.Common.{ℕ, true, List, ap, subst, sym, ◌∙◌}
use Rattle.std.specs.Prelude.{not}
use Rattle.imap_types.specs.Numbers.{AreRisingFrom}
use Rattle.session_view.specs.Sets.{numbers_in_set}
use Rattle.imap_commands.specs.Arguments.{OpenMailbox}
use Rattle.imap_commands.specs.NamedMessages.{NamedMessages}
use Rattle.imap_commands.specs.Report.{is_gone, message_at}
use Rattle.imap_commands.proofs.NamedLemmas.{chosen_rising}
use Rattle.imap_commands.proofs.copy_command.copied_uids.Goals as goal

pub set_of-requires : goal.set_of-requires
set_of-requires c =
    let by_uid = c.requires.0 in
    let set = c.requires.1 in
    subst (λ (uids : List ℕ). AreRisingFrom 1 uids) (sym (c.deref-2.ensures.value ∙ c.in_ok-uids.ensures {u = tt}))
    (chosen_rising true by_uid set (λ n. not (is_gone (message_at c.mailbox.inside.rows c.entries-view.result.now.items n))) c.mailbox.inside.view.now.entries c.entries-view.result.now.items c.numbers.result.now c.deref.result.now
    c.entries-view.ensures.entries c.entries-view.ensures.rising (c.deref.ensures.value ∙ c.in_ok-existing.ensures {u = tt})
    (c.numbers.ensures ∙ ap (λ (f : NamedMessages). f.numbers) c.requires.2 ∙ ap (λ (m : OpenMailbox). numbers_in_set by_uid set m.view) (sym c.mailbox.view_is)))
