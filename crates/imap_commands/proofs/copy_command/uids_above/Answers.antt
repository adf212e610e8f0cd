use Rattle.std.proofs.Common.{ℕ, List, ap, map, subst, sym, ◌∙◌}
use Rattle.imap_types.specs.Numbers.{AreRisingFrom}
use Rattle.mailbox_rows.specs.ListedMessage.{ListedMessage}
use Rattle.imap_commands.proofs.NamedLemmas.{rows_after_rising}
use Rattle.imap_commands.proofs.copy_command.uids_above.Goals as goal

pub returns-clause-rising : goal.returns-clause-rising
returns-clause-rising c =
    subst (λ (uids : List ℕ). AreRisingFrom 1 uids) (sym (c.in_ok-uids.ensures {u = tt} ∙ ap (λ (rows : List ListedMessage). map (λ (row : ListedMessage). row.uid) rows) c.place_after_uid.ensures.beyond))
    (rows_after_rising c.args.uid 1 c.args.rows.now c.count-count.ensures.rising)
