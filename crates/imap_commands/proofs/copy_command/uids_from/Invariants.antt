use Rattle.std.proofs.Common.{◌≡◌, ◌++◌, drop, map}
use Rattle.mailbox_rows.specs.ListedMessage.{ListedMessage}
use Rattle.imap_commands.proofs.copy_command.uids_from.Given as goal

abbrev pub invariant-loop-place : goal.invariant-loop-place
invariant-loop-place l =
    l.uids.items ++ map (λ (row : ListedMessage). row.uid) (drop l.place l.rows) ≡ map (λ (row : ListedMessage). row.uid) (drop l.start l.rows)
