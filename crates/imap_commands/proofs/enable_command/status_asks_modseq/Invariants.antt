use Rattle.std.proofs.Common.{◌≡◌, drop}
use Rattle.imap_commands.specs.EnableCommand.{status_asks_modseq}
use Rattle.imap_commands.proofs.enable_command.status_asks_modseq.Given as goal

abbrev pub invariant-loop-item : goal.invariant-loop-item
invariant-loop-item l = status_asks_modseq (drop l.item-index l.items) ≡ status_asks_modseq l.items
