use Rattle.std.proofs.Common.{◌≡◌, drop}
use Rattle.std.specs.List.{list_any}
use Rattle.imap_commands.specs.EnableCommand.{is_modseq_item}
use Rattle.imap_commands.proofs.enable_command.has_modseq_item.Given as goal

abbrev pub invariant-loop-item : goal.invariant-loop-item
invariant-loop-item l = list_any is_modseq_item (drop l.item-index l.items) ≡ list_any is_modseq_item l.items
