use Rattle.std.proofs.Common.{◌≡◌, drop}
use Rattle.imap_commands.specs.EnableCommand.{asks_imap4rev2}
use Rattle.imap_commands.proofs.enable_command.asks_imap4rev2.Given as goal

abbrev pub invariant-loop-name : goal.invariant-loop-name
invariant-loop-name l = asks_imap4rev2 (drop l.name-index l.names) ≡ asks_imap4rev2 l.names
