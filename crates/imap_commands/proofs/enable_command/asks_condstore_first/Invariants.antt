use Rattle.std.proofs.Common.{◌≡◌, drop}
use Rattle.imap_commands.specs.EnableCommand.{asks_condstore_first}
use Rattle.imap_commands.proofs.enable_command.asks_condstore_first.Given as goal

abbrev pub invariant-loop-name : goal.invariant-loop-name
invariant-loop-name l = asks_condstore_first (drop l.name-index l.names) ≡ asks_condstore_first l.names
