use Rattle.std.proofs.Common.{◌≡◌, drop}
use Rattle.imap_commands.specs.EnableCommand.{asks_condstore}
use Rattle.imap_commands.proofs.enable_command.asks_condstore.Given as goal

abbrev pub invariant-loop-name : goal.invariant-loop-name
invariant-loop-name l = asks_condstore (drop l.name-index l.names) ≡ asks_condstore l.names
