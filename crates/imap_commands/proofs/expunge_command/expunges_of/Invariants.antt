use Rattle.std.proofs.Common.{◌≡◌, ◌++◌, drop}
use Rattle.imap_commands.specs.ExpungeCommand.{expunges_of}
use Rattle.imap_commands.proofs.expunge_command.expunges_of.Given as goal

abbrev pub invariant-loop-place : goal.invariant-loop-place
invariant-loop-place l =
    l.kinds.items ++ expunges_of l.folder (drop l.place l.before) ≡ expunges_of l.folder l.before
