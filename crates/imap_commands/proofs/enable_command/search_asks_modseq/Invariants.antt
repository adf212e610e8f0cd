use Rattle.std.proofs.Common.{◌≡◌, drop}
use Rattle.imap_commands.specs.EnableCommand.{search_asks_modseq}
use Rattle.imap_commands.proofs.enable_command.search_asks_modseq.Given as goal

abbrev pub invariant-loop-step : goal.invariant-loop-step
invariant-loop-step l = search_asks_modseq (drop l.step-index l.steps) ≡ search_asks_modseq l.steps
