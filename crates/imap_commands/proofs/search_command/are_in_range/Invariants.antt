use Rattle.std.proofs.Common.{◌≡◌, drop}
use Rattle.std.specs.List.{list_all}
use Rattle.imap_commands.specs.SearchCommand.{step_is_in_range}
use Rattle.imap_commands.proofs.search_command.are_in_range.Given as goal

abbrev pub invariant-loop-step : goal.invariant-loop-step
invariant-loop-step l =
    list_all (step_is_in_range l.view.entries) (drop l.step-index l.steps) ≡ list_all (step_is_in_range l.view.entries) l.steps
