use Rattle.std.proofs.Common.{◌≡◌, drop}
use Rattle.std.specs.List.{list_any}
use Rattle.imap_query.specs.Hits.{step_names_modseq}
use Rattle.imap_query.proofs.search_command.asks_modseq.Given as goal

abbrev pub invariant-loop-step : goal.invariant-loop-step
invariant-loop-step l = list_any step_names_modseq (drop l.step-index l.steps) ≡ list_any step_names_modseq l.steps
