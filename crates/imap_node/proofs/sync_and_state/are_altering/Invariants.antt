use Rattle.std.proofs.Common.{◌≡◌, drop}
use Rattle.std.specs.List.{list_any}
use Rattle.imap_node.specs.InputEffects.{is_altering}
use Rattle.imap_node.proofs.sync_and_state.are_altering.Given as goal

abbrev pub invariant-loop-answer : goal.invariant-loop-answer
invariant-loop-answer l = list_any is_altering (drop l.answer-index l.answers) ≡ list_any is_altering l.answers
