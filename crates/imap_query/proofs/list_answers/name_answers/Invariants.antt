use Rattle.std.proofs.Common.{◌≡◌, ◌++◌, drop, map}
use Rattle.imap_query.specs.ListNames.{name_answer}
use Rattle.imap_query.proofs.list_answers.name_answers.Given as goal

abbrev pub invariant-loop-entry : goal.invariant-loop-entry
invariant-loop-entry l =
    l.answers.items ++ map (name_answer l.returned l.subscriptions) (drop l.entry-index l.entries) ≡ map (name_answer l.returned l.subscriptions) l.entries
