use Rattle.std.proofs.Common.{◌≡◌, ◌++◌, drop, map}
use Rattle.imap_query.specs.ListEntries.{names_of}
use Rattle.imap_query.specs.ListNames.{subscribed_answer}
use Rattle.imap_query.proofs.list_answers.subscribed_answers.Given as goal

abbrev pub invariant-loop-entry : goal.invariant-loop-entry
invariant-loop-entry l =
    l.answers.items ++ map (subscribed_answer l.folders) (names_of (drop l.entry-index l.entries)) ≡ map (subscribed_answer l.folders) (names_of l.entries)
