use Rattle.std.proofs.Common.{◌≡◌, ◌++◌, drop}
use Rattle.std.specs.List.{flat_map}
use Rattle.imap_commands.specs.StoreCommand.{stored_answer}
use Rattle.imap_commands.specs.Report.{message_at}
use Rattle.imap_commands.proofs.store_command.answers_of.Given as goal

abbrev pub invariant-loop-number : goal.invariant-loop-number
invariant-loop-number l =
    l.answers.items ++ flat_map (λ n. stored_answer l.condstore l.request n (message_at l.after l.view.items n)) (drop l.number-index l.taken) ≡ flat_map (λ n. stored_answer l.condstore l.request n (message_at l.after l.view.items n)) l.taken
