use Rattle.std.proofs.Common.{◌≡◌, ◌++◌, drop}
use Rattle.std.specs.List.{flat_map}
use Rattle.imap_commands.specs.StoreCommand.{silent_flags_at}
use Rattle.imap_commands.specs.Report.{entry_at}
use Rattle.imap_commands.proofs.store_command.silent_flags.Given as goal

abbrev pub invariant-loop-number : goal.invariant-loop-number
invariant-loop-number l =
    l.silent_flags.items ++ flat_map (λ n. silent_flags_at l.request.action.mode l.request.flags n (entry_at l.view.items n)) (drop l.number-index l.taken) ≡ flat_map (λ n. silent_flags_at l.request.action.mode l.request.flags n (entry_at l.view.items n)) l.taken
