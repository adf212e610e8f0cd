use Rattle.std.proofs.Common.{◌≡◌, ◌++◌, drop}
use Rattle.imap_query.specs.FetchCommand.{fetch_answers}
use Rattle.imap_query.proofs.fetch_command.fetch_in.Given as goal

abbrev pub invariant-loop-shown : goal.invariant-loop-shown
invariant-loop-shown l =
    l.answers.items ++ fetch_answers l.items l.fn.mode l.rows l.rows (drop l.shown-index l.named) ≡ fetch_answers l.items l.fn.mode l.rows l.rows l.named
