use Rattle.std.proofs.Common.{◌≡◌, drop}
use Rattle.imap_commands.specs.Report.{are_some_gone}
use Rattle.imap_commands.proofs.report.are_some_gone.Given as goal

abbrev pub invariant-loop-number : goal.invariant-loop-number
invariant-loop-number l = are_some_gone l.rows l.view.items (drop l.number-index l.numbers) ≡ are_some_gone l.rows l.view.items l.numbers
