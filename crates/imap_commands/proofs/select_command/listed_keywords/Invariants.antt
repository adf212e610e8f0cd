use Rattle.std.proofs.Common.{◌≡◌, [], drop}
use Rattle.imap_commands.proofs.ListedKeywordLemmas.{with_rows}
use Rattle.imap_commands.proofs.select_command.listed_keywords.Given as goal

abbrev pub invariant-loop-place : goal.invariant-loop-place
invariant-loop-place l = with_rows (drop l.place l.rows) l.keywords ≡ with_rows l.rows []
