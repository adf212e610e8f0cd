use Rattle.std.proofs.Common.{◌≡◌, drop}
use Rattle.imap_commands.proofs.ListedKeywordLemmas.{with_keywords}
use Rattle.imap_commands.proofs.select_command.add_keywords.Given as goal

abbrev pub invariant-loop-word : goal.invariant-loop-word
invariant-loop-word l = with_keywords (drop l.word-index l.words) l.keywords ≡ with_keywords l.words l.initial.keywords
