use Rattle.std.proofs.Common.{◌≡◌, ◌++◌, drop}
use Rattle.imap_commands.specs.FlagChange.{remaining_keywords}
use Rattle.imap_commands.proofs.flag_change.remaining_words.Given as goal

abbrev pub invariant-loop-keyword : goal.invariant-loop-keyword
invariant-loop-keyword l =
    l.left.items ++ remaining_keywords l.given (drop l.keyword-index l.keywords) ≡ remaining_keywords l.given l.keywords
