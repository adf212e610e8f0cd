use Rattle.std.proofs.Common.{◌≡◌, length}
use Rattle.imap_lex.specs.MarkReading.{line_mark}
use Rattle.imap_lex.proofs.literal_mark.read_mark.Given as goal

abbrev pub invariant-loop-rest : goal.invariant-loop-rest
invariant-loop-rest l = line_mark l.rest ≡ line_mark l.line

abbrev pub decreases-loop-rest : goal.decreases-loop-rest
decreases-loop-rest l = length l.rest
