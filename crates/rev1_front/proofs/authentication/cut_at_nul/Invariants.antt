use Rattle.std.proofs.Common.{take}
use Rattle.imap_query.specs.Patterns.{IsIn}
use Rattle.rev1_front.proofs.authentication.cut_at_nul.Given as goal

abbrev pub invariant-loop-i : goal.invariant-loop-i
invariant-loop-i l = ¬ IsIn 0 (take l.i l.octets)
