use Rattle.std.proofs.Common.{◌++◌, ℕ, List, length}
use Rattle.mail_audit.specs.AuditProgress.{HasAdvanced, HasTaken}
use Rattle.mail_audit.proofs.reader_audit.take_piece.Given as goal

abbrev pub invariant-lines : goal.invariant-lines
invariant-lines l = (front : List (List ℕ)) → HasTaken front l.fn.progress.audit → HasAdvanced front l.fn.progress.audit (l.fn.progress.lines ++ l.piece) l.progress.audit l.progress.lines

abbrev pub decreases-lines : goal.decreases-lines
decreases-lines l = length l.progress.lines
