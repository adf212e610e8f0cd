use Rattle.std.proofs.Common.{drop, length}
use Rattle.imap_answers.specs.Printable.{Each, IsWide}
use Rattle.imap_print.proofs.printable.names_fit.Given as goal

abbrev pub invariant-loop-name : goal.invariant-loop-name
invariant-loop-name l = Each (λ name. IsWide (length name)) (drop l.name-index l.names) → Each (λ name. IsWide (length name)) l.names
