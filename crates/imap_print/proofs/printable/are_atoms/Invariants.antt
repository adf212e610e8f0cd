use Rattle.std.proofs.Common.{◌↔◌, drop}
use Rattle.imap_answers.specs.Printable.{Each, IsAtom}
use Rattle.imap_print.proofs.printable.are_atoms.Given as goal

abbrev pub invariant-loop-word : goal.invariant-loop-word
invariant-loop-word l = Each IsAtom (drop l.word-index l.words) ↔ Each IsAtom l.words
