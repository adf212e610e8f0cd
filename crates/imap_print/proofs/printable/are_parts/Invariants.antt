use Rattle.std.proofs.Common.{◌↔◌, drop}
use Rattle.imap_answers.specs.Printable.{Each, IsPart}
use Rattle.imap_print.proofs.printable.are_parts.Given as goal

abbrev pub invariant-loop-part : goal.invariant-loop-part
invariant-loop-part l = Each IsPart (drop l.part-index l.parts) ↔ Each IsPart l.parts
