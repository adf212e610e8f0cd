use Rattle.std.proofs.Common.{◌≡◌, ◌^◌, ◌-◌, length, min, take}
use Rattle.imap_types.specs.Numbers.{numbers_in}
use Rattle.imap_print.proofs.printable.count_in.Given as goal

abbrev pub invariant-loop-run : goal.invariant-loop-run
invariant-loop-run l = l.count ≡ min (length (numbers_in (take l.run-index l.runs))) (2 ^ 64 - 1)
