use Rattle.std.proofs.Common.{◌≡◌, ◌-◌, length}
use Rattle.rev1_fetch.specs.PartNumbers.{numbers_from, part_number}
use Rattle.rev1_fetch.proofs.part_numbers.part_number.Given as goal

abbrev pub invariant-loop-turn : goal.invariant-loop-turn
invariant-loop-turn l = numbers_from (length l.section - l.turn) l.path.items l.rest ≡ part_number l.section
