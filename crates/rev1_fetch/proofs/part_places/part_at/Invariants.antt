use Rattle.std.proofs.Common.{◌≡◌, Some, drop}
use Rattle.rev1_fetch.specs.PartPlaces.{part_at, part_at_from}
use Rattle.rev1_fetch.proofs.part_places.part_at.Given as goal

abbrev pub invariant-loop-number : goal.invariant-loop-number
invariant-loop-number l = part_at_from l.is_first (drop l.number-index l.path) (Some l.found) ≡ part_at l.path l.parts
