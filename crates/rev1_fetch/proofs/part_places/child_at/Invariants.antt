use Rattle.std.proofs.Common.{◌≡◌, length}
use Rattle.rev1_fetch.specs.PartPlaces.{child_at}
use Rattle.rev1_fetch.proofs.part_places.child_at.Given as goal

abbrev pub invariant-loop-rest : goal.invariant-loop-rest
invariant-loop-rest l = child_at l.depth l.left l.rest ≡ child_at l.depth l.n l.parts

abbrev pub decreases-loop-rest : goal.decreases-loop-rest
decreases-loop-rest l = length l.rest
