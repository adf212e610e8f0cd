use Rattle.std.proofs.Common.{◌≡◌, All, vec_capacity, vec_len}
use Rattle.chunk_list.specs.Room.{IsSpare}
use Rattle.chunk_list.proofs.reserved_room.spares_for.Given as goal

abbrev pub invariant-loop : goal.invariant-loop
invariant-loop g l = record { spares : All IsSpare l.spares.items; len : vec_len l.spares ≡ l.counter; capacity : vec_capacity l.spares ≡ l.places }
