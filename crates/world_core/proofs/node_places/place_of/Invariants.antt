use Rattle.std.proofs.Common.{◌≡◌, None, take}
use Rattle.world_core.specs.Replicas.{nodes_by_name, all_without_room}
use Rattle.world_core.proofs.node_places.place_of.Given as goal

abbrev pub invariant-loop-place : goal.invariant-loop-place
invariant-loop-place l = nodes_by_name (all_without_room (take l.place l.nodes)) l.name ≡ None
