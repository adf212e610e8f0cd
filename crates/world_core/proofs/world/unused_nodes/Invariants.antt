use Rattle.std.proofs.Common.{◌≡◌, map, take}
use Rattle.imap_node.specs.Nodes.{unused_node}
use Rattle.world_core.specs.Replicas.{all_without_room}
use Rattle.world_core.proofs.world.unused_nodes.Given as goal

abbrev pub invariant-loop-start : goal.invariant-loop-start
invariant-loop-start l = all_without_room l.nodes.items ≡ map unused_node (take l.start-index l.starts)
