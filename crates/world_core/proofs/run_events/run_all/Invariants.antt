use Rattle.std.proofs.Common.{◌≡◌, ◌≤◌, ◌+◌, List, ◌++◌, length}
use Rattle.std.specs.Prelude.{vec_capacity, vec_len}
use Rattle.world_core.specs.declared.event.Event.{Event}
use Rattle.world_core.specs.Replicas.{nodes_by_name, all_without_room}
use Rattle.world_core.specs.Steps.{Runs}
use Rattle.world_core.proofs.run_events.run_all.Given as goal

abbrev pub invariant-loop-event : goal.invariant-loop-event
invariant-loop-event l = record {
  ran : (done : List Event) × (l.fn.events.items ≡ done ++ l.event-iterator.rest.items) × Runs (nodes_by_name (all_without_room l.initial.nodes.items)) done l.list.items (nodes_by_name (all_without_room l.nodes.items));
  room : vec_len l.list + length l.event-iterator.rest.items ≤ vec_capacity l.list;
}
