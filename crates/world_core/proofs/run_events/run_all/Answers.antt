use Rattle.std.proofs.Common.{arith, length, ap}
use Rattle.world_core.specs.Replicas.{nodes_by_name, all_without_room}
use Rattle.world_core.proofs.RunLemmas.{run_append}
use Rattle.world_core.proofs.run_events.run_all.Goals as goal

pub loop-event-preserved : goal.loop-event-preserved
loop-event-preserved c =
    let i = c.loop-event.invariant in
    let next = (c.in-Some.ensures {u = tt}).steps.0 in
    let size = ap length next in
    let grown = c.push_reserved.ensures.len in
    let same_capacity = c.push_reserved.ensures.capacity in
    let room = i.room in
    record {
      ran = run_append (nodes_by_name (all_without_room c.args.nodes.now.items)) (nodes_by_name (all_without_room c.loop-event.nodes.items)) (nodes_by_name (all_without_room c.step-outcome.new.nodes.items)) c.args.events.items i.ran.0 c.loop-event.event-iterator.rest.items c.next.new.self.rest.items
          c.loop-event.list.items c.push_reserved.new.self.items c.in-Some.event c.step-outcome.result i.ran.1 next c.push_reserved.ensures.items i.ran.2 c.step-outcome.ensures;
      room = omega (arith, size, grown, same_capacity, room);
    }
