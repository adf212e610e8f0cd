use Rattle.std.proofs.Common.{◌≡◌, ◌≢◌, List, None, refl, subst}
use Rattle.imap_node.specs.Nodes.{NodeWithRoom}
use Rattle.world_core.specs.Places.{IsPlace}
use Rattle.world_core.specs.Replicas.{nodes_by_name, all_without_room}
use Rattle.world_core.proofs.JoinLemmas.{node_at_place, without_room_append, some_node}
use Rattle.world_core.proofs.world_join.join.Goals as goal

pub returns-then-is_taken-clause-why : goal.returns-then-is_taken-clause-why
returns-then-is_taken-clause-why c = (refl, subst (λ (ns : List NodeWithRoom). nodes_by_name (all_without_room ns) c.args.name ≢ None) c.deref.ensures.value (c.is_taken.ensures.yes c.if-is_taken.true))

pub returns-in_default-reserve-clause-why : goal.returns-in_default-reserve-clause-why
returns-in_default-reserve-clause-why c = (
  subst (λ (ns : List NodeWithRoom). nodes_by_name (all_without_room ns) c.args.name ≡ None) c.deref.ensures.value (c.is_taken.ensures.no c.if-is_taken.false),
  some_node c.args.nodes.now.items c.args.from c.in-Some.place (subst (λ (ns : List NodeWithRoom). IsPlace ns c.args.from c.in-Some.place) c.deref-2.ensures.value c.in-Some.ensures),
)

pub returns-in-Ok-joined_node-clause-ok : goal.returns-in-Ok-joined_node-clause-ok
returns-in-Ok-joined_node-clause-ok c = (
  c.index.result.now.state,
  node_at_place c.args.nodes.now.items c.reserve.new.self.items c.args.from c.in-Some.place c.index.result.now
      (subst (λ (ns : List NodeWithRoom). IsPlace ns c.args.from c.in-Some.place) c.deref-2.ensures.value c.in-Some.ensures) c.reserve.ensures.items c.index.ensures,
  subst (λ (ns : List NodeWithRoom). nodes_by_name (all_without_room ns) c.args.name ≡ None) c.deref.ensures.value (c.is_taken.ensures.no c.if-is_taken.false),
  c.in-Ok-joined_node.ensures.1,
  without_room_append c.args.nodes.now.items c.reserve.new.self.items c.push_reserved.new.self.items c.in-Ok-joined_node.node _ c.reserve.ensures.items c.push_reserved.ensures.items c.in-Ok-joined_node.ensures.0,
)

pub returns-in-Err-Exhausted-clause-why : goal.returns-in-Err-Exhausted-clause-why
returns-in-Err-Exhausted-clause-why c = (
  subst (λ (ns : List NodeWithRoom). nodes_by_name (all_without_room ns) c.args.name ≡ None) c.deref.ensures.value (c.is_taken.ensures.no c.if-is_taken.false),
  (
    c.index.result.now.state,
    node_at_place c.args.nodes.now.items c.reserve.new.self.items c.args.from c.in-Some.place c.index.result.now
        (subst (λ (ns : List NodeWithRoom). IsPlace ns c.args.from c.in-Some.place) c.deref-2.ensures.value c.in-Some.ensures) c.reserve.ensures.items c.index.ensures,
    c.in-Err-Exhausted.ensures c.in-Err-Exhausted.field-0-is,
  ),
)

pub returns-in-Err-NoMemory-clause-why : goal.returns-in-Err-NoMemory-clause-why
returns-in-Err-NoMemory-clause-why c = (
  subst (λ (ns : List NodeWithRoom). nodes_by_name (all_without_room ns) c.args.name ≡ None) c.deref.ensures.value (c.is_taken.ensures.no c.if-is_taken.false),
  some_node c.args.nodes.now.items c.args.from c.in-Some.place (subst (λ (ns : List NodeWithRoom). IsPlace ns c.args.from c.in-Some.place) c.deref-2.ensures.value c.in-Some.ensures),
)
