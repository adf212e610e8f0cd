use Rattle.std.proofs.Common.{length, take, refl, subst}
use Rattle.imap_node.specs.Nodes.{NodeWithRoom, received_ops, replica_received}
use Rattle.imap_node.proofs.DeliveryLemmas.{ReleasesNext, counted, front, received_by_release, release_one, snapshot_of_grown}
use Rattle.imap_node.proofs.SessionChangeLemmas.{noted_as}
use Rattle.imap_node.proofs.node.Node.release_next.Goals as goal

pub returns-clause-answer : goal.returns-clause-answer
returns-clause-answer c =
    subst (λ (n : NodeWithRoom). ReleasesNext (received_ops n.state) c.release_next-released.result (replica_received c.release_next-released.new.self)) c.self.view_is c.release_next-released.ensures.answer

pub note_delivered-requires-clause-count : goal.note_delivered-requires-clause-count
note_delivered-requires-clause-count c =
    let old = replica_received c.self.inside.replica in
    let new = replica_received c.release_next-released.new.self in
    counted old new c.op_list-count.result.now c.op_list-count.ensures.applied (received_by_release old new c.release_next-released.result c.release_next-released.ensures.answer c.release_next-released.ensures.err)

pub note_delivered-requires-clause-snapshot : goal.note_delivered-requires-clause-snapshot
note_delivered-requires-clause-snapshot c =
    let old = replica_received c.self.inside.replica in
    let new = replica_received c.release_next-released.new.self in
    let r = c.release_next-released.result in
    let done = c.release_next-released.ensures in
    let next = c.in-Some.ensures in
    snapshot_of_grown old new c.op_list-count.result.now c.op_list-count.ensures.applied (received_by_release old new r done.answer done.err) next.0 c.snapshot_of-snapshot.result
    (release_one old new next.0 r c.op_list-count.ensures.lawful next.2 done.answer done.err)
    (c.snapshot_of-snapshot.ensures next.0 next.1)

pub invariant_of-self : goal.invariant_of-self
invariant_of-self c =
    let old = replica_received c.self.inside.replica in
    let new = replica_received c.release_next-released.new.self in
    let list = c.op_list-count.result.now in
    let more = received_by_release old new c.release_next-released.result c.release_next-released.ensures.answer c.release_next-released.ensures.err in
    c.note_delivered.ensures
    (noted_as old.start new.start old.applied (take (length list) new.applied) c.self.inside.sessions c.self.inside.sessions c.self.inside.feeds c.self.inside.feeds more.1 (front old new list c.op_list-count.ensures.applied more) refl (λ n. refl) c.self.invariant)
