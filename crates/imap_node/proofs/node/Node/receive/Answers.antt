use Rattle.std.proofs.Common.{length, take, refl, subst}
use Rattle.std.specs.Prelude.{MatchResult}
use Rattle.imap_node.specs.Deliveries.{Delivers, IsRefusedAt}
use Rattle.imap_node.specs.Nodes.{NodeWithRoom, replica_received}
use Rattle.imap_node.proofs.DeliveryLemmas.{counted, front, receive_one, received_by_delivery, snapshot_of_grown}
use Rattle.imap_node.proofs.PlanLemmas.{match_weaker}
use Rattle.imap_node.proofs.SessionChangeLemmas.{noted_as}
use Rattle.imap_node.proofs.node.Node.receive.Goals as goal

pub returns-clause-answer : goal.returns-clause-answer
returns-clause-answer c =
    subst (λ (n : NodeWithRoom).
    MatchResult c.receive-arrival.result
    (λ a. Delivers n.state c.args.op a (record { start = c.receive-arrival.new.self.start; applied = c.receive-arrival.new.self.applied; held = c.receive-arrival.new.self.held; sessions = c.self.inside.sessions }))
    (λ e. IsRefusedAt n.state c.args.op e)) c.self.view_is
    (match_weaker c.receive-arrival.result _ _ _ _ (λ d a. record { sessions = refl; arrives = a }) (λ e b. b) c.receive-arrival.ensures.answer)

pub note_delivered-requires-clause-count : goal.note_delivered-requires-clause-count
note_delivered-requires-clause-count c =
    let old = replica_received c.self.inside.replica in
    let new = replica_received c.receive-arrival.new.self in
    counted old new c.op_list-count.result.now c.op_list-count.ensures.applied (received_by_delivery old new c.args.op c.receive-arrival.result c.receive-arrival.ensures.answer c.receive-arrival.ensures.err)

pub note_delivered-requires-clause-snapshot : goal.note_delivered-requires-clause-snapshot
note_delivered-requires-clause-snapshot c =
    let old = replica_received c.self.inside.replica in
    let new = replica_received c.receive-arrival.new.self in
    let op = c.args.op in
    let r = c.receive-arrival.result in
    let done = c.receive-arrival.ensures in
    snapshot_of_grown old new c.op_list-count.result.now c.op_list-count.ensures.applied (received_by_delivery old new op r done.answer done.err) op c.snapshot_of-snapshot.result
    (receive_one old new op r done.answer done.err done.one)
    (c.snapshot_of-snapshot.ensures op c.from_ref.ensures.value)

pub invariant_of-self : goal.invariant_of-self
invariant_of-self c =
    let old = replica_received c.self.inside.replica in
    let new = replica_received c.receive-arrival.new.self in
    let list = c.op_list-count.result.now in
    let more = received_by_delivery old new c.args.op c.receive-arrival.result c.receive-arrival.ensures.answer c.receive-arrival.ensures.err in
    c.note_delivered.ensures
    (noted_as old.start new.start old.applied (take (length list) new.applied) c.self.inside.sessions c.self.inside.sessions c.self.inside.feeds c.self.inside.feeds more.1 (front old new list c.op_list-count.ensures.applied more) refl (λ n. refl) c.self.invariant)
