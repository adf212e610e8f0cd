use Rattle.std.proofs.Common.{refl, ap, subst}
use Rattle.causal_inbox.specs.Inbox.{ReceivedOps}
use Rattle.crdt_ops.specs.declared.op.Op.{Op}
use Rattle.uid_projection.specs.declared.first_numbers.Counters.{Counters}
use Rattle.imap_node.proofs.SessionChangeLemmas.{noted_as}
use Rattle.imap_node.specs.Deliveries.{StallsAt}
use Rattle.imap_node.specs.Nodes.{NodeWithRoom}
use Rattle.imap_node.proofs.node.Node.stall.Goals as goal

pub returns-clause-stalls : goal.returns-clause-stalls
returns-clause-stalls c = subst (λ (n : NodeWithRoom). StallsAt n.state c.stall.result) c.self.view_is c.stall.ensures.stalls

pub invariant_of-self : goal.invariant_of-self
invariant_of-self c =
    let old = c.self.inside in
    let new = c.stall.new.self in
    noted_as old.replica.start new.start old.replica.applied new.applied old.sessions old.sessions old.feeds old.feeds (ap (λ (s : ReceivedOps Counters Op). s.start) c.stall.ensures.same) (ap (λ (s : ReceivedOps Counters Op). s.applied) c.stall.ensures.same) refl (λ n. refl)
    c.self.invariant
