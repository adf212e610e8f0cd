use Rattle.std.proofs.Common.{◌∙◌, ap, subst, Ok}
use Rattle.causal_inbox.specs.declared.delivery.Arrival.{Arrival}
use Rattle.causal_inbox.proofs.ReleasesLemmas.{applied_and_released}
use Rattle.crdt_ops.specs.Ops.{clock_of, id_of}
use Rattle.imap_node.specs.Deliveries.{Delivers}
use Rattle.imap_node.specs.Nodes.{received_ops}
use Rattle.uid_projection.specs.Exhaustion.{Exhausts}
use Rattle.imap_node.proofs.node.Node.deliver.Goals as goal

pub returns-in-Applied-clause-answer : goal.returns-in-Applied-clause-answer
returns-in-Applied-clause-answer c =
    let old = c.args.self.now.state in
    let mid = c.receive.new.self.state in
    let new = c.drain-drained.new.self.state in
    let first = subst (λ (a : Arrival). Delivers old c.args.op a mid) c.in-Applied.is (c.in_ok-arrival.ensures {u = tt}).answer in
    let one = c.receive.ensures.one c.in-Applied.field-0 (c.in_ok-arrival.was ∙ ap Ok c.in-Applied.is) in
    record {
      sessions = c.drain-drained.ensures.released.sessions ∙ first.sessions;
      arrives = applied_and_released id_of clock_of Exhausts (received_ops old) (received_ops mid) (received_ops new) c.args.op c.in-Applied.field-0 c.drain-drained.result.applied first.arrives one c.drain-drained.ensures.released.released;
    }
