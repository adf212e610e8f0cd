use Rattle.std.proofs.Common.{◌∙◌, subst, sym, refl, arith, add-one, IsTrue}
use Rattle.causal_inbox.specs.Inbox.{AreReleasedInTurn}
use Rattle.causal_inbox.specs.Releases.{Releases}
use Rattle.causal_inbox.proofs.ReleasesLemmas.{refused_stalls}
use Rattle.crdt_ops.specs.Ops.{clock_of, id_of}
use Rattle.imap_node.specs.Deliveries.{HoldsRipeOp}
use Rattle.imap_node.specs.Nodes.{received_ops}
use Rattle.uid_projection.specs.Exhaustion.{Exhausts}
use Rattle.imap_node.proofs.node.Node.drain.Goals as goal

pub returns-in-Err-clause-stalled : goal.returns-in-Err-clause-stalled
returns-in-Err-clause-stalled c =
    (λ t. subst HoldsRipeOp (sym c.in-Err.ensures.err) (refused_stalls id_of clock_of Exhausts (received_ops c.loop-applied.self.state) c.in-Err.field-0 c.in-Err.ensures.answer), λ t. refl)

pub loop-applied-preserved : goal.loop-applied-preserved
loop-applied-preserved c =
    let h = c.loop-applied.invariant in
    let old = received_ops c.loop-applied.self.state in
    let new = received_ops c.release_next.new.self.state in
    let one = subst (λ b. Releases id_of clock_of Exhausts old b new) c.in-Ok-true.field-0-test c.in-Ok-true.ensures.answer in
    record {
      released = record {
        sessions = c.in-Ok-true.ensures.sessions ∙ h.released.sessions;
        released = subst (λ n. AreReleasedInTurn id_of clock_of Exhausts n (received_ops c.args.self.now.state) new) (sym (add-one c.loop-applied.applied)) (old, h.released.released, one);
      };
      count = let a = h.count in let b = c.in-Ok-true.ensures.count (subst IsTrue (sym c.in-Ok-true.field-0-test) refl) in omega arith;
    }
