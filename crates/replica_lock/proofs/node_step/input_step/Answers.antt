use Rattle.std.proofs.Common.{◌≡◌, ◌∙◌, ℕ, ap, refl, sym}
use Rattle.std.specs.Prelude.{min}
use Rattle.std.proofs.lemmas.Bool.{false≢true}
use Rattle.imap_node.specs.Nodes.{NodeState}
use Rattle.imap_node.specs.declared.input.Input.{Input}
use Rattle.imap_node.specs.declared.input.Input.TheVariants as inputs
use Rattle.imap_node.specs.declared.reply.Reply.{Reply}
use Rattle.op_log.specs.LineBounds.{lines_bound}
use Rattle.replica_lock.specs.Steps.{event_of}
use Rattle.replica_lock.specs.StoreRoom.{IsNeeded, IsNeededByInput, issued_by}
use Rattle.replica_lock.proofs.node_step.input_step.Goals as goal

-- what an input needs, the event by which a session gets it needs
needed_by_event : (node : NodeState) (n : ℕ) (input : Input) (octets : ℕ) → IsNeededByInput node n input octets → IsNeeded node (event_of n input) octets
needed_by_event node n (inputs.Command moment tagged) octets h = h
needed_by_event node n (inputs.Line line) octets h = h
needed_by_event node n inputs.Poll octets h = h

pub returns-then-not-has_room-clause-fault : goal.returns-then-not-has_room-clause-fault
returns-then-not-has_room-clause-fault c =
    let plan = c.plan_for-plan.result in
    let needed = lines_bound (issued_by plan.reply) in (
      c.event_of-then-not-has_room.ensures,
      (
        needed,
        needed_by_event c.args.node.now.state c.args.session c.args.input needed (plan, c.if-not-awaits.ensures.taken.0 refl, c.plan_for-plan.ensures.responds, refl),
        c.octets_of_reply-octets.ensures ∙ ap (λ (reply : Reply). min (lines_bound (issued_by reply)) 18446744073709551615) c.reply.ensures,
        λ h. false≢true (sym c.if-not-has_room.true ∙ c.has_room.ensures.1 h),
      ),
    )
