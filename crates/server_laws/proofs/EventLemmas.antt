use Rattle.std.proofs.Common.{◌≡◌, inr, ℕ, Bool, true, false, Result, Ok, Err, refl, sym, subst}
use Rattle.causal_inbox.specs.declared.delivery.DeliverFault.{DeliverFault}
use Rattle.causal_inbox.specs.declared.delivery.Delivered.{Delivered as Receipt}
use Rattle.crdt_ops.specs.declared.op.Op.{Op}
use Rattle.imap_node.specs.Issues.{Issues, issued_by}
use Rattle.imap_node.specs.Nodes.{NodeState}
use Rattle.imap_node.specs.Responses.{Responds}
use Rattle.imap_node.specs.Steps.{DeliversAt}
use Rattle.imap_node.specs.declared.input.Input.{Input}
use Rattle.imap_node.specs.declared.input.Input.TheVariants as inputs
use Rattle.imap_node.specs.declared.reply.Reply.{Reply}
use Rattle.imap_node.proofs.IssueLemmas.{issues_of_responds}
use Rattle.merge_laws.specs.Orders.{IsIn}
use Rattle.merge_laws.proofs.Lists.{in_back}
use Rattle.replica_lock.specs.Steps.{IsAwaitedInput, IsStep, TakesInput}
use Rattle.replica_lock.specs.declared.event.BookEvent.{BookEvent}
use Rattle.replica_lock.specs.declared.event.BookEvent.TheVariants.{Close, Command, Deliver, Drain, Line, Open, Poll}
use Rattle.replica_lock.specs.declared.outcome.Outcome.{Outcome}
use Rattle.replica_lock.specs.declared.outcome.Outcome.TheVariants.{Closed, Delivered, Drained, Opened, PassedOver, Replied}
use Rattle.server_laws.specs.WorldEvents.{world_event, world_outcome}
use Rattle.server_laws.specs.Interleavings.{ops_of_outcome}
use Rattle.uid_projection.specs.Applied.{IsApplied}
use Rattle.world_core.specs.Replicas.{IsAt, IsIssuedIn, StepsAt, Replicas, with_node}
use Rattle.world_core.specs.Steps.{AnswersBy, AwaitsInput, NodeSteps, Steps, replica_of_event}
use Rattle.world_core.proofs.AwaitLemmas.{awaits_awake, awake_awaits}
use Rattle.world_core.proofs.StepLemmas.{takes_from}

-- ---- an entry as an event

answers : (old : NodeState) (n : ℕ) (input : Input) (idles : Bool) → (IsAwaitedInput old n input → AwaitsInput old n idles) → (AwaitsInput old n idles → IsAwaitedInput old n input) → (outcome : Outcome) (new : NodeState)
    → TakesInput old n input outcome new → AnswersBy old n idles input (world_outcome outcome) new
answers old n input idles up down (Opened answer) new h = absurd h
answers old n input idles up down (Replied reply) new h = (up h.0, h.1)
answers old n input idles up down (Delivered answer) new h = absurd h
answers old n input idles up down (Drained drained) new h = absurd h
answers old n input idles up down Closed new h = absurd h
answers old n input idles up down PassedOver new h = (λ a. h.0 (down a), h.1)

module _ (issued : Op → Type 0) (name : ℕ) where
  delivers : (old : NodeState) (op : Op) (answer : Result Receipt DeliverFault) (new : NodeState) → issued op → DeliversAt old op answer new → NodeSteps issued old (world_event name (Deliver op)) (world_outcome (Delivered answer)) new
  delivers old op (Ok receipt) new i h = takes_from issued old op.id (world_outcome (Delivered (Ok receipt))) new op i refl h
  delivers old op (Err fault) new i h = takes_from issued old op.id (world_outcome (Delivered (Err fault))) new op i refl h

  -- a step of a replica is a step of its node in a world, if each delivered operation was issued
  pub node_steps : (old : NodeState) (event : BookEvent) (outcome : Outcome) (new : NodeState) → ((op : Op) → event ≡ Deliver op → issued op) → IsStep old event outcome new
      → NodeSteps issued old (world_event name event) (world_outcome outcome) new
  node_steps old (Open auth) (Opened (Ok n)) new from h = h
  node_steps old (Open auth) (Opened (Err fault)) new from h = h
  node_steps old (Open auth) (Replied reply) new from h = absurd h
  node_steps old (Open auth) (Delivered answer) new from h = absurd h
  node_steps old (Open auth) (Drained drained) new from h = absurd h
  node_steps old (Open auth) Closed new from h = absurd h
  node_steps old (Open auth) PassedOver new from h = absurd h
  node_steps old (Command n moment tagged) outcome new from h = answers old n (inputs.Command moment tagged) false (awake_awaits old n) (awaits_awake old n) outcome new h
  node_steps old (Line n line) outcome new from h = answers old n (inputs.Line line) true (λ i. i) (λ a. a) outcome new h
  node_steps old (Poll n) outcome new from h = answers old n inputs.Poll true (λ i. i) (λ a. a) outcome new h
  node_steps old (Deliver op) (Opened answer) new from h = absurd h
  node_steps old (Deliver op) (Replied reply) new from h = absurd h
  node_steps old (Deliver op) (Delivered answer) new from h = delivers old op answer new (from op refl) h
  node_steps old (Deliver op) (Drained drained) new from h = absurd h
  node_steps old (Deliver op) Closed new from h = absurd h
  node_steps old (Deliver op) PassedOver new from h = absurd h
  node_steps old Drain (Opened answer) new from h = absurd h
  node_steps old Drain (Replied reply) new from h = absurd h
  node_steps old Drain (Delivered answer) new from h = absurd h
  node_steps old Drain (Drained drained) new from h = h
  node_steps old Drain Closed new from h = absurd h
  node_steps old Drain PassedOver new from h = absurd h
  node_steps old (Close n) (Opened answer) new from h = absurd h
  node_steps old (Close n) (Replied reply) new from h = absurd h
  node_steps old (Close n) (Delivered answer) new from h = absurd h
  node_steps old (Close n) (Drained drained) new from h = absurd h
  node_steps old (Close n) Closed new from h = h
  node_steps old (Close n) PassedOver new from h = h

-- an entry's event happens at its replica
replica_of_world_event : (name : ℕ) (event : BookEvent) → replica_of_event (world_event name event) ≡ name
replica_of_world_event name (Open auth) = refl
replica_of_world_event name (Command n moment tagged) = refl
replica_of_world_event name (Line n line) = refl
replica_of_world_event name (Poll n) = refl
replica_of_world_event name (Deliver op) = refl
replica_of_world_event name Drain = refl
replica_of_world_event name (Close n) = refl

-- a step of a replica is a step of the world that it is in
pub world_steps : (w : Replicas) (name : ℕ) (old : NodeState) (event : BookEvent) (outcome : Outcome) (new : NodeState) → IsAt w name old → ((op : Op) → event ≡ Deliver op → IsIssuedIn w op) → IsStep old event outcome new
    → Steps w (world_event name event) (world_outcome outcome) (with_node w name new)
world_steps w name old event outcome new at from step =
    let moves : StepsAt w name (λ before after. NodeSteps (IsIssuedIn w) before (world_event name event) (world_outcome outcome) after) (with_node w name new) =
    record { before = old; after = new; is_at = at; moves = node_steps (IsIssuedIn w) name old event outcome new from step; rest = refl } in
    inr (subst (λ (q : ℕ). StepsAt w q (λ before after. NodeSteps (IsIssuedIn w) before (world_event name event) (world_outcome outcome) after) (with_node w name new)) (sym (replica_of_world_event name event)) moves)

-- ---- the operations that an entry issued

reply_issues : (old new : NodeState) (n : ℕ) (input : Input) (reply : Reply) → IsApplied old.applied → Responds old n input reply new → (op : Op) → IsIn op (issued_by reply) → (op.id.replica ≡ old.start.replica) × IsIn op new.applied
reply_issues old new n input reply a h op i =
    let k : Issues old (issued_by reply) new = issues_of_responds old new n input reply a h in
    ((k.fresh op i).own, subst (IsIn op) (sym k.applied) (in_back op old.applied (issued_by reply) i))

-- an operation that a step issued bears the replica's name, and was applied there
pub step_issues : (old : NodeState) (event : BookEvent) (outcome : Outcome) (new : NodeState) → IsApplied old.applied → IsStep old event outcome new → (op : Op) → IsIn op (ops_of_outcome outcome)
    → (op.id.replica ≡ old.start.replica) × IsIn op new.applied
step_issues old event (Opened answer) new a h op i = absurd i
step_issues old event (Delivered answer) new a h op i = absurd i
step_issues old event (Drained drained) new a h op i = absurd i
step_issues old event Closed new a h op i = absurd i
step_issues old event PassedOver new a h op i = absurd i
step_issues old (Open auth) (Replied reply) new a h op i = absurd h
step_issues old (Command n moment tagged) (Replied reply) new a h op i = reply_issues old new n (inputs.Command moment tagged) reply a h.1 op i
step_issues old (Line n line) (Replied reply) new a h op i = reply_issues old new n (inputs.Line line) reply a h.1 op i
step_issues old (Poll n) (Replied reply) new a h op i = reply_issues old new n inputs.Poll reply a h.1 op i
step_issues old (Deliver other) (Replied reply) new a h op i = absurd h
step_issues old Drain (Replied reply) new a h op i = absurd h
step_issues old (Close n) (Replied reply) new a h op i = absurd h
