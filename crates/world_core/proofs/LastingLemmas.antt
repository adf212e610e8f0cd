use Rattle.std.proofs.Common.{◌≡◌, inl, inr, ℕ, Bool, false, true, List, [], ◌∷◌, map, sym, subst}
use Rattle.crdt_ops.specs.declared.op.Op.{Op}
use Rattle.imap_node.specs.Nodes.{NodeState, joined_node, unused_node}
use Rattle.imap_node.specs.declared.input.Input.{Input}
use Rattle.imap_node.specs.declared.input.Input.TheVariants as inputs
use Rattle.imap_node.specs.declared.sessions.Auth.{Auth}
use Rattle.imap_node.specs.declared.sessions.OpenFault.TheVariants as opening
use Rattle.imap_node.proofs.LastingLemmas.{begins_lasting, delivery_lasts, drain_lasts, input_lasts}
use Rattle.tags_clocks.specs.declared.id.OpId.{OpId}
use Rattle.uid_projection.specs.declared.first_numbers.Counters.{Counters}
use Rattle.uid_projection.specs.Applied.{IsApplied}
use Rattle.uid_projection.specs.Bounds.{IsLasting}
use Rattle.world_core.specs.declared.event.Event.{Event}
use Rattle.world_core.specs.declared.event.Event.TheVariants as events
use Rattle.world_core.specs.declared.event.Outcome.{Outcome}
use Rattle.world_core.specs.declared.event.Outcome.TheVariants.{Opened, NotOpened, Replied, Taken, NotTaken, Drained, Closed, Joined, NotJoined, Restarted, NotRestarted, PassedOver}
use Rattle.world_core.specs.declared.world_join.JoinRefusal.TheVariants as refusals
use Rattle.world_core.specs.Joins.{JoinsPeer}
use Rattle.world_core.specs.Replicas.{IsAt, IsIssuedIn, Replicas, nodes_by_name}
use Rattle.world_core.specs.Restarts.{RestartsBy}
use Rattle.world_core.specs.Steps.{AnswersBy, ClosesBy, DeliversBy, DeliversOne, DrainsBy, IsTrace, NodeSteps, OpensBy, Runs, Steps, StepsWithoutNode, last_world, replica_of_event}
use Rattle.world_core.specs.WorldPromises.{CountersLast, IsIssuedWorld}
use Rattle.world_core.specs.Worlds.{AreFromOne}
use Rattle.world_core.proofs.BeginLemmas.{begins_fair, unused_at}
use Rattle.world_core.proofs.FairLemmas.{applied_at}
use Rattle.world_core.proofs.MoveLemmas.{step_keeps_promises}
use Rattle.world_core.proofs.NamedLemmas.{with_node_cases}
use Rattle.world_core.proofs.StepLemmas.{takes_parts}

-- ---- one node

abbrev Lasts : NodeState → Type 0
Lasts node = IsLasting node.start node.applied

module _ (issued : Op → Type 0) (old new : NodeState) (a : IsApplied new.applied) (l : Lasts old) where
  same_lasts : new ≡ old → Lasts new
  same_lasts e = subst Lasts (sym e) l

  answers_last : (n : ℕ) (idles : Bool) (input : Input) (outcome : Outcome) → AnswersBy old n idles input outcome new → Lasts new
  answers_last n idles input (Replied reply) h = input_lasts old new n input reply l h.1
  answers_last n idles input PassedOver h = same_lasts h.1
  answers_last n idles input _ h = absurd h

  opens_last : (auth : Auth) (outcome : Outcome) → OpensBy old auth outcome new → Lasts new
  opens_last auth (Opened n) h = subst Lasts (sym h.1) l
  opens_last auth (NotOpened opening.TooManySessions) h = same_lasts h.1
  opens_last auth (NotOpened opening.NoMemory) h = same_lasts h
  opens_last auth _ h = absurd h

  takes_one_lasts : (op : Op) (outcome : Outcome) → DeliversOne old op outcome new → Lasts new
  takes_one_lasts op (Taken delivered) h = delivery_lasts old new op delivered.arrival a l h.0
  takes_one_lasts op (NotTaken fault) h = same_lasts h.1
  takes_one_lasts op _ h = absurd h

  takes_last : (id : OpId) (outcome : Outcome) → DeliversBy issued old id outcome new → Lasts new
  takes_last id outcome h = elim (takes_parts issued old id outcome new h) [
    | inl e ↦ same_lasts e
    | inr t ↦ elim t.3 [ inl e ↦ same_lasts e | inr k ↦ takes_one_lasts t.0 outcome k ]
  ]

  drains_last : (outcome : Outcome) → DrainsBy old outcome new → Lasts new
  drains_last (Drained drained) h = drain_lasts old new drained.applied a l h.0
  drains_last _ h = absurd h

  closes_last : (n : ℕ) (outcome : Outcome) → ClosesBy old n outcome new → Lasts new
  closes_last n Closed h = subst Lasts (sym h.1) l
  closes_last n PassedOver h = same_lasts h.1
  closes_last n _ h = absurd h

  restarts_last : (outcome : Outcome) → RestartsBy old outcome new → Lasts new
  restarts_last Restarted h = subst Lasts (sym h.1) l
  restarts_last (NotRestarted refusals.Exhausted) h = same_lasts h.1
  restarts_last (NotRestarted refusals.NoMemory) h = same_lasts h
  restarts_last _ h = absurd h

  node_lasts : (event : Event) (outcome : Outcome) → NodeSteps issued old event outcome new → Lasts new
  node_lasts (events.Open at auth) outcome h = opens_last auth outcome h
  node_lasts (events.Command at session moment tagged) outcome h = answers_last session false (inputs.Command moment tagged) outcome h
  node_lasts (events.IdleLine at session line) outcome h = answers_last session true (inputs.Line line) outcome h
  node_lasts (events.Poll at session) outcome h = answers_last session true inputs.Poll outcome h
  node_lasts (events.Deliver at id) outcome h = takes_last id outcome h
  node_lasts (events.Drain at) outcome h = drains_last outcome h
  node_lasts (events.Close at session) outcome h = closes_last session outcome h
  node_lasts (events.Join name peer) outcome h = same_lasts h.1
  node_lasts (events.Restart at) outcome h = restarts_last outcome h

-- ---- a world

abbrev AllLast : Replicas → Type 0
AllLast w = (name : ℕ) (node : NodeState) → IsAt w name node → Lasts node

last_unchanged : (w v : Replicas) → AllLast w → v ≡ w → AllLast v
last_unchanged w v l e = subst AllLast (sym e) l

joins_last : (w : Replicas) → IsIssuedWorld w → AllLast w → (name peer : ℕ) (outcome : Outcome) (v : Replicas) → JoinsPeer w name peer outcome v → AllLast v
joins_last w f l name peer Joined v (from, at, lasting, is) = subst AllLast (sym is) (λ q node h. elim (with_node_cases w name (joined_node name from.applied) q node h) [
  | inl t ↦ subst Lasts t.1 (record { applied = applied_at w f peer from at; not_exhausted = lasting })
  | inr t ↦ l q node t.1
])
joins_last w f l name peer (NotJoined refusals.Exhausted) v (from, at, lacks, is) = last_unchanged w v l is
joins_last w f l name peer (NotJoined refusals.NoMemory) v (from, at, is) = last_unchanged w v l is
joins_last w f l name peer PassedOver v (no_node, is) = last_unchanged w v l is
joins_last w f l name peer (Opened session) v h = absurd h
joins_last w f l name peer (NotOpened fault) v h = absurd h
joins_last w f l name peer (Replied reply) v h = absurd h
joins_last w f l name peer (Taken delivered) v h = absurd h
joins_last w f l name peer (NotTaken fault) v h = absurd h
joins_last w f l name peer (Drained drained) v h = absurd h
joins_last w f l name peer Closed v h = absurd h
joins_last w f l name peer Restarted v h = absurd h
joins_last w f l name peer (NotRestarted fault) v h = absurd h

stepped_without_node_lasts : (w : Replicas) → IsIssuedWorld w → AllLast w → (event : Event) (outcome : Outcome) (v : Replicas) → StepsWithoutNode w event outcome v → AllLast v
stepped_without_node_lasts w f l (events.Join name peer) outcome v h = joins_last w f l name peer outcome v h
stepped_without_node_lasts w f l (events.Open at auth) outcome v h = last_unchanged w v l h.1
stepped_without_node_lasts w f l (events.Command at session moment tagged) outcome v h = last_unchanged w v l h.1
stepped_without_node_lasts w f l (events.IdleLine at session line) outcome v h = last_unchanged w v l h.1
stepped_without_node_lasts w f l (events.Poll at session) outcome v h = last_unchanged w v l h.1
stepped_without_node_lasts w f l (events.Deliver at id) outcome v h = last_unchanged w v l h.1
stepped_without_node_lasts w f l (events.Drain at) outcome v h = last_unchanged w v l h.1
stepped_without_node_lasts w f l (events.Close at session) outcome v h = last_unchanged w v l h.1
stepped_without_node_lasts w f l (events.Restart at) outcome v h = last_unchanged w v l h.1

step_lasts : (w v : Replicas) (event : Event) (outcome : Outcome) → IsIssuedWorld w → IsIssuedWorld v → AllLast w → Steps w event outcome v → AllLast v
step_lasts w v event outcome f g l h = elim h [
  | inl t ↦ stepped_without_node_lasts w f l event outcome v t.1
  | inr t ↦ λ q node at. elim (with_node_cases w (replica_of_event event) t.after q node (subst (λ (x : Replicas). IsAt x q node) t.rest at)) [
    | inl own ↦
        subst Lasts own.1
        (node_lasts (IsIssuedIn w) t.before t.after (subst (λ (n : NodeState). IsApplied n.applied) (sym own.1) (applied_at v g q node at)) (l (replica_of_event event) t.before t.is_at) event outcome t.moves)
    | inr other ↦ l q node other.1
  ]
]

trace_lasts : (old : Replicas) (events : List Event) (outcomes : List Outcome) (moments : List Replicas) → IsIssuedWorld old → AllLast old → IsTrace old events outcomes moments → AllLast (last_world old moments)
trace_lasts old [] [] [] f l h = l
trace_lasts old (event ∷ events) (outcome ∷ outcomes) (next ∷ moments) f l h =
    let g = (step_keeps_promises old f event outcome next h.0).fair in
    trace_lasts next events outcomes moments g (step_lasts old next event outcome f g l h.0) h.1
trace_lasts old [] [] (next ∷ moments) f l h = absurd h
trace_lasts old [] (outcome ∷ outcomes) moments f l h = absurd h
trace_lasts old (event ∷ events) [] moments f l h = absurd h
trace_lasts old (event ∷ events) (outcome ∷ outcomes) [] f l h = absurd h

-- in a run that begins with new replicas no counter lacks a number for what its replica applied
pub counters_last : (starts : List Counters) (events : List Event) (outcomes : List Outcome) (new : Replicas) → AreFromOne starts → Runs (nodes_by_name (map unused_node starts)) events outcomes new → CountersLast new
counters_last starts events outcomes new first h name node at =
    let begins : AllLast (nodes_by_name (map unused_node starts)) = (λ q m i. let s = unused_at starts q m i in subst Lasts s.2 (begins_lasting s.0)) in
    (trace_lasts (nodes_by_name (map unused_node starts)) events outcomes h.moments (begins_fair starts first) begins h.trace name node (subst (λ (w : Replicas). IsAt w name node) h.ends at)).not_exhausted
