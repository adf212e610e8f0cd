-- A replica's work on the messages of others, and the run of a link's worker, as definitions over
-- any taker and any way to the other replicas.

use Rattle.std.specs.Prelude.{◌≡◌, ◌⊎◌, ◌||◌, ℕ, Bool, true, false, List, [], ◌∷◌, map, Option}
use Rattle.std.specs.Prelude.{None, Some, Ok, Err}
use Rattle.causal_inbox.specs.declared.delivery.Arrival.{Arrival}
use Rattle.causal_inbox.specs.declared.delivery.Arrival.TheVariants.{Applied, Held, Repeat}
use Rattle.causal_inbox.specs.declared.delivery.DeliverFault.TheVariants.{Conflict}
use Rattle.causal_inbox.specs.Inbox.{IsClockOf, uncovered_ops}
use Rattle.crdt_ops.specs.declared.op.Op.{Op}
use Rattle.merge_laws.specs.Orders.{IsCausal}
use Rattle.replica_links.specs.declared.peer_msg.PeerMsg.{PeerMsg}
use Rattle.replica_links.specs.declared.peer_msg.LinkMsg.{LinkMsg}
use Rattle.replica_links.specs.declared.peer_msg.LinkMsg.TheVariants.{Have, Ops, Stop}
use Rattle.replica_links.specs.declared.took.Took.{Took}
use Rattle.imap_node.specs.Operations.{clock_of, id_of}
use Rattle.replica_lock.specs.Passes.{PassState, IsCalled}
use Rattle.replica_lock.specs.declared.event.BookEvent.TheVariants.{Deliver, Drain}
use Rattle.replica_lock.specs.declared.outcome.Outcome.{Outcome}
use Rattle.replica_lock.specs.declared.outcome.Outcome.TheVariants.{Delivered}

-- No operation is lacking or stalled; one operation is lacking; the result of two deliveries
-- together.
abbrev pub complete_intake : Took
complete_intake = record { lacking = false; stalled = false }

abbrev pub lacking_intake : Took
lacking_intake = record { lacking = true; stalled = false }

abbrev pub joined_intake : Took → Took → Took
joined_intake one other =
    record { lacking = one.lacking || other.lacking; stalled = one.stalled || other.stalled }

-- A delivery, with its result.
pub record Delivery : Type 0 where
  pub op : Op
  pub took : Took

-- The result of several deliveries: each field is true if it is true of one of them.
abbrev pub total_intake : List Delivery → Took
total_intake [] = complete_intake
total_intake (g ∷ deliveries) = joined_intake g.took (total_intake deliveries)

-- The taker's steps for these deliveries and results lead from one state to the other.
abbrev pub AreDeliveries : {S : Type 0} → (S → Op → Took → S → Type 0) → S → List Delivery → S
    → Type 0
AreDeliveries takes s [] t = s ≡ t
AreDeliveries {S} takes s (g ∷ deliveries) t =
    (next : S) × takes s g.op g.took next × AreDeliveries takes next deliveries t

-- Exactly these operations were delivered to the taker, each once and in this order, and the result
-- is that of all deliveries.
pub record HasTakenOps {S : Type 0} (takes : S → Op → Took → S → Type 0) (s : S) (ops : List Op)
    (result : Took) (t : S) : Type 0 where
  pub deliveries : List Delivery
  pub steps : AreDeliveries takes s deliveries t
  pub in_order : map (λ (g : Delivery). g.op) deliveries ≡ ops
  pub total : result ≡ total_intake deliveries

-- The result of a delivery, by the outcome of its call. An operation that conflicts will never be
-- applied, so it isn't lacking.
abbrev pub is_held : Arrival → Bool
is_held (Applied count) = false
is_held Held = true
is_held Repeat = false

abbrev pub intake_of : Outcome → Took
intake_of (Delivered (Ok receipt)) =
    record { lacking = is_held receipt.arrival; stalled = receipt.stalled }
intake_of (Delivered (Err (Conflict id))) = complete_intake
intake_of _ = lacking_intake

-- A replica under its lock took an operation by one call, noted in its pass, that delivers only
-- this operation; or there was no call, and the operation is lacking.
abbrev pub IsTakenBy : PassState → Op → Took → PassState → Type 0
IsTakenBy p op took q =
    (IsCalled p (Deliver op) q
    × ((outcome : Outcome) × (q.last ≡ Some outcome) × (took ≡ intake_of outcome)))
    ⊎ ((q ≡ p) × (took ≡ lacking_intake))

-- After a delivery that stalled, one call applies held operations.
abbrev pub IsDrained : {S : Type 0} → (S → S → Type 0) → S → Bool → S → Type 0
IsDrained drains s true t = drains s t
IsDrained drains s false t = s ≡ t

-- Requests, over three relations: memory may run out for the replica's clock; it has this clock;
-- another replica is asked for all that a clock doesn't cover.
module _ {S P : Type 0} (lacks : S → Type 0) (has : S → List (ℕ × ℕ) → Type 0)
    (asks : P → ℕ → List (ℕ × ℕ) → P → Type 0) where
  -- The replica is asked, once, for all that this one's clock doesn't cover; not at all if memory
  -- runs out for the clock.
  abbrev pub MayAsk : S → P → ℕ → P → Type 0
  MayAsk s p from q =
      ((clock : List (ℕ × ℕ)) × has s clock × asks p from clock q) ⊎ (lacks s × (p ≡ q))

  -- Each of these replicas is asked in this way, one after another.
  abbrev pub AreAsked : S → P → List ℕ → P → Type 0
  AreAsked s p [] q = p ≡ q
  AreAsked s p (to ∷ rest) q = (next : P) × MayAsk s p to next × AreAsked s next rest q

  -- The sender is asked exactly when an operation is lacking.
  abbrev pub IsAsked : S → P → ℕ → Bool → P → Type 0
  IsAsked s p from true q = MayAsk s p from q
  IsAsked s p from false q = p ≡ q

  -- If a replica asks first, each of these others is asked.
  abbrev pub AreAskedFirst : List ℕ → Bool → S → P → P → Type 0
  AreAskedFirst peers true s p q = AreAsked s p peers q
  AreAskedFirst peers false s p q = p ≡ q

-- Messages of operations, over two further relations: a replica takes an operation; it applies held
-- ones.
module _ {S P : Type 0} (takes : S → Op → Took → S → Type 0) (drains : S → S → Type 0)
    (lacks : S → Type 0) (has : S → List (ℕ × ℕ) → Type 0)
    (asks : P → ℕ → List (ℕ × ℕ) → P → Type 0) where
  -- The result of a message of operations: they are delivered, each once and in their order; if one
  -- stalled, held ones are applied; and if one is lacking, the sender is asked for it.
  pub record IsTaken (s : S) (p : P) (from : ℕ) (ops : List Op) (t : S) (q : P) : Type 0 where
    pub took : Took
    pub between : S
    pub delivered : HasTakenOps takes s ops took between
    pub drained : IsDrained drains between took.stalled t
    pub asked : IsAsked lacks has asks t p from took.lacking q

-- Operations are sent to a replica, if there are any.
abbrev pub MaySendOps : {P : Type 0} → (P → ℕ → List Op → P → Type 0) → P → ℕ → List Op → P → Type 0
MaySendOps sends p to [] q = p ≡ q
MaySendOps sends p to (op ∷ ops) q = sends p to (op ∷ ops) q

-- Answers to requests, over three relations: memory may run out for the operations; the replica
-- gives these for a clock; another replica is sent operations.
module _ {S P : Type 0} (lacks : S → Type 0) (gives : S → List (ℕ × ℕ) → List Op → Type 0)
    (sends : P → ℕ → List Op → P → Type 0) where
  -- The result of a request: the sender is sent what the replica gives for its clock, and nothing
  -- if memory runs out for that.
  abbrev pub IsAnswered : S → P → ℕ → List (ℕ × ℕ) → P → Type 0
  IsAnswered s p from clock q =
      ((ops : List Op) × gives s clock ops × MaySendOps sends p from ops q) ⊎ (lacks s × (p ≡ q))

-- A replica under its lock applied held operations by one call, noted in its pass; or there was no
-- call.
abbrev pub IsDrainedBy : PassState → PassState → Type 0
IsDrainedBy p q = IsCalled p Drain q ⊎ (q ≡ p)

-- The clock of a list that the replica had applied when it was asked.
abbrev pub IsClockOfList : List (ℕ × ℕ) → Type 0
IsClockOfList clock =
    (applied : List Op) × IsCausal id_of clock_of applied × IsClockOf id_of applied clock

-- The operations that a replica had applied when it was asked and that the clock doesn't cover, in
-- their order.
abbrev pub AreUncoveredOps : List (ℕ × ℕ) → List Op → Type 0
AreUncoveredOps clock ops =
    (applied : List Op)
    × IsCausal id_of clock_of applied
    × (ops ≡ uncovered_ops id_of clock applied)

-- A caller of a replica under its lock can't know when memory runs out.
abbrev pub MayLack : PassState → Type 0
MayLack p = Unit {0}

-- Turns of a link, over all of these relations.
module _ {S P : Type 0} (takes : S → Op → Took → S → Type 0) (drains : S → S → Type 0)
    (lacks : S → Type 0) (has : S → List (ℕ × ℕ) → Type 0)
    (gives : S → List (ℕ × ℕ) → List Op → Type 0) (asks : P → ℕ → List (ℕ × ℕ) → P → Type 0)
    (sends : P → ℕ → List Op → P → Type 0) where
  -- The result of a message: its operations are taken; a request is answered; and after `Stop` no
  -- message is taken.
  abbrev pub IsMsgAnswered : ℕ → LinkMsg → Bool → S → P → S → P → Type 0
  IsMsgAnswered from (Ops ops) more s p t q =
      (more ≡ true) × IsTaken takes drains lacks has asks s p from ops.items t q
  IsMsgAnswered from (Have clock) more s p t q =
      (more ≡ true) × (s ≡ t) × IsAnswered lacks gives sends s p from clock q
  IsMsgAnswered from Stop more s p t q = (more ≡ false) × (s ≡ t) × (p ≡ q)

  -- A turn of a link's worker: a message is taken and answered, or these others are asked for what
  -- the replica lacks.
  abbrev pub IsTurn : List ℕ → Option PeerMsg → S → P → S → P → Type 0
  IsTurn peers (Some msg) s p t q =
      (more : Bool) × IsMsgAnswered msg.from msg.message more s p t q
  IsTurn peers None s p t q = (s ≡ t) × AreAsked lacks has asks s p peers q

  -- These turns, one after another.
  abbrev pub AreTurns : List ℕ → List (Option PeerMsg) → S → P → S → P → Type 0
  AreTurns peers [] s p t q = (s ≡ t) × (p ≡ q)
  AreTurns peers (turn ∷ turns) s p t q =
      (next : S) × (sent : P) × IsTurn peers turn s p next sent × AreTurns peers turns next sent t q

  -- Only such turns change a replica and its way to the others.
  abbrev pub TakesTurns : List ℕ → S → P → S → P → Type 0
  TakesTurns peers s p t q = (turns : List (Option PeerMsg)) × AreTurns peers turns s p t q

  -- The run of a link's worker: it asks the others first, if it is to, and then only takes turns.
  abbrev pub IsWorkerRun : List ℕ → Bool → S → P → S → P → Type 0
  IsWorkerRun peers asks_first s p t q =
      (started : P)
      × AreAskedFirst lacks has asks peers asks_first s p started
      × TakesTurns peers s started t q
