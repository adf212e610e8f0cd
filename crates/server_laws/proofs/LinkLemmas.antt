use Rattle.std.proofs.Common.{◌≡◌, ◌⊎◌, inl, inr, ℕ, zero, suc, ◌≤◌, Result, Ok, Err, List, [], ◌∷◌, ◌++◌, length, length-append, append_assoc, refl, sym, ap, ◌∙◌, subst, arith}
use Rattle.causal_inbox.specs.Inbox.{IsReceived}
use Rattle.causal_inbox.specs.declared.delivery.DeliverFault.{DeliverFault}
use Rattle.causal_inbox.specs.declared.delivery.Delivered.{Delivered as Receipt}
use Rattle.causal_inbox.proofs.Union.{arrival_unites, releases_stay}
use Rattle.crdt_ops.specs.declared.op.Op.{Op}
use Rattle.imap_commands.specs.declared.session.Session.{Session}
use Rattle.imap_node.specs.Nodes.{NodeState, received_ops, unused_node}
use Rattle.imap_node.specs.Operations.{clock_of, id_of}
use Rattle.imap_node.specs.Responses.{IsNodeAfter, AreHeldAfter, IsReply}
use Rattle.imap_node.specs.Sessions.{Places}
use Rattle.imap_node.specs.Steps.{DeliversAt, OpensAt}
use Rattle.imap_node.specs.declared.input.Input.{Input}
use Rattle.imap_node.specs.declared.input.Input.TheVariants as inputs
use Rattle.imap_node.specs.declared.reply.Reply.{Reply}
use Rattle.imap_node.specs.declared.reply.Reply.TheVariants.{Done, Refused}
use Rattle.imap_node.specs.declared.sessions.Auth.{Auth}
use Rattle.imap_node.specs.declared.sessions.OpenFault.{OpenFault}
use Rattle.imap_node.specs.declared.sessions.OpenFault.TheVariants.{NoMemory, TooManySessions}
use Rattle.merge_laws.specs.Orders.{IsIn}
use Rattle.merge_laws.proofs.Lists.{in_front, in_parts, split_at}
use Rattle.replica_lock.specs.Histories.{LeadsTo, BookState}
use Rattle.replica_lock.specs.Steps.{IsStep, TakesInput}
use Rattle.replica_lock.specs.declared.book.JournalEntry.{JournalEntry}
use Rattle.replica_lock.specs.declared.event.BookEvent.{BookEvent}
use Rattle.replica_lock.specs.declared.event.BookEvent.TheVariants.{Close, Command, Deliver, Drain, Line, Open, Poll}
use Rattle.replica_lock.specs.declared.outcome.Outcome.{Outcome}
use Rattle.replica_lock.specs.declared.outcome.Outcome.TheVariants.{Closed, Delivered, Drained, Opened, PassedOver, Replied}
use Rattle.server_laws.specs.Interleavings.{AreKnownBeforeDelivery, AreIssuedBeforeDelivery, ReplicaEntry, HasIssuedOrDelivered, IsIssuedAmong, IsWholeHistory, ops_of_outcome}
use Rattle.uid_projection.specs.Exhaustion.{Exhausts}

-- ---- a replica's entries issued or delivered all operations that it received

-- the operation had been received, or this event with this outcome issues or delivers it
abbrev IsReceivedOrNew : NodeState → BookEvent → Outcome → Op → Type 0
IsReceivedOrNew old event outcome op = IsReceived (received_ops old) op ⊎ (IsIn op (ops_of_outcome outcome) ⊎ (event ≡ Deliver op))

same_received : (old new : NodeState) (event : BookEvent) (outcome : Outcome) → new ≡ old → (op : Op) → IsReceived (received_ops new) op → IsReceivedOrNew old event outcome op
same_received old new event outcome e op t = inl (subst (λ (s : NodeState). IsReceived (received_ops s) op) e t)

opens_received : (old : NodeState) (auth : Auth) (answer : Result ℕ OpenFault) (new : NodeState) → OpensAt old auth answer new → (op : Op) → IsReceived (received_ops new) op → IsReceivedOrNew old (Open auth) (Opened answer) op
opens_received old auth (Ok n) new h op t = inl (subst (λ (s : NodeState). IsReceived (received_ops s) op) h.1 t)
opens_received old auth (Err TooManySessions) new h op t = same_received old new (Open auth) (Opened (Err TooManySessions)) h.1 op t
opens_received old auth (Err NoMemory) new h op t = same_received old new (Open auth) (Opened (Err NoMemory)) h op t

held_in : (ops old new : List Op) → AreHeldAfter ops old new → (op : Op) → IsIn op new → IsIn op old
held_in [] old new h op i = subst (IsIn op) h i
held_in (x ∷ ops) old new h op i = ((h op).0 i).0

holds_received : (old : NodeState) (ops : List Op) (places : Places) (new : NodeState) → IsNodeAfter old ops places new → (op : Op) → IsReceived (received_ops new) op → IsReceived (received_ops old) op ⊎ IsIn op ops
holds_received old ops places new h op t = elim t [
  | inl i ↦ elim (in_parts op old.applied ops (subst (IsIn op) h.applied i)) [ inl u ↦ inl (inl u) | inr v ↦ inr v ]
  | inr i ↦ inl (inr (held_in ops old.held new.held h.held op i))
]

reply_received : (old : NodeState) (n : ℕ) (session : Session) (input : Input) (reply : Reply) (new : NodeState) → IsReply old n session input reply new → (op : Op) → IsReceived (received_ops new) op
    → IsReceived (received_ops old) op ⊎ IsIn op (ops_of_outcome (Replied reply))
reply_received old n session input (Done answers silent issued) new c op t = holds_received old issued _ new c.becomes op t
reply_received old n session input (Refused why closed) new h op t = holds_received old [] _ new h.2 op t

input_received : (old : NodeState) (n : ℕ) (input : Input) (event : BookEvent) (outcome : Outcome) (new : NodeState) → TakesInput old n input outcome new → (op : Op) → IsReceived (received_ops new) op → IsReceivedOrNew old event outcome op
input_received old n input event (Opened answer) new h op t = absurd h
input_received old n input event (Replied reply) new h op t = elim (reply_received old n h.1.0 input reply new h.1.2 op t) [ inl r ↦ inl r | inr i ↦ inr (inl i) ]
input_received old n input event (Delivered answer) new h op t = absurd h
input_received old n input event (Drained drained) new h op t = absurd h
input_received old n input event Closed new h op t = absurd h
input_received old n input event PassedOver new h op t = same_received old new event PassedOver h.1 op t

delivery_received : (old : NodeState) (given : Op) (answer : Result Receipt DeliverFault) (new : NodeState) → DeliversAt old given answer new → (op : Op) → IsReceived (received_ops new) op → IsReceivedOrNew old (Deliver given) (Delivered answer) op
delivery_received old given (Ok receipt) new h op t = elim ((arrival_unites id_of clock_of Exhausts (received_ops old) (received_ops new) given receipt.arrival h.0.arrives op).0 t) [
  | inl r ↦ inl r
  | inr e ↦ inr (inr (ap (λ (o : Op). Deliver o) e))
]
delivery_received old given (Err fault) new h op t = same_received old new (Deliver given) (Delivered (Err fault)) h.1 op t

closes_received : (old : NodeState) (n : ℕ) (outcome : Outcome) (new : NodeState) → IsStep old (Close n) outcome new → (op : Op) → IsReceived (received_ops new) op → IsReceivedOrNew old (Close n) outcome op
closes_received old n (Opened answer) new h op t = absurd h
closes_received old n (Replied reply) new h op t = absurd h
closes_received old n (Delivered answer) new h op t = absurd h
closes_received old n (Drained drained) new h op t = absurd h
closes_received old n Closed new h op t = inl (subst (λ (s : NodeState). IsReceived (received_ops s) op) h.1 t)
closes_received old n PassedOver new h op t = same_received old new (Close n) PassedOver h.1 op t

step_received : (old : NodeState) (event : BookEvent) (outcome : Outcome) (new : NodeState) → IsStep old event outcome new → (op : Op) → IsReceived (received_ops new) op → IsReceivedOrNew old event outcome op
step_received old (Open auth) (Opened answer) new h op t = opens_received old auth answer new h op t
step_received old (Open auth) (Replied reply) new h op t = absurd h
step_received old (Open auth) (Delivered answer) new h op t = absurd h
step_received old (Open auth) (Drained drained) new h op t = absurd h
step_received old (Open auth) Closed new h op t = absurd h
step_received old (Open auth) PassedOver new h op t = absurd h
step_received old (Command n moment tagged) outcome new h op t = input_received old n (inputs.Command moment tagged) (Command n moment tagged) outcome new h op t
step_received old (Line n line) outcome new h op t = input_received old n (inputs.Line line) (Line n line) outcome new h op t
step_received old (Poll n) outcome new h op t = input_received old n inputs.Poll (Poll n) outcome new h op t
step_received old (Deliver given) (Opened answer) new h op t = absurd h
step_received old (Deliver given) (Replied reply) new h op t = absurd h
step_received old (Deliver given) (Delivered answer) new h op t = delivery_received old given answer new h op t
step_received old (Deliver given) (Drained drained) new h op t = absurd h
step_received old (Deliver given) Closed new h op t = absurd h
step_received old (Deliver given) PassedOver new h op t = absurd h
step_received old Drain (Opened answer) new h op t = absurd h
step_received old Drain (Replied reply) new h op t = absurd h
step_received old Drain (Delivered answer) new h op t = absurd h
step_received old Drain (Drained drained) new h op t = inl ((releases_stay id_of clock_of Exhausts drained.applied (received_ops old) (received_ops new) h.0.released op).0 t)
step_received old Drain Closed new h op t = absurd h
step_received old Drain PassedOver new h op t = absurd h
step_received old (Close n) outcome new h op t = closes_received old n outcome new h op t

all_received : (s : NodeState) (journal : List JournalEntry) (t : NodeState) → LeadsTo s journal t → (op : Op) → IsReceived (received_ops t) op → IsReceived (received_ops s) op ⊎ HasIssuedOrDelivered journal op
all_received s [] t h op r = inl (subst (λ (n : NodeState). IsReceived (received_ops n) op) h r)
all_received s (entry ∷ journal) t h op r = elim (all_received h.0 journal t h.2 op r) [
  | inl before ↦ elim (step_received s entry.event entry.outcome h.0 h.1 op before) [ inl had ↦ inl had | inr brings ↦ inr (entry, inl refl, brings) ]
  | inr later ↦ inr (later.0, inr later.1, later.2)
]

-- an entry of a whole history issued or delivered each operation in the list
pub issued_or_delivered : (book : BookState) (entries : List JournalEntry) → IsWholeHistory book entries → (op : Op) → IsIn op book.node.applied → HasIssuedOrDelivered entries op
issued_or_delivered book entries has op i =
    let leads = subst (λ (es : List JournalEntry). LeadsTo (unused_node book.node.start) es book.node) (sym has.2) has.1.leads in
    elim (all_received (unused_node book.node.start) entries book.node leads op (inl i)) [
      | inl none ↦ elim none [ inl u ↦ absurd u | inr u ↦ absurd u ]
      | inr was ↦ was
    ]

-- ---- an operation that was known before its delivery was issued before it

shorter : (fronts front back : List ReplicaEntry) (one : ReplicaEntry) (n : ℕ) → length fronts ≤ suc n → fronts ≡ front ++ one ∷ back → length front ≤ n
shorter fronts front back one n l e = let size = ap length e ∙ length-append front (one ∷ back) in omega (arith, l, size)

module _ (interleaving : List ReplicaEntry) (known : AreKnownBeforeDelivery interleaving) where
  issued_before : (n : ℕ) (front : List ReplicaEntry) (item : ReplicaEntry) (back : List ReplicaEntry) (op : Op) → length front ≤ n → interleaving ≡ front ++ item ∷ back → item.entry.event ≡ Deliver op → IsIssuedAmong front op
  issued_before zero [] item back op l cut e = absurd (known [] item back op cut e).1
  issued_before zero (x ∷ front) item back op l cut e = absurd (omega (arith, l))
  issued_before (suc n) front item back op l cut e =
      let w = known front item back op cut e in
      elim w.2 [
        | inl issued ↦ (w.0, w.1, issued)
        | inr delivered ↦
            let s = split_at w.0 front w.1 in
            let i = issued_before n s.0 w.0 (s.1 ++ item ∷ back) op (shorter front s.0 s.1 w.0 n l s.2)
            (cut ∙ ap (λ (hs : List ReplicaEntry). hs ++ item ∷ back) s.2 ∙ append_assoc s.0 (w.0 ∷ s.1) (item ∷ back)) delivered in
            (i.0, subst (IsIn i.0) (sym s.2) (in_front i.0 s.0 (w.0 ∷ s.1) i.1), i.2)
      ]

  pub issued_if_known : AreIssuedBeforeDelivery interleaving
  issued_if_known front item back op cut e = issued_before (length front) front item back op (omega arith) cut e
