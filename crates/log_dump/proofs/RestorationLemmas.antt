use Rattle.std.proofs.Common.{◌≡◌, ◌≢◌, inl, inr, ℕ, zero, suc, ◌+◌, Result, Ok, Err, MatchResult, List, [], ◌∷◌, ◌++◌, append-nil, Some, refl, sym, ap, ◌∙◌, subst}
use Rattle.causal_inbox.specs.Delivery.{IsApplicable}
use Rattle.causal_inbox.specs.Inbox.{AreReleasedInTurn, IsReceived, ReceivedOps}
use Rattle.causal_inbox.specs.declared.delivery.Arrival.{Arrival}
use Rattle.causal_inbox.specs.declared.delivery.Arrival.TheVariants.{Applied, Held, Repeat}
use Rattle.causal_inbox.specs.declared.delivery.DeliverFault.{DeliverFault}
use Rattle.causal_inbox.specs.declared.delivery.DeliverFault.TheVariants as refusals
use Rattle.causal_inbox.specs.declared.delivery.Delivered.{Delivered}
use Rattle.crdt_ops.specs.Ops.{clock_of, id_of}
use Rattle.crdt_ops.specs.declared.op.Op.{Op}
use Rattle.imap_node.specs.Deliveries.{Delivers, IsRefusedAt}
use Rattle.imap_node.specs.Nodes.{NodeState, joined_node, received_ops}
use Rattle.merge_laws.specs.Orders.{HasId, IsIn, IsRipe}
use Rattle.merge_laws.proofs.Lists.{id_in_parts, id_of_element}
use Rattle.op_log.specs.Entries.{ops_of}
use Rattle.op_log.specs.declared.entry.Entry.{Entry}
use Rattle.op_log.specs.declared.entry.Entry.TheVariants.{Apply, Begin, Commit}
use Rattle.op_log.proofs.EntryLemmas.{ops_both}
use Rattle.uid_projection.specs.Exhaustion.{Exhausts}
use Rattle.uid_projection.specs.declared.first_numbers.Counters.{Counters}
use Rattle.log_dump.specs.EntryOrder.{FollowsEntries, first_name}
use Rattle.log_dump.specs.Restoration.{HasApplied, IsEntriesFault, IsTurnFault, result_of_arrival, result_of_delivery}
use Rattle.log_dump.specs.declared.apply.ApplyFault.{ApplyFault}
use Rattle.log_dump.specs.declared.apply.ApplyFault.TheVariants.{CannotFollow, NoMemory}
use Rattle.log_dump.specs.declared.apply.EntriesFault.{EntriesFault}
use Rattle.log_dump.specs.declared.apply.EntriesFault.TheVariants as entering

-- ---- one operation, delivered to a node that holds nothing

-- nothing is released
none_released : (count : ℕ) (old new : ReceivedOps Counters Op) → old.held ≡ [] → AreReleasedInTurn id_of clock_of Exhausts count old new → new ≡ old
none_released zero old new e h = h
none_released (suc count) old new e (before, released, next) =
    let same = none_released count old before e released in
    absurd (subst (IsIn next.op) (ap (λ (s : ReceivedOps Counters Op). s.held) same ∙ e) next.next.held)

-- What the call that applies an operation ensures of its result.
abbrev pub AppliesOp : NodeState → Op → Result (Unit {0}) ApplyFault → NodeState → Type 0
AppliesOp old op r new =
    MatchResult r (λ done. HasApplied old op new) (λ fault. fault ≡ CannotFollow → ¬ IsApplicable id_of clock_of Exhausts (received_ops old) op)

module _ (old : NodeState) (op : Op) (nothing : old.held ≡ []) where
  received_not_ripe : IsReceived (received_ops old) op → ¬ IsRipe id_of clock_of old.applied op
  received_not_ripe t ripe = elim t [ inl u ↦ ripe.1 (id_of_element id_of op old.applied u) | inr u ↦ absurd (subst (IsIn op) nothing u) ]

  conflict_not_ripe : HasId id_of (old.applied ++ old.held) op.id → ¬ IsRipe id_of clock_of old.applied op
  conflict_not_ripe h ripe = elim (id_in_parts id_of op.id old.applied old.held h) [ inl t ↦ ripe.1 t | inr t ↦ absurd (subst (λ (os : List Op). HasId id_of os op.id) nothing t) ]

  applied_at_once : (count : ℕ) (new : NodeState) → Delivers old op (Applied count) new → HasApplied old op new
  applied_at_once count new h =
      let same = none_released h.arrives.2.0 (record { start = old.start; applied = old.applied ++ op ∷ []; held = old.held }) (received_ops new) nothing h.arrives.2.2 in
      record {
        applicable = h.arrives.1;
        is = λ i. record { start = (same i).start; applied = (same i).applied; held = (same i).held; sessions = h.sessions i };
      }

  applies_by_ok : (new : NodeState) (r : Result (Unit {0}) ApplyFault) → r ≡ Ok tt → HasApplied old op new → AppliesOp old op r new
  applies_by_ok new r e h = subst (λ (x : Result (Unit {0}) ApplyFault). AppliesOp old op x new) (sym e) h

  applies_by_fault : (why : ApplyFault) (new : NodeState) (r : Result (Unit {0}) ApplyFault) → r ≡ Err why → (why ≡ CannotFollow → ¬ IsApplicable id_of clock_of Exhausts (received_ops old) op) → AppliesOp old op r new
  applies_by_fault why new r e h = subst (λ (x : Result (Unit {0}) ApplyFault). AppliesOp old op x new) (sym e) h

  applies_by_arrival : (arrival : Arrival) (new : NodeState) → Delivers old op arrival new → (r : Result (Unit {0}) ApplyFault) → r ≡ result_of_arrival arrival → AppliesOp old op r new
  applies_by_arrival (Applied count) new h r e = applies_by_ok new r e (applied_at_once count new h)
  applies_by_arrival Held new h r e = applies_by_fault CannotFollow new r e (λ same applicable. h.arrives.1.0 applicable.0)
  applies_by_arrival Repeat new h r e = applies_by_fault CannotFollow new r e (λ same applicable. received_not_ripe h.arrives.0 applicable.0)

  -- by the node's answer
  pub applies_by_answer : (answer : Result Delivered DeliverFault) (new : NodeState) → MatchResult answer (λ d. Delivers old op d.arrival new) (λ e. IsRefusedAt old op e) → (r : Result (Unit {0}) ApplyFault) → r ≡ result_of_delivery answer → AppliesOp old op r new
  applies_by_answer (Ok delivered) new h r e = applies_by_arrival delivered.arrival new h r e
  applies_by_answer (Err (refusals.Conflict id)) new h r e = applies_by_fault CannotFollow new r e (λ same applicable. conflict_not_ripe h.1 applicable.0)
  applies_by_answer (Err refusals.HeldFull) new h r e = applies_by_fault CannotFollow new r e (λ same applicable. h.1 applicable.0)
  applies_by_answer (Err refusals.Exhausted) new h r e = applies_by_fault CannotFollow new r e (λ same applicable. applicable.1 h.2)
  applies_by_answer (Err refusals.NoMemory) new h r e = applies_by_fault NoMemory new r e (λ same applicable. absurd cc)

-- ---- one entry

-- What the call that applies an entry ensures of its result.
abbrev pub AppliesEntry : ℕ → List Entry → Entry → Result (Unit {0}) ApplyFault → NodeState → Type 0
AppliesEntry replica front entry r new =
    MatchResult r (λ done. FollowsEntries replica front entry × (new ≡ joined_node replica (ops_of (front ++ entry ∷ []))))
    (λ fault. fault ≡ CannotFollow → ¬ FollowsEntries replica front entry)

module _ (replica : ℕ) (front : List Entry) (old : NodeState) (is : old ≡ joined_node replica (ops_of front)) where
  node_by_ops : (ops more : List Op) → ops ≡ ops_of front ++ more → more ≡ [] → old ≡ joined_node replica ops
  node_by_ops ops more e none = is ∙ ap (λ (os : List Op). joined_node replica os) (sym (e ∙ ap (λ (os : List Op). ops_of front ++ os) none ∙ append-nil (ops_of front)))

  pub applies_begin : (name : ℕ) (r : Result (Unit {0}) ApplyFault) → MatchResult r (λ done. name ≡ replica) (λ fault. name ≢ replica) → AppliesEntry replica front (Begin name) r old
  applies_begin name (Ok done) h = (h, node_by_ops (ops_of (front ++ Begin name ∷ [])) [] (ops_both front (Begin name ∷ [])) refl)
  applies_begin name (Err fault) h = λ same. h

  pub applies_commit : (synced : ℕ) → AppliesEntry replica front (Commit synced) (Ok tt) old
  applies_commit synced = (tt, node_by_ops (ops_of (front ++ Commit synced ∷ [])) [] (ops_both front (Commit synced ∷ [])) refl)

  pub applies_apply : (op : Op) (new : NodeState) (r : Result (Unit {0}) ApplyFault) → (old.held ≡ [] → AppliesOp old op r new) → AppliesEntry replica front (Apply op) r new
  applies_apply op new (Ok done) h =
      let a = h (ap (λ (n : NodeState). n.held) is) in (
        subst (λ (n : NodeState). IsApplicable id_of clock_of Exhausts (received_ops n) op) is a.applicable,
        a.is
            ∙ ap (λ (n : NodeState). record n { applied = n.applied ++ op ∷ [] }) is
            ∙ ap (λ (os : List Op). joined_node replica os) (sym (ops_both front (Apply op ∷ []))),
      )
  applies_apply op new (Err fault) h = λ same follows.
      h (ap (λ (n : NodeState). n.held) is) same (subst (λ (n : NodeState). IsApplicable id_of clock_of Exhausts (received_ops n) op) (sym is) follows)

-- ---- all entries

pub turn_fault : (entries : List Entry) (replica : ℕ) (fault : EntriesFault) → first_name entries ≡ Some replica → IsTurnFault replica entries fault → IsEntriesFault entries fault
turn_fault entries replica entering.NoMemory named h = tt
turn_fault entries replica (entering.CannotFollow place) named h = (h.0, inr (replica, named, h.1), h.2)
