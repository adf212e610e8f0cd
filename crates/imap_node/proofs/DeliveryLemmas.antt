-- Deliveries and releases: what they apply, and the mailbox's snapshot before them.
use Rattle.std.proofs.Common.{◌≡◌, ℕ, ◌+◌, ◌<◌, ◌≤◌, Bool, true, false, List, [], ◌∷◌, ◌++◌, length, take, IfOk, Ok, Err, refl, sym, ap, ◌∙◌, append-nil, subst, arith}
use Rattle.std.specs.Prelude.{Result, MatchResult, OnErr}
use Rattle.std.specs.declared.alloc.AllocError.{AllocError}
use Rattle.std.proofs.lemmas.Result.{IfOk-weaker}
use Rattle.merge_laws.specs.declared.follower.NotReady.{NotReady}
use Rattle.causal_inbox.specs.Delivery.{IsArrival, IsDeliverFault}
use Rattle.causal_inbox.specs.Inbox.{ReceivedOps, IsLawfulInbox, IsNextReleased}
use Rattle.causal_inbox.specs.ReceivedSets.{HasGrown}
use Rattle.causal_inbox.specs.Releases.{Releases, RefusesRelease}
use Rattle.causal_inbox.specs.declared.delivery.Arrival.{Arrival}
use Rattle.causal_inbox.specs.declared.delivery.Arrival.TheVariants.{Applied, Held, Repeat}
use Rattle.causal_inbox.specs.declared.delivery.DeliverFault.{DeliverFault}
use Rattle.causal_inbox.proofs.ReleasesLemmas.{next_is_applied, one_applied}
use Rattle.causal_inbox.proofs.Union.{arrival_grows, arrival_start}
use Rattle.crdt_ops.specs.Ops.{clock_of, id_of}
use Rattle.crdt_ops.specs.Tags.{name_of}
use Rattle.crdt_ops.specs.declared.op.Op.{Op}
use Rattle.imap_node.specs.ChangeNotes.{MailboxSnapshot, IsSnapshotOf}
use Rattle.imap_node.proofs.SessionChangeLemmas.{grown_long, grown_take}
use Rattle.uid_projection.specs.Exhaustion.{Exhausts}
use Rattle.uid_projection.specs.declared.first_numbers.Counters.{Counters}

-- the applied operations grew at their end, and the first numbers stayed
abbrev pub HasGrownReceived : ReceivedOps Counters Op → ReceivedOps Counters Op → Type 0
HasGrownReceived old new = HasGrown old.applied new.applied × (new.start ≡ old.start)

received_same : (old new : ReceivedOps Counters Op) → new ≡ old → HasGrownReceived old new
received_same old new e = (([], ap (λ (s : ReceivedOps Counters Op). s.applied) e ∙ sym (append-nil old.applied)), ap (λ (s : ReceivedOps Counters Op). s.start) e)

-- if the applied operations stay, none was applied
none_applied : (old new : List Op) (P : Type 0) → new ≡ old → length old < length new → P
none_applied old new P e l = let k = ap (λ (ops : List Op). length ops) e in absurd (omega (arith, k, l))

-- ---- a delivery

abbrev pub Receives : ReceivedOps Counters Op → Op → Result Arrival DeliverFault → ReceivedOps Counters Op → Type 0
Receives old op r new = MatchResult r (λ arrival. IsArrival id_of clock_of Exhausts old op arrival new) (λ e. IsDeliverFault id_of clock_of Exhausts old op e)

pub received_by_delivery : (old new : ReceivedOps Counters Op) (op : Op) (r : Result Arrival DeliverFault) → Receives old op r new → OnErr r (new ≡ old) → HasGrownReceived old new
received_by_delivery old new op (Ok a) h e = (arrival_grows id_of clock_of Exhausts old new op a h, arrival_start id_of clock_of Exhausts old new op a h)
received_by_delivery old new op (Err x) h e = received_same old new e

arrival_one : (old new : ReceivedOps Counters Op) (op : Op) (arrival : Arrival) → IsArrival id_of clock_of Exhausts old op arrival new → ((n : ℕ) → arrival ≡ Applied n → n ≡ 1) → length old.applied < length new.applied → new.applied ≡ old.applied ++ op ∷ []
arrival_one old new op Repeat h one l = none_applied old.applied new.applied _ (ap (λ (s : ReceivedOps Counters Op). s.applied) h.1) l
arrival_one old new op Held h one l = none_applied old.applied new.applied _ h.3 l
arrival_one old new op (Applied n) h one l = ap (λ (s : ReceivedOps Counters Op). s.applied) (one_applied id_of clock_of Exhausts old new op n h (one n refl))

-- a delivery that releases none applies the operation, if any
pub receive_one : (old new : ReceivedOps Counters Op) (op : Op) (r : Result Arrival DeliverFault) → Receives old op r new → OnErr r (new ≡ old) → ((n : ℕ) → r ≡ Ok (Applied n) → n ≡ 1) → length old.applied < length new.applied → new.applied ≡ old.applied ++ op ∷ []
receive_one old new op (Ok a) h e one l = arrival_one old new op a h (λ n is. one n (ap Ok is)) l
receive_one old new op (Err x) h e one l = none_applied old.applied new.applied _ (ap (λ (s : ReceivedOps Counters Op). s.applied) e) l

-- ---- a release

abbrev pub ReleasesNext : ReceivedOps Counters Op → Result Bool NotReady → ReceivedOps Counters Op → Type 0
ReleasesNext old r new = MatchResult r (λ released. Releases id_of clock_of Exhausts old released new) (λ e. RefusesRelease id_of clock_of Exhausts old e)

pub received_by_release : (old new : ReceivedOps Counters Op) (r : Result Bool NotReady) → ReleasesNext old r new → OnErr r (new ≡ old) → HasGrownReceived old new
received_by_release old new (Ok true) h e = ((h.op ∷ [], h.applied), h.start)
received_by_release old new (Ok false) h e = received_same old new h.1
received_by_release old new (Err x) h e = received_same old new e

-- a release applies the next operation to be released, if it applies any
pub release_one : (old new : ReceivedOps Counters Op) (op : Op) (r : Result Bool NotReady) → IsLawfulInbox id_of clock_of old → IsNextReleased id_of clock_of old op → ReleasesNext old r new → OnErr r (new ≡ old) → length old.applied < length new.applied → new.applied ≡ old.applied ++ op ∷ []
release_one old new op (Ok true) law next h e l = next_is_applied id_of clock_of Exhausts old new op law next h
release_one old new op (Ok false) law next h e l = none_applied old.applied new.applied _ (ap (λ (s : ReceivedOps Counters Op). s.applied) h.1) l
release_one old new op (Err x) law next h e l = none_applied old.applied new.applied _ (ap (λ (s : ReceivedOps Counters Op). s.applied) e) l

-- ---- the operations before a delivery or a release

module _ (old new : ReceivedOps Counters Op) (list : List Op) (is : list ≡ old.applied) (more : HasGrownReceived old new) where
  pub counted : length list ≤ length new.applied
  counted = let e = ap (λ (ops : List Op). length ops) is in let l = grown_long old.applied new.applied more.0 in omega (arith, e, l)

  pub front : take (length list) new.applied ≡ old.applied
  front = ap (λ (ops : List Op). take (length ops) new.applied) is ∙ grown_take old.applied new.applied more.0

  -- a snapshot of the mailbox before the operation is still one afterwards
  pub snapshot_of_grown : (op : Op) (snapshot : Result MailboxSnapshot AllocError)
      → (length old.applied < length new.applied → new.applied ≡ old.applied ++ op ∷ [])
      → IfOk snapshot (λ a. IsSnapshotOf old.start old.applied (op ∷ []) (name_of op.kind) a)
      → IfOk snapshot (λ a. (o : Op) × IsSnapshotOf new.start (take (length list) new.applied) (o ∷ []) (name_of o.kind) a × (length list < length new.applied → new.applied ≡ take (length list) new.applied ++ o ∷ []))
  snapshot_of_grown op snapshot one h =
      IfOk-weaker snapshot _ _
      (λ a s. (
        op,
        subst (λ (start : Counters). IsSnapshotOf start (take (length list) new.applied) (op ∷ []) (name_of op.kind) a) (sym more.1) (subst (λ (ops : List Op). IsSnapshotOf old.start ops (op ∷ []) (name_of op.kind) a) (sym front) s),
        λ l. one (subst (λ (ops : List Op). length ops < length new.applied) is l) ∙ ap (λ (ops : List Op). ops ++ op ∷ []) (sym front),
      ))
      h
