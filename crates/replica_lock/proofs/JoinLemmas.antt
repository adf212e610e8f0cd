use Rattle.std.proofs.Common.{◌≡◌, ◌↔◌, inl, inr, ℕ, zero, suc, ◌+◌, ◌<◌, Bool, true, false, Option, None, Some, Result, Ok, Err, List, [], ◌∷◌, ◌++◌, length, length-append, take, drop, map, append-nil, reverse, refl, sym, ap, ◌∙◌, subst, arith, IsTrue}
use Rattle.std.proofs.Common.{get_or}
use Rattle.std.specs.Option.{option_to_list}
use Rattle.std.specs.Prelude.{IfErr, IfOk, OnOk, IsErrAnd}
use Rattle.std.proofs.lemmas.List.{reverse-append, reverse-reverse, take_more}
use Rattle.merge_laws.specs.Orders.{HasId, IsCausal, IsIn, IsRipe}
use Rattle.merge_laws.proofs.Causal.{causal_append_one}
use Rattle.merge_laws.proofs.Lists.{id_in_parts, id_of_element}
use Rattle.causal_inbox.specs.Inbox.{AreReleasedInTurn, IsClockOf, IsReceived, ReceivedOps}
use Rattle.causal_inbox.specs.declared.delivery.Arrival.{Arrival}
use Rattle.causal_inbox.specs.declared.delivery.Arrival.TheVariants.{Applied, Held, Repeat}
use Rattle.causal_inbox.specs.declared.delivery.DeliverFault.TheVariants as delivering
use Rattle.crdt_ops.specs.declared.op.Op.{Op}
use Rattle.imap_node.specs.Deliveries.{Delivers, HoldsRipeOp}
use Rattle.imap_node.specs.Nodes.{NodeState, first_numbers, joined_node, received_ops}
use Rattle.replica_lock.specs.Histories.{BookState}
use Rattle.imap_node.specs.Operations.{clock_of, id_of}
use Rattle.replica_lock.specs.JoinedBook.{IsJoinFault, IsApplyFault, IsRestoreFault, HasFirstFault, book_with_op, book_with_restored_op, joined_book, restored_book, applied_entry, join_fault_of, join_fault_of_arrival}
use Rattle.tags_clocks.specs.declared.id.OpId.{OpId}
use Rattle.causal_inbox.specs.OwnIds.{IsLeastOwn}
use Rattle.replica_lock.specs.Steps.{IsStep}
use Rattle.replica_lock.specs.declared.book.JournalEntry.{JournalEntry}
use Rattle.replica_lock.specs.declared.event.BookEvent.TheVariants.{Deliver}
use Rattle.replica_lock.specs.declared.faults.JoinFault.{JoinFault}
use Rattle.replica_lock.specs.declared.faults.JoinFault.TheVariants.{Exhausted, NoMemory, NotCausal, Own}
use Rattle.replica_lock.specs.declared.outcome.Outcome.{Outcome}
use Rattle.replica_lock.specs.declared.outcome.Outcome.TheVariants.{Closed, Delivered, Drained, Opened, PassedOver, Replied}
use Rattle.uid_projection.specs.Exhaustion.{Exhausts, IsExhausted}
use Rattle.uid_projection.specs.declared.first_numbers.Counters.{Counters}
use Rattle.uid_projection.proofs.ExhaustionLemmas.{more_exhausted, none_exhausted}

pub if_err_of_equal : {T E : Type 0} (r : Result T E) (fault : E) (P : E → Type 0) → IsErrAnd r (λ e. e ≡ fault) → P fault → IfErr r P
if_err_of_equal (Ok x) fault P h p = tt
if_err_of_equal (Err e) fault P h p = subst P (sym h) p

-- ---- one operation, delivered to a replica that holds nothing

-- nothing is released
none_released : (count : ℕ) (old new : ReceivedOps Counters Op) → old.held ≡ [] → AreReleasedInTurn id_of clock_of Exhausts count old new → (count ≡ 0) × (new ≡ old)
none_released zero old new e h = (refl, h)
none_released (suc count) old new e (before, released, next) =
    let same = (none_released count old before e released).1 in
    absurd (subst (IsIn next.op) (ap (λ (s : ReceivedOps Counters Op). s.held) same ∙ e) next.next.held)

not_true : (b : Bool) → ¬ IsTrue b → b ≡ false
not_true true h = absurd (h refl)
not_true false h = refl

-- The replica applied the operation: the outcome, and the replica's state after it.
abbrev pub HasApplied : NodeState → Op → Outcome → NodeState → Type 0
HasApplied old op outcome new =
    (outcome ≡ Delivered (Ok (record { arrival = Applied 1; stalled = false })))
    × ((new ≡ record old { applied = old.applied ++ op ∷ [] }) × (IsRipe id_of clock_of old.applied op × (¬ Exhausts old.start old.applied (op ∷ []))))

module _ (old : NodeState) (op : Op) (nothing : old.held ≡ []) where
  received_not_ripe : IsReceived (received_ops old) op → ¬ IsRipe id_of clock_of old.applied op
  received_not_ripe t ripe = elim t [ inl u ↦ ripe.1 (id_of_element id_of op old.applied u) | inr u ↦ absurd (subst (IsIn op) nothing u) ]

  conflict_not_ripe : HasId id_of (old.applied ++ old.held) op.id → ¬ IsRipe id_of clock_of old.applied op
  conflict_not_ripe h ripe = elim (id_in_parts id_of op.id old.applied old.held h) [ inl t ↦ ripe.1 t | inr t ↦ absurd (subst (λ (os : List Op). HasId id_of os op.id) nothing t) ]

  none_ripe : (new : NodeState) → new.held ≡ [] → ¬ HoldsRipeOp new
  none_ripe new e h = absurd (subst (IsIn h.0) e h.1)

  applied_at_once : (count : ℕ) (stalled : Bool) (new : NodeState) → Delivers old op (Applied count) new → IsTrue stalled ↔ HoldsRipeOp new → HasApplied old op (Delivered (Ok (record { arrival = Applied count; stalled = stalled }))) new
  applied_at_once count stalled new h s =
      let released = none_released h.arrives.2.0 (record { start = old.start; applied = old.applied ++ op ∷ []; held = old.held }) (received_ops new) nothing h.arrives.2.2 in
      let same = released.1 in
      let one : count ≡ 1 = h.arrives.2.1 ∙ ap (λ (m : ℕ). m + 1) released.0 in
      let not_stalled : stalled ≡ false = not_true stalled (λ t. none_ripe new (ap (λ (x : ReceivedOps Counters Op). x.held) same ∙ nothing) (s.0 t)) in (
        (λ i. Delivered (Ok (record { arrival = Applied (one i); stalled = not_stalled i }))),
        ((λ i. record { start = (same i).start; applied = (same i).applied; held = (same i).held; sessions = h.sessions i }), (h.arrives.1.0, h.arrives.1.1)),
      )

  ok_by : (arrival : Arrival) (stalled : Bool) (new : NodeState) → Delivers old op arrival new → IsTrue stalled ↔ HoldsRipeOp new → (r : Result (Unit {0}) JoinFault) → r ≡ join_fault_of_arrival op.id arrival
      → OnOk r (HasApplied old op (Delivered (Ok (record { arrival = arrival; stalled = stalled }))) new)
  ok_by (Applied count) stalled new h s r e = subst (λ (x : Result (Unit {0}) JoinFault). OnOk x (HasApplied old op (Delivered (Ok (record { arrival = Applied count; stalled = stalled }))) new)) (sym e) (applied_at_once count stalled new h s)
  ok_by Held stalled new h s r e = subst (λ (x : Result (Unit {0}) JoinFault). OnOk x (HasApplied old op (Delivered (Ok (record { arrival = Held; stalled = stalled }))) new)) (sym e) tt
  ok_by Repeat stalled new h s r e = subst (λ (x : Result (Unit {0}) JoinFault). OnOk x (HasApplied old op (Delivered (Ok (record { arrival = Repeat; stalled = stalled }))) new)) (sym e) tt

  -- if the operation was applied
  pub take_ok : (outcome : Outcome) (new : NodeState) → IsStep old (Deliver op) outcome new → (r : Result (Unit {0}) JoinFault) → r ≡ join_fault_of op.id outcome → OnOk r (HasApplied old op outcome new)
  take_ok (Delivered (Ok receipt)) new h r e = ok_by receipt.arrival receipt.stalled new h.0 h.1 r e
  take_ok (Delivered (Err (delivering.Conflict other))) new h r e = subst (λ (x : Result (Unit {0}) JoinFault). OnOk x (HasApplied old op (Delivered (Err (delivering.Conflict other))) new)) (sym e) tt
  take_ok (Delivered (Err delivering.HeldFull)) new h r e = subst (λ (x : Result (Unit {0}) JoinFault). OnOk x (HasApplied old op (Delivered (Err delivering.HeldFull)) new)) (sym e) tt
  take_ok (Delivered (Err delivering.Exhausted)) new h r e = subst (λ (x : Result (Unit {0}) JoinFault). OnOk x (HasApplied old op (Delivered (Err delivering.Exhausted)) new)) (sym e) tt
  take_ok (Delivered (Err delivering.NoMemory)) new h r e = subst (λ (x : Result (Unit {0}) JoinFault). OnOk x (HasApplied old op (Delivered (Err delivering.NoMemory)) new)) (sym e) tt
  take_ok (Opened answer) new h r e = absurd h
  take_ok (Replied reply) new h r e = absurd h
  take_ok (Drained drained) new h r e = absurd h
  take_ok Closed new h r e = absurd h
  take_ok PassedOver new h r e = absurd h

  apply_fault_of_err : (why : JoinFault) (r : Result (Unit {0}) JoinFault) → r ≡ Err why → IsApplyFault old op why → IfErr r (IsApplyFault old op)
  apply_fault_of_err why r e h = subst (λ (x : Result (Unit {0}) JoinFault). IfErr x (IsApplyFault old op)) (sym e) h

  err_by : (arrival : Arrival) (new : NodeState) → Delivers old op arrival new → (r : Result (Unit {0}) JoinFault) → r ≡ join_fault_of_arrival op.id arrival → IfErr r (IsApplyFault old op)
  err_by (Applied count) new h r e = subst (λ (x : Result (Unit {0}) JoinFault). IfErr x (IsApplyFault old op)) (sym e) tt
  err_by Held new h r e = apply_fault_of_err (NotCausal op.id) r e (refl, h.arrives.1.0)
  err_by Repeat new h r e = apply_fault_of_err (NotCausal op.id) r e (refl, received_not_ripe h.arrives.0)

  -- if the operation wasn't applied
  pub take_err : (outcome : Outcome) (new : NodeState) → IsStep old (Deliver op) outcome new → (r : Result (Unit {0}) JoinFault) → r ≡ join_fault_of op.id outcome → IfErr r (IsApplyFault old op)
  take_err (Delivered (Ok receipt)) new h r e = err_by receipt.arrival new h.0 r e
  take_err (Delivered (Err (delivering.Conflict other))) new h r e = apply_fault_of_err (NotCausal op.id) r e (refl, conflict_not_ripe h.0.1)
  take_err (Delivered (Err delivering.HeldFull)) new h r e = apply_fault_of_err (NotCausal op.id) r e (refl, h.0.1)
  take_err (Delivered (Err delivering.Exhausted)) new h r e = apply_fault_of_err Exhausted r e (h.0.1, h.0.2)
  take_err (Delivered (Err delivering.NoMemory)) new h r e = apply_fault_of_err NoMemory r e tt
  take_err (Opened answer) new h r e = absurd h
  take_err (Replied reply) new h r e = absurd h
  take_err (Drained drained) new h r e = absurd h
  take_err Closed new h r e = absurd h
  take_err PassedOver new h r e = absurd h

-- the book after a delivery, which has one further entry
pub take_written : (old new : BookState) (op given : Op) (outcome : Outcome) (r : Result (Unit {0}) JoinFault) → given ≡ op → new.journal ≡ old.journal ++ record { event = Deliver given; outcome = outcome } ∷ []
    → new.forgotten_count ≡ old.forgotten_count → OnOk r (HasApplied old.node op outcome new.node)
    → OnOk r ((new ≡ book_with_op old op) × IsRipe id_of clock_of old.node.applied op × (¬ Exhausts old.node.start old.node.applied (op ∷ [])))
take_written old new op given outcome (Ok x) e j f h =
    let entry : new.journal ≡ old.journal ++ applied_entry op ∷ [] = j ∙ (λ i. old.journal ++ record { event = Deliver (e i); outcome = h.0 i } ∷ []) in
    ((λ i. record { node = h.1.0 i; forgotten_count = f i; journal = entry i }), h.1.1.0, h.1.1.1)
take_written old new op given outcome (Err why) e j f h = tt

-- ---- a list of operations

pub take_next : {X : Type 0} (xs : List X) (i : ℕ) (x : X) → i < length xs → x ≡ get_or xs i x → take (i + 1) xs ≡ take i xs ++ x ∷ []
take_next xs i x l is = take_more xs i x l ∙ ap (λ y. take i xs ++ y ∷ []) (sym is)

-- the operation at a place, between those before it and those after it
cut_at : (ops : List Op) (i : ℕ) (op : Op) → i < length ops → op ≡ get_or ops i op → (back : List Op) × (ops ≡ take i ops ++ op ∷ back)
cut_at [] i op l is = absurd (omega (arith, l))
cut_at (x ∷ ops) zero op l is = (ops, ap (λ (y : Op). y ∷ ops) (sym is))
cut_at (x ∷ ops) (suc i) op l is = let r = cut_at ops i op (omega (arith, l)) is in (r.0, ap (λ (ys : List Op). x ∷ ys) r.1)

applied_entries_append : (ops : List Op) (op : Op) → map applied_entry (ops ++ op ∷ []) ≡ map applied_entry ops ++ applied_entry op ∷ []
applied_entries_append [] op = refl
applied_entries_append (x ∷ ops) op = ap (λ (es : List JournalEntry). applied_entry x ∷ es) (applied_entries_append ops op)

-- The book after the first operations of a list, which `book_of` gives.
pub record IsBookAfterOps (name : ℕ) (book_of : List Op → BookState) (front : List Op) (book : BookState) : Type 0 where
  pub is : book ≡ book_of front
  pub causal : IsCausal id_of clock_of front
  pub not_exhausted : ¬ Exhausts (first_numbers name) [] front

module _ (name : ℕ) (book_of : List Op → BookState) (joins : (front : List Op) → (book_of front).node ≡ joined_node name front) (book_with : BookState → Op → BookState)
    (grows : (front : List Op) (op : Op) → book_with (book_of front) op ≡ book_of (front ++ op ∷ []))
    (ops : List Op) (i : ℕ) (op : Op) (l : i < length ops) (at : op ≡ get_or ops i op) (book : BookState) (s : IsBookAfterOps name book_of (take i ops) book) where
  node_is : book.node ≡ joined_node name (take i ops)
  node_is = ap (λ (b : BookState). b.node) s.is ∙ joins (take i ops)

  holds_none : book.node.held ≡ []
  holds_none = ap (λ (n : NodeState). n.held) node_is

  book_after_next : (new : BookState) → new ≡ book_with book op → IsRipe id_of clock_of book.node.applied op → ¬ Exhausts book.node.start book.node.applied (op ∷ [])
      → IsBookAfterOps name book_of (take (i + 1) ops) new
  book_after_next new e ripe not_exhausted =
      let next = take_next ops i op l at in
      record {
        is = e ∙ ap (λ (b : BookState). book_with b op) s.is ∙ grows (take i ops) op ∙ ap book_of (sym next);
        causal = subst (IsCausal id_of clock_of) (sym next) (causal_append_one id_of clock_of (take i ops) op s.causal (subst (λ (n : NodeState). IsRipe id_of clock_of n.applied op) node_is ripe));
        not_exhausted = λ h.
            elim (more_exhausted (first_numbers name) [] (take i ops) op (subst (λ (os : List Op). Exhausts (first_numbers name) [] os) next h)) [
              | inl t ↦ s.not_exhausted t
              | inr t ↦ subst (λ (n : NodeState). ¬ Exhausts n.start n.applied (op ∷ [])) node_is not_exhausted
                  ([], op, [], refl, subst (λ (os : List Op). IsExhausted (first_numbers name) os op) (sym (append-nil (take i ops))) t)
            ];
      }

  first_fault : (Why : List Op → Op → Type 0) → Why (take i ops) op → HasFirstFault name ops Why
  first_fault Why h = let c = cut_at ops i op l at in record { front = take i ops; op = op; back = c.0; cut = c.1; causal = s.causal; not_exhausted = s.not_exhausted; why = h }

  not_ripe : (id : OpId) → IsApplyFault book.node op (NotCausal id) → HasFirstFault name ops (λ front o. (o.id ≡ id) × ¬ IsRipe id_of clock_of front o)
  not_ripe id h = first_fault (λ front o. (o.id ≡ id) × ¬ IsRipe id_of clock_of front o) (h.0, subst (λ (n : NodeState). ¬ IsRipe id_of clock_of n.applied op) node_is h.1)

  used_up : IsApplyFault book.node op Exhausted → HasFirstFault name ops (λ front o. IsRipe id_of clock_of front o × Exhausts (first_numbers name) front (o ∷ []))
  used_up h = first_fault (λ front o. IsRipe id_of clock_of front o × Exhausts (first_numbers name) front (o ∷ [])) (
    subst (λ (n : NodeState). IsRipe id_of clock_of n.applied op) node_is h.0,
    subst (λ (n : NodeState). Exhausts n.start n.applied (op ∷ [])) node_is h.1,
  )

  -- if it stops
  join_fault_here : (why : JoinFault) → IsApplyFault book.node op why → IsLeastOwn id_of name ops None → IsJoinFault name ops why
  join_fault_here (Own id) h none = absurd h
  join_fault_here (NotCausal id) h none = (none, not_ripe id h)
  join_fault_here Exhausted h none = (none, used_up h)
  join_fault_here NoMemory h none = none

  restore_fault_here : (why : JoinFault) → IsApplyFault book.node op why → IsRestoreFault name ops why
  restore_fault_here (Own id) h = absurd h
  restore_fault_here (NotCausal id) h = not_ripe id h
  restore_fault_here Exhausted h = used_up h
  restore_fault_here NoMemory h = tt

book_after_none : (name : ℕ) (book_of : List Op → BookState) (book : BookState) → book ≡ book_of [] → IsBookAfterOps name book_of [] book
book_after_none name book_of book e = record {
  is = e;
  causal = λ front o back h. absurd (no_cut front o back h);
  not_exhausted = λ h. none_exhausted (first_numbers name) [] h;
}
  where
    no_cut : (front : List Op) (o : Op) (back : List Op) → [] ≡ front ++ o ∷ back → ⊥
    no_cut [] o back h = absurd cc
    no_cut (x ∷ front) o back h = absurd cc

-- ---- of a replica that joins

abbrev pub IsJoinedBook : ℕ → List Op → BookState → Type 0
IsJoinedBook name front book = IsBookAfterOps name (joined_book name) front book

joined_book_append : (name : ℕ) (front : List Op) (op : Op) → book_with_op (joined_book name front) op ≡ joined_book name (front ++ op ∷ [])
joined_book_append name front op =
    ap (λ (es : List JournalEntry). record { node = joined_node name (front ++ op ∷ []); forgotten_count = 0; journal = es }) (sym (applied_entries_append front op))

pub joined_book_none : (name : ℕ) (book : BookState) → book ≡ joined_book name [] → IsJoinedBook name [] book
joined_book_none name book e = book_after_none name (joined_book name) book e

module _ (name : ℕ) (ops : List Op) (i : ℕ) (op : Op) (l : i < length ops) (at : op ≡ get_or ops i op) (book : BookState) (s : IsJoinedBook name (take i ops) book) where
  pub holds_nothing : book.node.held ≡ []
  holds_nothing = holds_none name (joined_book name) (λ front. refl) book_with_op (joined_book_append name) ops i op l at book s

  pub joined_book_next : (new : BookState) → new ≡ book_with_op book op → IsRipe id_of clock_of book.node.applied op → ¬ Exhausts book.node.start book.node.applied (op ∷ [])
      → IsJoinedBook name (take (i + 1) ops) new
  joined_book_next = book_after_next name (joined_book name) (λ front. refl) book_with_op (joined_book_append name) ops i op l at book s

  pub join_fault_at : (why : JoinFault) → IsApplyFault book.node op why → IsLeastOwn id_of name ops None → IsJoinFault name ops why
  join_fault_at = join_fault_here name (joined_book name) (λ front. refl) book_with_op (joined_book_append name) ops i op l at book s

-- ---- of one that is restored

abbrev pub IsRestoredBook : ℕ → List Op → BookState → Type 0
IsRestoredBook name front book = IsBookAfterOps name (restored_book name) front book

restored_book_append : (name : ℕ) (front : List Op) (op : Op) → book_with_restored_op (restored_book name front) op ≡ restored_book name (front ++ op ∷ [])
restored_book_append name front op = ap (λ (n : ℕ). record { node = joined_node name (front ++ op ∷ []); forgotten_count = n; journal = [] }) (sym (longer front))
  where
    longer : (front : List Op) → length (front ++ op ∷ []) ≡ length front + 1
    longer front = simp length-append

pub restored_book_none : (name : ℕ) (book : BookState) → book ≡ restored_book name [] → IsRestoredBook name [] book
restored_book_none name book e = book_after_none name (restored_book name) book e

module _ (name : ℕ) (ops : List Op) (i : ℕ) (op : Op) (l : i < length ops) (at : op ≡ get_or ops i op) (book : BookState) (s : IsRestoredBook name (take i ops) book) where
  pub restored_holds_nothing : book.node.held ≡ []
  restored_holds_nothing = holds_none name (restored_book name) (λ front. refl) book_with_restored_op (restored_book_append name) ops i op l at book s

  pub restored_journal : book.journal ≡ []
  restored_journal = ap (λ (b : BookState). b.journal) s.is

  pub restored_book_next : (new : BookState) → new ≡ book_with_restored_op book op → IsRipe id_of clock_of book.node.applied op → ¬ Exhausts book.node.start book.node.applied (op ∷ [])
      → IsRestoredBook name (take (i + 1) ops) new
  restored_book_next = book_after_next name (restored_book name) (λ front. refl) book_with_restored_op (restored_book_append name) ops i op l at book s

  pub restore_fault_at : (why : JoinFault) → IsApplyFault book.node op why → IsRestoreFault name ops why
  restore_fault_at = restore_fault_here name (restored_book name) (λ front. refl) book_with_restored_op (restored_book_append name) ops i op l at book s

-- the first of the operations that are left after some, and those after it
next_of_rest_suc : (ops : List Op) (i : ℕ) (op : Op) (rest : List Op) → drop i ops ≡ op ∷ rest → (i < length ops) × (op ≡ get_or ops i op) × (drop (suc i) ops ≡ rest)
next_of_rest_suc [] zero op rest e = absurd cc
next_of_rest_suc [] (suc i) op rest e = absurd cc
next_of_rest_suc (x ∷ ops) zero op rest e = (omega (arith), sym (ap (λ (os : List Op). get_or os 0 op) e), ap (λ (os : List Op). drop 1 os) e)
next_of_rest_suc (x ∷ ops) (suc i) op rest e = let r = next_of_rest_suc ops i op rest e in (omega (arith, r.0), r.1, r.2)

pub next_of_rest : (ops : List Op) (i : ℕ) (op : Op) (rest : List Op) → drop i ops ≡ op ∷ rest → (i < length ops) × (op ≡ get_or ops i op) × (drop (i + 1) ops ≡ rest)
next_of_rest ops i op rest e =
    let r = next_of_rest_suc ops i op rest e in
    let one : suc i ≡ i + 1 = omega (arith) in
    (r.0, r.1, subst (λ (n : ℕ). drop n ops ≡ rest) one r.2)

-- of a list that is taken from its end, its last operation first, the operation that is taken is the first of those left
pub next_of_reversed : (ops later rest : List Op) (i : ℕ) (last : Option Op) (op : Op)
    → drop i ops ≡ reverse later → later ≡ rest ++ option_to_list last → last ≡ Some op → drop i ops ≡ op ∷ reverse rest
next_of_reversed ops later rest i last op left is some =
    left ∙ ap reverse (is ∙ ap (λ (l : Option Op). rest ++ option_to_list l) some) ∙ reverse-append rest (op ∷ [])

pub all_reversed : (ops later : List Op) → later ≡ reverse ops → ops ≡ reverse later
all_reversed ops later is = sym (ap reverse is ∙ reverse-reverse ops)

pub fewer_left : (later rest : List Op) (last : Option Op) (op : Op) → later ≡ rest ++ option_to_list last → last ≡ Some op → length rest < length later
fewer_left later rest last op is some =
    let whole = ap length (is ∙ ap (λ (l : Option Op). rest ++ option_to_list l) some) ∙ length-append rest (op ∷ []) in
    omega (arith, whole)

-- all operations were delivered once none is left
pub all_taken : (ops : List Op) (i : ℕ) → drop i ops ≡ [] → take i ops ≡ ops
all_taken [] zero e = refl
all_taken [] (suc i) e = refl
all_taken (x ∷ ops) zero e = absurd cc
all_taken (x ∷ ops) (suc i) e = ap (λ (os : List Op). x ∷ os) (all_taken ops i e)

-- the copy of a clock is the clock of a list of applied operations
pub clock_of_applied : {E : Type 0} (applied : List Op) (r : Result (List (ℕ × ℕ)) E) → IsCausal id_of clock_of applied → IfOk r (λ clock. IsClockOf id_of applied clock)
    → IfOk r (λ clock. (covered : List Op) × IsCausal id_of clock_of covered × IsClockOf id_of covered clock)
clock_of_applied applied (Ok clock) causal is = (applied, causal, is)
clock_of_applied applied (Err e) causal is = tt
