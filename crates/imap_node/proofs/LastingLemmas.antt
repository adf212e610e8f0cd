use Rattle.std.proofs.Common.{◌≡◌, inl, inr, ℕ, zero, suc, List, [], ◌∷◌, ◌++◌, append_assoc, append-nil, refl, sym, ap, subst}
use Rattle.causal_inbox.specs.Delivery.{IsArrival}
use Rattle.causal_inbox.specs.Inbox.{AreReleasedInTurn, ReceivedOps}
use Rattle.causal_inbox.specs.declared.delivery.Arrival.{Arrival}
use Rattle.causal_inbox.specs.declared.delivery.Arrival.TheVariants.{Applied, Held, Repeat}
use Rattle.crdt_ops.specs.declared.op.Op.{Op}
use Rattle.imap_node.specs.Deliveries.{Delivers, DrainsHeld}
use Rattle.imap_node.specs.Issues.{issued_by}
use Rattle.imap_node.specs.Nodes.{NodeState, received_ops}
use Rattle.imap_node.specs.Responses.{Responds}
use Rattle.imap_node.specs.declared.input.Input.{Input}
use Rattle.imap_node.specs.declared.reply.Reply.{Reply}
use Rattle.imap_node.proofs.IssueLemmas.{issues_of_responds}
use Rattle.imap_node.proofs.NextLemmas.{last_cut, no_cut}
use Rattle.uid_projection.specs.declared.first_numbers.Counters.{Counters}
use Rattle.uid_projection.specs.Applied.{IsApplied}
use Rattle.uid_projection.specs.Bounds.{IsLasting}
use Rattle.uid_projection.specs.Exhaustion.{Exhausts, IsExhausted}
use Rattle.crdt_ops.specs.Ops.{clock_of, id_of}

-- no counter is exhausted after one further operation that exhausts none
not_exhausted_append_one : (start : Counters) (ops : List Op) (o : Op) → (Exhausts start [] ops → ⊥) → (Exhausts start ops (o ∷ []) → ⊥) → Exhausts start [] (ops ++ o ∷ []) → ⊥
not_exhausted_append_one start ops o l n (front, p, back, e, x) =
    elim (last_cut ops front back o p e) [
      | inl t ↦
          let here : IsExhausted start ops o = subst (λ (q : Op). IsExhausted start ops q) (sym t.1) (subst (λ (xs : List Op). IsExhausted start xs p) (sym t.0) x) in
          n ([], o, [], refl, subst (λ (xs : List Op). IsExhausted start xs o) (sym (append-nil ops)) here)
      | inr t ↦ l (front, p, t.0, t.1, x)
    ]

-- no counter is exhausted after several further operations that exhaust none
not_exhausted_append : (start : Counters) (more ops : List Op) → (Exhausts start [] ops → ⊥) → (Exhausts start ops more → ⊥) → Exhausts start [] (ops ++ more) → ⊥
not_exhausted_append start [] ops l n = subst (λ (xs : List Op). Exhausts start [] xs → ⊥) (sym (append-nil ops)) l
not_exhausted_append start (o ∷ more) ops l n =
    let one = not_exhausted_append_one start ops o l (λ (front, p, back, e, x). n (first_of front p back e x)) in
    subst (λ (xs : List Op). Exhausts start [] xs → ⊥) (append_assoc ops (o ∷ []) more)
    (not_exhausted_append start more (ops ++ o ∷ []) one (λ (front, p, back, e, x).
    n (o ∷ front, p, back, ap (λ (xs : List Op). o ∷ xs) e, subst (λ (xs : List Op). IsExhausted start xs p) (append_assoc ops (o ∷ []) front) x)))
  where
    first_of : (front : List Op) (p : Op) (back : List Op) → o ∷ [] ≡ front ++ p ∷ back → IsExhausted start (ops ++ front) p → Exhausts start ops (o ∷ more)
    first_of [] p back e x = let k : o ≡ p = cc in ([], o, more, refl, subst (λ (q : Op). IsExhausted start (ops ++ []) q) (sym k) x)
    first_of (y ∷ []) p back e x = absurd cc
    first_of (y ∷ z ∷ front) p back e x = absurd cc

released_lasts : (count : ℕ) (old new : ReceivedOps Counters Op) → AreReleasedInTurn id_of clock_of Exhausts count old new → (Exhausts old.start [] old.applied → ⊥) → Exhausts new.start [] new.applied → ⊥
released_lasts zero old new h l = subst (λ (s : ReceivedOps Counters Op). Exhausts s.start [] s.applied → ⊥) (sym h) l
released_lasts (suc count) old new (before, r, s) l =
    let early = released_lasts count old before r l in
    subst (λ (x : Counters). Exhausts x [] new.applied → ⊥) (sym s.start)
    (subst (λ (xs : List Op). Exhausts before.start [] xs → ⊥) (sym s.applied) (not_exhausted_append_one before.start before.applied s.op early s.not_exhausted))

arrived_lasts : (old new : ReceivedOps Counters Op) (op : Op) (arrival : Arrival) → IsArrival id_of clock_of Exhausts old op arrival new → (Exhausts old.start [] old.applied → ⊥) → Exhausts new.start [] new.applied → ⊥
arrived_lasts old new op Repeat h l = subst (λ (s : ReceivedOps Counters Op). Exhausts s.start [] s.applied → ⊥) (sym h.1) l
arrived_lasts old new op Held (is_new, holds, start, applied, held) l =
    subst (λ (x : Counters). Exhausts x [] new.applied → ⊥) (sym start) (subst (λ (xs : List Op). Exhausts old.start [] xs → ⊥) (sym applied) l)
arrived_lasts old new op (Applied n) (is_new, applies, released) l =
    released_lasts released.0 (record { start = old.start; applied = old.applied ++ op ∷ []; held = old.held }) new released.2 (not_exhausted_append_one old.start old.applied op l applies.1)

pub input_lasts : (old new : NodeState) (n : ℕ) (input : Input) (reply : Reply) → IsLasting old.start old.applied → Responds old n input reply new → IsLasting new.start new.applied
input_lasts old new n input reply l r =
    let issues = issues_of_responds old new n input reply l.applied r in
    record {
      applied = issues.whole;
      not_exhausted =
          subst (λ (x : Counters). Exhausts x [] new.applied → ⊥) (sym issues.start)
          (subst (λ (xs : List Op). Exhausts old.start [] xs → ⊥) (sym issues.applied) (not_exhausted_append old.start (issued_by reply) old.applied l.not_exhausted issues.not_exhausted));
    }

pub delivery_lasts : (old new : NodeState) (op : Op) (arrival : Arrival) → IsApplied new.applied → IsLasting old.start old.applied → Delivers old op arrival new → IsLasting new.start new.applied
delivery_lasts old new op arrival a l d = record { applied = a; not_exhausted = arrived_lasts (received_ops old) (received_ops new) op arrival d.arrives l.not_exhausted }

pub drain_lasts : (old new : NodeState) (count : ℕ) → IsApplied new.applied → IsLasting old.start old.applied → DrainsHeld old count new → IsLasting new.start new.applied
drain_lasts old new count a l d = record { applied = a; not_exhausted = released_lasts count (received_ops old) (received_ops new) d.released l.not_exhausted }

pub begins_lasting : (start : Counters) → IsLasting start []
begins_lasting start = record {
  applied = record { sound = λ o i. absurd i; causal = λ front o back e. absurd (no_cut front o back e) };
  not_exhausted = λ (front, o, back, k, x). absurd (no_cut front o back k);
}
