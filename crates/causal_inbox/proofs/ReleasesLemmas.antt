-- Releases of one held operation after another.
use Rattle.std.specs.Prelude.{Result, Err}
use Rattle.std.proofs.Common.{◌≡◌, ◌↔◌, inl, inr, ℕ, ◌+◌, ◌<◌, ◌≤◌, suc, zero, List, [], ◌∷◌, ◌++◌, sym, refl, ap, ◌∙◌, subst, arith}
use Rattle.std.proofs.lemmas.Bool.{cases_lt}
use Rattle.tags_clocks.specs.declared.id.OpId.{OpId}
use Rattle.merge_laws.specs.declared.follower.NotReady.{NotReady}
use Rattle.merge_laws.specs.declared.follower.NotReady.TheVariants.{Exhausted as RanOut, NoMemory}
use Rattle.causal_inbox.specs.declared.delivery.Arrival.TheVariants.{Applied}
use Rattle.causal_inbox.specs.Delivery.{IsArrival}
use Rattle.causal_inbox.specs.Inbox.{ReceivedOps, IsLess, IsLawfulInbox, IsStalled, IsNextReleased, IsReleased, AreReleasedInTurn}
use Rattle.causal_inbox.specs.Releases.{RefusesRelease}
use Rattle.causal_inbox.proofs.AscendingLemmas.{ascending_determines}

-- of two ids, neither less than the other, are one
equal_ids : (i j : OpId) → ¬ IsLess i j → ¬ IsLess j i → i ≡ j
equal_ids i j n m =
    elim (cases_lt i.replica j.replica) [
      | inl l ↦ absurd (n (inl l))
      | inr a ↦ elim (cases_lt j.replica i.replica) [
        | inl l ↦ absurd (m (inl l))
        | inr b ↦
            let r : i.replica ≡ j.replica = omega arith in
            elim (cases_lt i.number j.number) [
              | inl l ↦ absurd (n (inr (r, l)))
              | inr c ↦ elim (cases_lt j.number i.number) [
                | inl l ↦ absurd (m (inr (sym r, l)))
                | inr d ↦ let k : i.number ≡ j.number = omega arith in λ t. record { replica = r t; number = k t }
              ]
            ]
      ]
    ]

module _ {S O : Type 0} (id : O → OpId) (clock : O → List (ℕ × ℕ)) (exhausts : S → List O → List O → Type 0) where
  -- why the operation that is released next is refused, by what the history says
  pub release_refused : {T : Type 0} (s : ReceivedOps S O) (op : O) (ready : Result T NotReady) (e : NotReady) → IsNextReleased id clock s op → (ready ≡ Err RanOut) ↔ exhausts s.start s.applied (op ∷ []) → ready ≡ Err e → RefusesRelease id clock exhausts s e
  release_refused s op ready RanOut next asked is = (op, next, asked.0 is)
  release_refused s op ready NoMemory next asked is = (op, next, λ y. let z = asked.1 y in absurd cc)

  -- if a release is refused, a ripe operation is held
  pub refused_stalls : (s : ReceivedOps S O) (e : NotReady) → RefusesRelease id clock exhausts s e → IsStalled id clock s
  refused_stalls s RanOut h = (h.0, h.1.held, h.1.ripe)
  refused_stalls s NoMemory h = (h.0, h.1.held, h.1.ripe)

  none_released : (m : ℕ) (old new : ReceivedOps S O) → m + 1 ≡ 1 → AreReleasedInTurn id clock exhausts m old new → new ≡ old
  none_released zero old new e h = h
  none_released (suc m) old new e h = absurd (omega arith)

  -- a delivery that applies one operation
  pub one_applied : (old new : ReceivedOps S O) (op : O) (n : ℕ) → IsArrival id clock exhausts old op (Applied n) new → n ≡ 1 → new ≡ record old { applied = old.applied ++ op ∷ [] }
  one_applied old new op n h one = let first = h.2 in none_released first.0 (record old { applied = old.applied ++ op ∷ [] }) new (sym first.1 ∙ one) first.2

  -- the delivered operation is applied, and then held ones are released
  pub applied_and_released : (old mid new : ReceivedOps S O) (op : O) (n count : ℕ) → IsArrival id clock exhausts old op (Applied n) mid → n ≡ 1 → AreReleasedInTurn id clock exhausts count mid new → IsArrival id clock exhausts old op (Applied (count + 1)) new
  applied_and_released old mid new op n count h one released = (
    h.0,
    h.1,
    (count, refl, subst (λ (s : ReceivedOps S O). AreReleasedInTurn id clock exhausts count s new) (one_applied old mid op n h one) released),
  )

  -- one operation is released next
  one_next : (s : ReceivedOps S O) (a b : O) → IsLawfulInbox id clock s → IsNextReleased id clock s a → IsNextReleased id clock s b → a ≡ b
  one_next s a b law p q =
      ascending_determines id s.held a b law.ascending p.held q.held
      (equal_ids (id a) (id b) (q.least a p.held p.ripe) (p.least b q.held q.ripe))

  -- the operation that was released next is the last one applied
  pub next_is_applied : (old new : ReceivedOps S O) (op : O) → IsLawfulInbox id clock old → IsNextReleased id clock old op → IsReleased id clock exhausts old new → new.applied ≡ old.applied ++ op ∷ []
  next_is_applied old new op law next h = h.applied ∙ ap (λ (o : O). old.applied ++ o ∷ []) (one_next old h.op op law h.next next)
