use Rattle.std.proofs.Common.{◌≡◌, ◌≢◌, ◌↔◌, ◌⊎◌, inl, inr, ℕ, ◌+◌, ◌<◌, ◌≤◌, suc, zero, Bool, true, false, cond, eqb, ltb, nat_eq, nat_lt, IsTrue, List, [], ◌∷◌, length, drop, Option, Some, None, MatchOption, sym, refl, ap, ◌∙◌, subst, arith, rules}
use Rattle.std.proofs.lemmas.Bool.{cases_lt, cases_Bool, ltb-true, ltb-false}
use Rattle.std.proofs.lemmas.Bool.Decides.{eqb_tells}
use Rattle.tags_clocks.proofs.ClockLemmas.{count_of-below}
use Rattle.tags_clocks.specs.declared.id.OpId.{OpId}
use Rattle.tags_clocks.specs.Clock.{count_of, IsAscendingFrom, IsClock, IsCause}
use Rattle.merge_laws.specs.Orders.{IsIn, HasId}
use Rattle.causal_inbox.specs.Inbox.{IsClockOf}
use Rattle.causal_inbox.specs.CauseIndex.{IsAwaited, IsLeastMissing, first_beyond}
use Rattle.causal_inbox.proofs.EntryOrder.{id_decided}

-- no entry counts above the clock
pub none_beyond : (now es : List (ℕ × ℕ)) → first_beyond now es ≡ None → (r : ℕ) → count_of es r ≤ count_of now r
none_beyond now [] e r = omega arith
none_beyond now (x ∷ es) e r =
    elim (cases_Bool (ltb (count_of now x.0) x.1)) [
      | inl t ↦ let k : ◌≡◌ {A = Option OpId} (Some (record { replica = x.0; number = x.1 })) None = rw t at e in absurd cc
      | inr f ↦
          let k : first_beyond now es ≡ None = rw f at e in
          let rest : count_of es r ≤ count_of now r = none_beyond now es k r in
          let high : x.1 ≤ count_of now x.0 = omega (arith, ltb-false (count_of now x.0) x.1 f) in
          elim (eqb_tells x.0 r) [
            | inl t ↦ rw t.0 (subst (λ (y : ℕ). x.1 ≤ count_of now y) t.1 high)
            | inr n ↦ rw n.0 rest
          ]
    ]

pub record IsBeyond (now es : List (ℕ × ℕ)) (low : ℕ) (i : OpId) : Type 0 where
  pub above : low ≤ i.replica
  pub last : count_of es i.replica ≡ i.number
  pub more : count_of now i.replica < i.number
  pub below : (r : ℕ) → r < i.replica → count_of es r ≤ count_of now r

-- the first entry that counts above the clock
pub some_beyond : (now es : List (ℕ × ℕ)) (low : ℕ) (i : OpId) → IsAscendingFrom low es → first_beyond now es ≡ Some i → IsBeyond now es low i
some_beyond now [] low i a e = absurd cc
some_beyond now (x ∷ es) low i a e =
    elim (cases_Bool (ltb (count_of now x.0) x.1)) [
      | inl t ↦
          let k : ◌≡◌ {A = Option OpId} (Some (record { replica = x.0; number = x.1 })) (Some i) = rw t at e in
          let r : x.0 ≡ i.replica = cc in
          let n : x.1 ≡ i.number = cc in
          let high = ltb-true (count_of now x.0) x.1 t in
          record {
            above = omega (arith, a.0, r);
            last = elim (eqb_tells x.0 i.replica) [ inl q ↦ rw q.0 n | inr q ↦ absurd (q.1 r) ];
            more = subst (λ (y : ℕ). count_of now y < i.number) r (subst (λ (y : ℕ). count_of now x.0 < y) n high);
            below = λ s l.
                let z : count_of es s ≡ 0 = count_of-below (x.0 + 1) es s (omega (arith, l, r)) a.2 in
                elim (eqb_tells x.0 s) [ inl q ↦ let w = q.1 in absurd (omega (arith, w, l, r)) | inr q ↦ rw q.0 (omega (arith, z)) ];
          }
      | inr f ↦
          let k : first_beyond now es ≡ Some i = rw f at e in
          let rest = some_beyond now es (x.0 + 1) i a.2 k in
          let high : x.1 ≤ count_of now x.0 = omega (arith, ltb-false (count_of now x.0) x.1 f) in
          let far = rest.above in
          record {
            above = omega (arith, a.0, far);
            last = elim (eqb_tells x.0 i.replica) [ inl q ↦ let w = q.1 in absurd (omega (arith, w, far)) | inr q ↦ rw q.0 rest.last ];
            more = rest.more;
            below = λ s l. elim (eqb_tells x.0 s) [
              | inl q ↦ rw q.0 (subst (λ (y : ℕ). x.1 ≤ count_of now y) q.1 high)
              | inr q ↦ rw q.0 (rest.below s l)
            ];
          }
    ]

-- whether an id is in a list, and a replica's least missing number
module _ {O : Type 0} (id : O → OpId) where
  pub has_decided : (ops : List O) (i : OpId) → HasId id ops i ⊎ (HasId id ops i → ⊥)
  has_decided [] i = inr (λ h. h)
  has_decided (o ∷ ops) i = elim (id_decided (id o) i) [
    | inl e ↦ inl (inl e)
    | inr n ↦ elim (has_decided ops i) [ inl h ↦ inl (inr h) | inr m ↦ inr (λ h. elim h [ inl e ↦ n e | inr t ↦ m t ]) ]
  ]

  abbrev HasAllTo : List O → ℕ → ℕ → Type 0
  HasAllTo ops r n = (m : ℕ) → 0 < m → m ≤ n → HasId id ops (record { replica = r; number = m })

  record LacksFirst (ops : List O) (r n : ℕ) : Type 0 where
    pub number : ℕ
    pub positive : 0 < number
    pub to : number ≤ n
    pub missing : ¬ HasId id ops (record { replica = r; number = number })
    pub first : (m : ℕ) → 0 < m → m < number → HasId id ops (record { replica = r; number = m })

  all_or_first : (ops : List O) (r n : ℕ) → HasAllTo ops r n ⊎ LacksFirst ops r n
  all_or_first ops r zero = inl (λ m p l. absurd (omega (arith, p, l)))
  all_or_first ops r (suc n) = elim (all_or_first ops r n) [
    | inr f ↦ let l = f.to in inr (record { number = f.number; positive = f.positive; to = omega (arith, l); missing = f.missing; first = f.first })
    | inl all ↦ elim (has_decided ops (record { replica = r; number = suc n })) [
      | inl h ↦ inl (λ m p l. elim (cases_lt m (suc n)) [
        | inl s ↦ all m p (omega (arith, s))
        | inr e ↦ subst (λ (k : ℕ). HasId id ops (record { replica = r; number = k })) (omega (arith, e, l)) h
      ])
      | inr lacks ↦ inr (record { number = suc n; positive = omega arith; to = omega arith; missing = lacks; first = λ m p s. all m p (omega (arith, s)) })
    ]
  ]

module _ {O : Type 0} (id : O → OpId) (clock : O → List (ℕ × ℕ)) (applied : List O) (o : O) where
  -- no replica before that of the awaited cause has a missing cause
  pub awaited_least : (i : OpId) → IsAwaited id clock applied o i → (j : OpId) → IsCause (clock o) j → ¬ HasId id applied j → i.replica ≤ j.replica
  awaited_least i w j c n =
      let e : w.least.0.replica ≡ i.replica = w.least.1 in
      elim (cases_lt j.replica i.replica) [
        | inl l ↦ absurd (w.least.2.least j c n (inl (omega (arith, l, e))))
        | inr m ↦ m
      ]

  -- a replica's last cause is awaited if it is missing and no replica before has a missing cause
  pub awaited_by : (i : OpId) → IsCause (clock o) i → ¬ HasId id applied i → count_of (clock o) i.replica ≡ i.number → ((j : OpId) → IsCause (clock o) j → ¬ HasId id applied j → i.replica ≤ j.replica) → IsAwaited id clock applied o i
  awaited_by i c n last far =
      let least : (j : OpId) × (j.replica ≡ i.replica) × IsLeastMissing id clock applied o j =
      elim (all_or_first id applied i.replica i.number) [
        | inl all ↦ absurd (n (all i.number c.0 (omega arith)))
        | inr f ↦
            let to = f.to in (
              record { replica = i.replica; number = f.number },
              refl,
              record {
                cause = (f.positive, omega (arith, to, last));
                missing = f.missing;
                least = λ j h m l.
                    let q : i.replica ≤ j.replica = far j h m in
                    elim l [
                      | inl a ↦ omega (arith, q, a)
                      | inr b ↦ m (subst (λ (r : ℕ). HasId id applied (record { replica = r; number = j.number })) (sym b.0) (f.first j.number h.0 b.1))
                    ];
              },
            )
      ] in
      record { cause = c; missing = n; last = last; least = least }

  -- the least missing cause is the operation after those applied, from the replica of the awaited
  -- cause
  pub least_missing : (now : List (ℕ × ℕ)) (i : OpId) → IsClockOf id applied now → IsAwaited id clock applied o i → IsLeastMissing id clock applied o (record { replica = i.replica; number = count_of now i.replica + 1 })
  least_missing now i k w =
      let first : OpId = record { replica = i.replica; number = count_of now i.replica + 1 } in
      let positive : 0 < i.number = w.cause.0 in
      let more : count_of now i.replica < i.number = elim (cases_lt (count_of now i.replica) i.number) [ inl l ↦ l | inr m ↦ absurd (w.missing ((k i).0 (positive, m))) ] in
      let last : count_of (clock o) i.replica ≡ i.number = w.last in
      record {
        cause = (omega arith, omega (arith, more, last));
        missing = λ h. let q : count_of now i.replica + 1 ≤ count_of now i.replica = ((k first).1 h).1 in omega (arith, q);
        least = λ j c n l.
            let far : i.replica ≤ j.replica = awaited_least i w j c n in
            elim l [
              | inl a ↦ omega (arith, far, a)
              | inr b ↦
                  let m : j.number < count_of now i.replica + 1 = b.1 in
                  let q : count_of now i.replica ≡ count_of now j.replica = ap (count_of now) (sym b.0) in
                  n ((k j).0 (c.0, omega (arith, m, q)))
            ];
      }

  -- both causes are of one replica
  pub one_replica : (i j : OpId) → IsAwaited id clock applied o i → IsLeastMissing id clock applied o j → i.replica ≡ j.replica
  one_replica i j w m =
      let far : i.replica ≤ j.replica = awaited_least i w j m.cause m.missing in
      elim (cases_lt i.replica j.replica) [
        | inl l ↦ absurd (m.least i w.cause w.missing (inl l))
        | inr n ↦ omega (arith, far, n)
      ]

-- the cause that an operation waits for
pub waits : {O : Type 0} (id : O → OpId) (clock : O → List (ℕ × ℕ)) (applied : List O) (o : O) (now : List (ℕ × ℕ)) (r : Option OpId) → IsClock (clock o) → IsClockOf id applied now → r ≡ first_beyond now (clock o) → MatchOption r ((i : OpId) → IsCause (clock o) i → HasId id applied i) (IsAwaited id clock applied o)
waits id clock applied o now None c k e = λ i h. let w = none_beyond now (clock o) (sym e) i.replica in let n = h.1 in (k i).0 (h.0, omega (arith, n, w))
waits id clock applied o now (Some i) c k e =
    let b = some_beyond now (clock o) 1 i c (sym e) in
    let more = b.more in
    let last = b.last in
    awaited_by id clock applied o i
    (omega (arith, more), omega (arith, last))
    (λ h. let q = ((k i).1 h).1 in omega (arith, q, more))
    last
    (λ j h n. elim (cases_lt j.replica i.replica) [
      | inl l ↦ let w = b.below j.replica l in let m = h.1 in absurd (n ((k j).0 (h.0, omega (arith, m, w))))
      | inr m ↦ m
    ])
