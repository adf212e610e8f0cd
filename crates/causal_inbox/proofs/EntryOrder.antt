use Rattle.std.proofs.Common.{◌≡◌, ◌≢◌, ◌↔◌, ◌⊎◌, inl, inr, ℕ, ◌+◌, ◌<◌, ◌≤◌, Bool, IsTrue, Option, Some, None, List, [], ◌∷◌, length, get_or, take, insert, slice_get, MatchOption, sym, refl, ap, ◌∙◌, subst, arith}
use Rattle.std.proofs.lemmas.Bool.{cases_lt}
use Rattle.std.proofs.lemmas.Option.{slice_get_read, slice_get-get_or}
use Rattle.tags_clocks.specs.Clock.{IsCause}
use Rattle.tree_list.specs.Searches.{IsPartitioned, IsPoint}
use Rattle.tags_clocks.specs.declared.id.OpId.{OpId}
use Rattle.merge_laws.specs.Orders.{IsIn, HasId}
use Rattle.causal_inbox.specs.declared.cause_index.CauseEntry.{CauseEntry}
use Rattle.causal_inbox.specs.Inbox.{IsLess, AreAscending}
use Rattle.causal_inbox.specs.CauseIndex.{IsAwaited, IsCauseLess, IsIndexedBefore, IsIndexedUnder, AreOrdered}
use Rattle.causal_inbox.proofs.AscendingLemmas.{less_irreflexive, less_trans, less_or_greater}
use Rattle.causal_inbox.proofs.Ordered.{bool_of, is_bool, of_false, parts_around, inserted_ordered, point_before, point_not, point_after, element_at_point, ordered_at}

-- ids
pub less_decided : (i j : OpId) → IsLess i j ⊎ (IsLess i j → ⊥)
less_decided i j =
    elim (cases_lt i.replica j.replica) [
      | inl l ↦ inl (inl l)
      | inr m ↦ elim (cases_lt j.replica i.replica) [
        | inl l ↦ inr (λ h. elim h [ inl k ↦ omega (arith, l, k) | inr p ↦ let e = p.0 in omega (arith, e, l) ])
        | inr o ↦ elim (cases_lt i.number j.number) [
          | inl n ↦ inl (inr (omega (arith, m, o), n))
          | inr n ↦ inr (λ h. elim h [ inl k ↦ omega (arith, k, m) | inr p ↦ let k = p.1 in omega (arith, k, n) ])
        ]
      ]
    ]

pub id_decided : (i j : OpId) → (i ≡ j) ⊎ (i ≡ j → ⊥)
id_decided i j =
    elim (less_decided i j) [
      | inl l ↦ inr (λ e. less_irreflexive i j e l)
      | inr n ↦ elim (less_decided j i) [
        | inl l ↦ inr (λ e. less_irreflexive j i (sym e) l)
        | inr m ↦ elim (cases_lt i.replica j.replica) [
          | inl l ↦ absurd (n (inl l))
          | inr a ↦ elim (cases_lt j.replica i.replica) [
            | inl l ↦ absurd (m (inl l))
            | inr b ↦
                let r : i.replica ≡ j.replica = omega (arith, a, b) in
                elim (cases_lt i.number j.number) [
                  | inl l ↦ absurd (n (inr (r, l)))
                  | inr c ↦ elim (cases_lt j.number i.number) [
                    | inl l ↦ absurd (m (inr (sym r, l)))
                    | inr d ↦ let k : i.number ≡ j.number = omega (arith, c, d) in inl (λ t. record { replica = r t; number = k t })
                  ]
                ]
          ]
        ]
      ]
    ]

-- causes
some_is : (i j : OpId) → Some i ≡ Some j → i ≡ j
some_is i j e = cc

pub cause_irr : (c d : Option OpId) → c ≡ d → IsCauseLess c d → ⊥
cause_irr None None e h = h
cause_irr None (Some j) e h = cc
cause_irr (Some i) None e h = h
cause_irr (Some i) (Some j) e h = less_irreflexive i j (some_is i j e) h

pub cause_trans : (c d e : Option OpId) → IsCauseLess c d → IsCauseLess d e → IsCauseLess c e
cause_trans None None e h m = absurd h
cause_trans None (Some j) None h m = absurd m
cause_trans None (Some j) (Some k) h m = tt
cause_trans (Some i) None e h m = absurd h
cause_trans (Some i) (Some j) None h m = absurd m
cause_trans (Some i) (Some j) (Some k) h m = less_trans i j k h m

pub cause_other : (c d : Option OpId) → (IsCauseLess c d → ⊥) → (c ≡ d → ⊥) → IsCauseLess d c
cause_other None None n e = absurd (e refl)
cause_other None (Some j) n e = absurd (n tt)
cause_other (Some i) None n e = tt
cause_other (Some i) (Some j) n e = less_or_greater i j n (λ k. e (ap Some k))

pub cause_decided : (c d : Option OpId) → IsCauseLess c d ⊎ (IsCauseLess c d → ⊥)
cause_decided None None = inr (λ h. h)
cause_decided None (Some j) = inl tt
cause_decided (Some i) None = inr (λ h. h)
cause_decided (Some i) (Some j) = less_decided i j

pub same_cause_decided : (c d : Option OpId) → (c ≡ d) ⊎ (c ≡ d → ⊥)
same_cause_decided None None = inl refl
same_cause_decided None (Some j) = inr (λ e. cc)
same_cause_decided (Some i) None = inr (λ e. cc)
same_cause_decided (Some i) (Some j) = elim (id_decided i j) [ inl e ↦ inl (ap Some e) | inr n ↦ inr (λ e. n (some_is i j e)) ]

-- entries
pub before_irr : (f g : CauseEntry) → f ≡ g → IsIndexedBefore f g → ⊥
before_irr f g e h = elim h [ inl l ↦ cause_irr f.cause g.cause (ap (λ (x : CauseEntry). x.cause) e) l | inr p ↦ less_irreflexive f.id g.id (ap (λ (x : CauseEntry). x.id) e) p.1 ]

pub before_trans : (f g h : CauseEntry) → IsIndexedBefore f g → IsIndexedBefore g h → IsIndexedBefore f h
before_trans f g h a b = elim a [
  | inl l ↦ elim b [
    | inl m ↦ inl (cause_trans f.cause g.cause h.cause l m)
    | inr q ↦ inl (subst (IsCauseLess f.cause) q.0 l)
  ]
  | inr p ↦ elim b [
    | inl m ↦ inl (subst (λ (c : Option OpId). IsCauseLess c h.cause) (sym p.0) m)
    | inr q ↦ inr (p.0 ∙ q.0, less_trans f.id g.id h.id p.1 q.1)
  ]
]

pub before_other : (f g : CauseEntry) → (IsIndexedBefore f g → ⊥) → (f ≡ g → ⊥) → IsIndexedBefore g f
before_other f g n d =
    elim (same_cause_decided f.cause g.cause) [
      | inl e ↦ inr (sym e, less_or_greater f.id g.id (λ l. n (inr (e, l))) (λ k. d (λ t. record { cause = e t; id = k t })))
      | inr m ↦ inl (cause_other f.cause g.cause (λ l. n (inl l)) m)
    ]

pub before_decided : (g f : CauseEntry) → IsIndexedBefore f g ⊎ (IsIndexedBefore f g → ⊥)
before_decided g f =
    elim (cause_decided f.cause g.cause) [
      | inl l ↦ inl (inl l)
      | inr n ↦ elim (same_cause_decided f.cause g.cause) [
        | inl e ↦ elim (less_decided f.id g.id) [
          | inl l ↦ inl (inr (e, l))
          | inr m ↦ inr (λ h. elim h [ inl k ↦ n k | inr p ↦ m p.1 ])
        ]
        | inr d ↦ inr (λ h. elim h [ inl k ↦ n k | inr p ↦ d p.0 ])
      ]
    ]

-- the results of the code's tests, as decided
pub is_before : (f g : CauseEntry) (r : Bool) → IsTrue r ↔ IsIndexedBefore f g → r ≡ bool_of (before_decided g f)
is_before f g r h = is_bool r (before_decided g f) h

pub is_lesser : (c d : Option OpId) (r : Bool) → IsTrue r ↔ IsCauseLess c d → r ≡ bool_of (cause_decided c d)
is_lesser c d r h = is_bool r (cause_decided c d) h

pub is_less : (i j : OpId) (r : Bool) → IsTrue r ↔ IsLess i j → r ≡ bool_of (less_decided i j)
is_less i j r h = is_bool r (less_decided i j) h

-- the held list, as ordered by ids
pub ids_ordered : {O : Type 0} (id : O → OpId) (os : List O) → AreAscending id os → AreOrdered (λ (a b : O). IsLess (id a) (id b)) os
ids_ordered id [] a = tt
ids_ordered id (o ∷ os) a = (a.0, ids_ordered id os a.1)

-- the cause under which an operation is indexed
pub indexed_under : {O : Type 0} (id : O → OpId) (clock : O → List (ℕ × ℕ)) (applied : List O) (o : O) (r : Option OpId) → MatchOption r ((i : OpId) → IsCause (clock o) i → HasId id applied i) (IsAwaited id clock applied o) → ¬ HasId id applied (id o) → IsIndexedUnder id clock applied o r
indexed_under id clock applied o None m n = (m, n)
indexed_under id clock applied o (Some i) m n = m

-- the test of a place in the index
abbrev pub is_entry_before : CauseEntry → ℕ → CauseEntry → Bool
is_entry_before e i f = bool_of (before_decided e f)

before_self : (e : CauseEntry) → IsIndexedBefore e e → ⊥
before_self e h = before_irr e e refl h

pub entry_before_parts : (e : CauseEntry) (entries : List CauseEntry) → AreOrdered IsIndexedBefore entries → IsPartitioned (is_entry_before e) entries
entry_before_parts e entries a = parts_around IsIndexedBefore (λ f. IsIndexedBefore f e) (before_decided e) entries (λ f g l m. before_trans f g e l m) a

pub index_put : (e : CauseEntry) (entries : List CauseEntry) (n : ℕ) → AreOrdered IsIndexedBefore entries → n ≤ length entries → IsPoint (is_entry_before e) entries n → ¬ IsIn e entries → AreOrdered IsIndexedBefore (insert entries n e)
index_put e entries n a within point new =
    inserted_ordered IsIndexedBefore before_trans before_other entries n e within a new
    (point_before IsIndexedBefore (λ f. IsIndexedBefore f e) (before_decided e) entries n point)
    (λ f l is h. point_not IsIndexedBefore (λ g. IsIndexedBefore g e) (before_decided e) entries n point f l is h)

pub entry_at_point : (e : CauseEntry) (entries : List CauseEntry) (n : ℕ) → AreOrdered IsIndexedBefore entries → IsPoint (is_entry_before e) entries n → IsIn e entries → slice_get entries n ≡ Some e
entry_at_point e entries n a point h = element_at_point IsIndexedBefore (λ f. IsIndexedBefore f e) (before_decided e) entries n e (λ f l. l) (before_self e) a point h

-- the test of the first place of a cause
abbrev pub is_earlier : Option OpId → ℕ → CauseEntry → Bool
is_earlier c i f = bool_of (cause_decided f.cause c)

down_cause : (c : Option OpId) (f g : CauseEntry) → IsIndexedBefore f g → IsCauseLess g.cause c → IsCauseLess f.cause c
down_cause c f g l m = elim l [ inl k ↦ cause_trans f.cause g.cause c k m | inr p ↦ subst (λ (d : Option OpId). IsCauseLess d c) (sym p.0) m ]

pub earlier_parts : (c : Option OpId) (entries : List CauseEntry) → AreOrdered IsIndexedBefore entries → IsPartitioned (is_earlier c) entries
earlier_parts c entries a = parts_around IsIndexedBefore (λ f. IsCauseLess f.cause c) (λ f. cause_decided f.cause c) entries (down_cause c) a

-- no entry is under the cause if the one at its first place isn't
pub none_under : (c : Option OpId) (entries : List CauseEntry) (n : ℕ) → AreOrdered IsIndexedBefore entries → IsPoint (is_earlier c) entries n → ((f : CauseEntry) → slice_get entries n ≡ Some f → f.cause ≢ c) → (f : CauseEntry) → IsIn f entries → f.cause ≢ c
none_under c entries n a point other f h e =
    let r = point_after IsIndexedBefore (λ g. IsCauseLess g.cause c) (λ g. cause_decided g.cause c) entries n point f h (cause_irr f.cause c e) in
    elim (cases_lt n r.0) [
      | inl l ↦
          let inside : n < length entries = omega (arith, l, r.2) in
          let g = get_or entries n f in
          let at : slice_get entries n ≡ Some g = slice_get-get_or entries n f inside in
          let first : IsIndexedBefore g f = subst (IsIndexedBefore g) (sym r.3) (ordered_at IsIndexedBefore entries n r.0 f a l r.2) in
          elim first [
            | inl k ↦ of_false (cause_decided g.cause c) (point.fail n f (omega arith) inside) (subst (IsCauseLess g.cause) e k)
            | inr p ↦ other g at (p.0 ∙ e)
          ]
      | inr m ↦
          let k : r.0 ≡ n = omega (arith, m, r.1) in
          other f (ap (slice_get entries) (sym k) ∙ slice_get_read entries (length entries) r.0 f refl r.2 r.3) e
    ]
