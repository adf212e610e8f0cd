use Rattle.std.proofs.Common.{◌≡◌, ◌≢◌, ◌↔◌, inl, inr, ℕ, ◌+◌, ◌-◌, ◌<◌, ◌≤◌, suc, zero, List, [], ◌∷◌, ◌++◌, length, get_or, take, drop, sym, refl, ap, ◌∙◌, subst, arith, length-drop}
use Rattle.std.specs.List.{insert, remove}
use Rattle.std.proofs.lemmas.List.{take-append-drop}
use Rattle.std.proofs.lemmas.Bool.{cases_lt}
use Rattle.std.proofs.Math.Seq.{drop-cons}
use Rattle.tags_clocks.specs.declared.id.OpId.{OpId}
use Rattle.merge_laws.specs.Orders.{IsIn, HasId, HaveSameElements}
use Rattle.merge_laws.proofs.Lists.{in_middle, in_rest, in_cases, in_parts, in_back, id_of_element, id_in_parts, id_in_front, id_in_back}
use Rattle.causal_inbox.specs.Inbox.{IsLess, AreAscending, AreRemainingHeld}
use Rattle.causal_inbox.proofs.Places.{take_next}

-- the order of ids
pub less_irreflexive : (i j : OpId) → i ≡ j → IsLess i j → ⊥
less_irreflexive i j e h =
    let r : i.replica ≡ j.replica = ap (λ (x : OpId). x.replica) e in
    let n : i.number ≡ j.number = ap (λ (x : OpId). x.number) e in
    elim h [ inl l ↦ omega arith | inr p ↦ let k = p.1 in omega arith ]

pub less_trans : (i j k : OpId) → IsLess i j → IsLess j k → IsLess i k
less_trans i j k h m =
    elim h [
      | inl l ↦ elim m [ inl n ↦ inl (omega arith) | inr q ↦ let e = q.0 in inl (omega arith) ]
      | inr p ↦ let e = p.0 in elim m [ inl n ↦ inl (omega arith) | inr q ↦ let f = q.0 in let a = p.1 in let b = q.1 in inr (e ∙ f, omega arith) ]
    ]

pub less_or_greater : (i j : OpId) → (IsLess i j → ⊥) → (i ≡ j → ⊥) → IsLess j i
less_or_greater i j n e =
    elim (cases_lt j.replica i.replica) [
      | inl l ↦ inl l
      | inr m ↦ elim (cases_lt i.replica j.replica) [
        | inl l ↦ absurd (n (inl l))
        | inr o ↦
            let r : i.replica ≡ j.replica = omega arith in
            elim (cases_lt j.number i.number) [
              | inl l ↦ inr (sym r, l)
              | inr p ↦ elim (cases_lt i.number j.number) [
                | inl l ↦ absurd (n (inr (r, l)))
                | inr q ↦ absurd (e (let k : i.number ≡ j.number = omega arith in λ t. record { replica = r t; number = k t }))
              ]
            ]
      ]
    ]

-- the element at a place of a list
pub element_at : {X : Type 0} (xs : List X) (i : ℕ) → i < length xs → (x : X) × (x ≡ get_or xs i x)
element_at [] i l = absurd (omega arith)
element_at (x ∷ xs) zero l = (x, refl)
element_at (x ∷ xs) (suc i) l = element_at xs i (omega arith)

pub cut_at : {X : Type 0} (xs : List X) (i : ℕ) (x : X) → i < length xs → x ≡ get_or xs i x → xs ≡ take i xs ++ x ∷ drop (suc i) xs
cut_at xs i x l is = sym (take-append-drop i xs) ∙ ap (λ ys. take i xs ++ ys) (drop-cons xs i x l ∙ ap (λ y. y ∷ drop (suc i) xs) (sym is))

pub element_is_in : {X : Type 0} (xs : List X) (i : ℕ) (x : X) → i < length xs → x ≡ get_or xs i x → IsIn x xs
element_is_in xs i x l is = subst (IsIn x) (sym (cut_at xs i x l is)) (in_middle x (take i xs) (drop (suc i) xs))

first_of_rest : {X : Type 0} (xs : List X) (i : ℕ) (d : X) → i < length xs → get_or (drop i xs) 0 d ≡ get_or xs i d
first_of_rest [] i d l = absurd (omega arith)
first_of_rest (x ∷ xs) zero d l = refl
first_of_rest (x ∷ xs) (suc i) d l = first_of_rest xs i d (omega arith)

pub one_slice : {X : Type 0} (xs : List X) (at : ℕ) (x : X) → at < length xs → x ≡ get_or xs at x → take ((at + 1) - at) (drop at xs) ≡ x ∷ []
one_slice xs at x l is =
    let one : (at + 1) - at ≡ 1 = omega arith in
    ap (λ k. take k (drop at xs)) one ∙ ap (take 1) (drop-cons xs at x l ∙ ap (λ y. y ∷ drop (suc at) xs) (sym is))

module _ {O : Type 0} (id : O → OpId) where
  pub ascending_front : (front back : List O) (x o : O) → AreAscending id (front ++ x ∷ back) → IsIn o front → IsLess (id o) (id x)
  ascending_front [] back x o a h = absurd h
  ascending_front (b ∷ front) back x o a h =
      elim h [
        | inl e ↦ subst (λ (y : O). IsLess (id y) (id x)) e (a.0 x (in_middle x front back))
        | inr t ↦ ascending_front front back x o a.1 t
      ]

  pub ascending_back : (front back : List O) (x o : O) → AreAscending id (front ++ x ∷ back) → IsIn o back → IsLess (id x) (id o)
  ascending_back [] back x o a h = a.0 o h
  ascending_back (b ∷ front) back x o a h = ascending_back front back x o a.1 h

  pub ascending_without : (front back : List O) (x : O) → AreAscending id (front ++ x ∷ back) → AreAscending id (front ++ back)
  ascending_without [] back x a = a.1
  ascending_without (b ∷ front) back x a = (λ p h. a.0 p (in_rest x p front back h), ascending_without front back x a.1)

  pub ascending_with : (front back : List O) (x : O) → AreAscending id (front ++ back) → ((o : O) → IsIn o front → IsLess (id o) (id x)) → ((o : O) → IsIn o back → IsLess (id x) (id o)) → AreAscending id (front ++ x ∷ back)
  ascending_with [] back x a f b = (b, a)
  ascending_with (y ∷ front) back x a f b = (
    λ p h. elim (in_cases x p front back h) [
      | inl e ↦ subst (λ (z : O). IsLess (id y) (id z)) e (f y (inl refl))
      | inr t ↦ a.0 p t
    ],
    ascending_with front back x a.1 (λ o h. f o (inr h)) b,
  )

  -- in an ascending list an id determines the operation
  pub ascending_determines : (os : List O) (a b : O) → AreAscending id os → IsIn a os → IsIn b os → id a ≡ id b → a ≡ b
  ascending_determines [] a b s h k e = absurd h
  ascending_determines (o ∷ os) a b s h k e =
      elim h [
        | inl p ↦ elim k [
          | inl q ↦ sym p ∙ q
          | inr t ↦ absurd (less_irreflexive (id o) (id b) (ap id p ∙ e) (s.0 b t))
        ]
        | inr u ↦ elim k [
          | inl q ↦ absurd (less_irreflexive (id o) (id a) (ap id q ∙ sym e) (s.0 a u))
          | inr t ↦ ascending_determines os a b s.1 u t e
        ]
      ]

  -- an operation taken out of its place
  pub removed_ascending : (os : List O) (at : ℕ) → at < length os → AreAscending id os → AreAscending id (remove os at)
  removed_ascending os at l a =
      let x = element_at os at l in
      ascending_without (take at os) (drop (suc at) os) x.0 (subst (AreAscending id) (cut_at os at x.0 l x.1) a)

  pub removed_others : (os : List O) (at : ℕ) (x o : O) → at < length os → x ≡ get_or os at x → AreAscending id os → IsIn o (remove os at) ↔ (IsIn o os × (id o ≢ id x))
  removed_others os at x o l is a =
      let cut : os ≡ take at os ++ x ∷ drop (suc at) os = cut_at os at x l is in
      let a' : AreAscending id (take at os ++ x ∷ drop (suc at) os) = subst (AreAscending id) cut a in (
        λ h. (
          subst (IsIn o) (sym cut) (in_rest x o (take at os) (drop (suc at) os) h),
          λ e. elim (in_parts o (take at os) (drop (suc at) os) h) [
            | inl t ↦ less_irreflexive (id o) (id x) e (ascending_front (take at os) (drop (suc at) os) x o a' t)
            | inr t ↦ less_irreflexive (id x) (id o) (sym e) (ascending_back (take at os) (drop (suc at) os) x o a' t)
          ],
        ),
        λ h. elim (in_cases x o (take at os) (drop (suc at) os) (subst (IsIn o) cut h.0)) [
          | inl e ↦ absurd (h.1 (ap id (sym e)))
          | inr t ↦ t
        ],
      )

  -- an operation put in at its place
  greater_after : (back : List O) (x : O) → AreAscending id back → ((b : O) → 0 < length back → b ≡ get_or back 0 b → ¬ IsLess (id b) (id x)) → ((b : O) → IsIn b back → ¬ (id b ≡ id x)) → (o : O) → IsIn o back → IsLess (id x) (id o)
  greater_after [] x a n d o h = absurd h
  greater_after (b ∷ back) x a n d o h =
      let first : IsLess (id x) (id b) = less_or_greater (id b) (id x) (n b (omega arith) refl) (d b (inl refl)) in
      elim h [
        | inl e ↦ subst (λ (y : O). IsLess (id x) (id y)) e first
        | inr t ↦ less_trans (id x) (id b) (id o) first (a.0 o t)
      ]

  back_ascends : (front back : List O) → AreAscending id (front ++ back) → AreAscending id back
  back_ascends [] back a = a
  back_ascends (x ∷ front) back a = back_ascends front back a.1

  pub inserted_ascending : (os : List O) (at : ℕ) (x : O) → at ≤ length os → AreAscending id os → ¬ HasId id os (id x) → ((o : O) → IsIn o (take at os) → IsLess (id o) (id x)) → ((o : O) → at < length os → o ≡ get_or os at o → ¬ IsLess (id o) (id x)) → AreAscending id (insert os at x)
  inserted_ascending os at x l a new less not_less =
      let parts : take at os ++ drop at os ≡ os = take-append-drop at os in
      let a' : AreAscending id (take at os ++ drop at os) = subst (AreAscending id) (sym parts) a in
      ascending_with (take at os) (drop at os) x a' less
      (greater_after (drop at os) x (back_ascends (take at os) (drop at os) a')
      (λ b p is. not_less b (let e : length (drop at os) ≡ length os - at = length-drop at os in omega arith) (is ∙ first_of_rest os at b (let e : length (drop at os) ≡ length os - at = length-drop at os in omega arith)))
      (λ b h e. new (subst (HasId id os) e (id_of_element id b os (subst (IsIn b) parts (in_back b (take at os) (drop at os) h))))))

  pub inserted_elements : (os : List O) (at : ℕ) (x : O) → HaveSameElements (insert os at x) (x ∷ os)
  inserted_elements os at x o =
      let parts : take at os ++ drop at os ≡ os = take-append-drop at os in (
        λ h. elim (in_cases x o (take at os) (drop at os) h) [ inl e ↦ inl e | inr t ↦ inr (subst (IsIn o) parts t) ],
        λ h. elim h [
          | inl e ↦ subst (λ (y : O). IsIn y (insert os at x)) e (in_middle x (take at os) (drop at os))
          | inr t ↦ in_rest x o (take at os) (drop at os) (subst (IsIn o) (sym parts) t)
        ],
      )

  -- the held list after one operation is put in
  pub held_after_insert : (os before shown new : List O) (at : ℕ) (x : O) (j : OpId) → new ≡ insert before at x → before ≡ os → shown ≡ before → j ≡ id x → at ≤ length shown → AreAscending id os → ¬ HasId id os (id x) → ((o : O) → IsIn o (take at shown) → IsLess (id o) j) → ((o : O) → at < length shown → o ≡ get_or shown at o → ¬ IsLess (id o) j) → AreAscending id new × HaveSameElements new (x ∷ os)
  held_after_insert os before shown new at x j n b s e l a none less not_less =
      let same : shown ≡ os = s ∙ b in
      let made : insert os at x ≡ new = sym (n ∙ ap (λ xs. insert xs at x) b) in
      let less' : (o : O) → IsIn o (take at os) → IsLess (id o) (id x) = λ o h. subst (IsLess (id o)) e (less o (subst (λ xs. IsIn o (take at xs)) (sym same) h)) in
      let not_less' : (o : O) → at < length os → o ≡ get_or os at o → ¬ IsLess (id o) (id x) = λ o k is t.
      not_less o (subst (λ xs. at < length xs) (sym same) k) (subst (λ xs. o ≡ get_or xs at o) (sym same) is) (subst (IsLess (id o)) (sym e) t) in (
        subst (AreAscending id) made (inserted_ascending os at x (subst (λ xs. at ≤ length xs) same l) a none less' not_less'),
        subst (λ xs. HaveSameElements xs (x ∷ os)) made (inserted_elements os at x),
      )

  -- the held list after one operation is taken out
  pub held_after_remove : (os shown new : List O) (at : ℕ) (j : OpId) → new ≡ remove os at → shown ≡ os → AreAscending id os → (at < length shown) × ((o : O) → o ≡ get_or shown at o → id o ≡ j) → AreAscending id new × ((o : O) → IsIn o new ↔ (IsIn o os × (id o ≢ j)))
  held_after_remove os shown new at j n s a h =
      let l : at < length os = subst (λ xs. at < length xs) s h.0 in
      let x = element_at os at l in
      let e : id x.0 ≡ j = h.1 x.0 (subst (λ xs. x.0 ≡ get_or xs at x.0) (sym s) x.1) in (
        subst (AreAscending id) (sym n) (removed_ascending os at l a),
        λ o. subst (λ xs. IsIn o xs ↔ (IsIn o os × (id o ≢ j))) (sym n) (subst (λ i. IsIn o (remove os at) ↔ (IsIn o os × (id o ≢ i))) e (removed_others os at x.0 o l x.1 a)),
      )

  pub held_without_remove : (os shown : List O) (j : OpId) → shown ≡ os → ¬ HasId id shown j → (o : O) → IsIn o os ↔ (IsIn o os × (id o ≢ j))
  held_without_remove os shown j s n o = (
    λ h. (h, λ e. n (subst (HasId id shown) e (subst (λ xs. HasId id xs (id o)) (sym s) (id_of_element id o os h)))),
    λ h. h.0,
  )

  -- the ids of one further operation
  pub held_still_step : (ops : List O) (i : ℕ) (x : O) (j : OpId) (old now new : List O) → i < length ops → x ≡ get_or ops i x → j ≡ id x → AreRemainingHeld id (take i ops) old now → ((o : O) → IsIn o new ↔ (IsIn o now × (id o ≢ j))) → AreRemainingHeld id (take (i + 1) ops) old new
  held_still_step ops i x j old now new l is e remaining others o =
      let more : take (i + 1) ops ≡ take i ops ++ x ∷ [] = take_next ops i x l is in (
        λ h. let k = (others o).0 h in let m = (remaining o).0 k.0 in (
          m.0,
          λ t. elim (id_in_parts id (id o) (take i ops) (x ∷ []) (subst (λ xs. HasId id xs (id o)) more t)) [
            | inl u ↦ m.1 u
            | inr u ↦ elim u [ inl p ↦ k.1 (sym p ∙ sym e) | inr n ↦ n ]
          ],
        ),
        λ h. (others o).1 (
          (remaining o).1 (h.0, λ t. h.1 (subst (λ xs. HasId id xs (id o)) (sym more) (id_in_front id (id o) (take i ops) (x ∷ []) t))),
          λ p. h.1 (subst (λ xs. HasId id xs (id o)) (sym more) (id_in_back id (id o) (take i ops) (x ∷ []) (inl (sym (p ∙ e))))),
        ),
      )
