-- Entries by ascending UID, with an index from origins to UIDs.
use Rattle.std.specs.Result.{is_err}
use Rattle.std.proofs.Common.{Result, Ok, Err, OnOk, MatchOption, ◌≡◌, inl, inr, ℕ, Bool, zero, suc, ◌+◌, ◌-◌, ◌<◌, ◌≤◌, true, false, ltb, if◌then◌else◌, List, [], ◌∷◌, ◌++◌, length, set, remove, get_or, sym, ap, subst, ◌∙◌, arith, Option, Some, None}
use Rattle.std.specs.List.{slice_get}
use Rattle.std.proofs.lemmas.Bool.{cases_Bool, cases_order}
use Rattle.std.proofs.lemmas.Bool.Decides.{nat_tests}
use Rattle.tags_clocks.specs.declared.id.OpId.{OpId}
use Rattle.mailbox_rows.specs.declared.entry.ListingEntry.{ListingEntry}
use Rattle.mailbox_rows.specs.ListingEntries.{AreBelow, AreIndexed, AreRising, IsEdge, IsUidIndex, Lacks, LacksAt, is_id}

-- ---- ids

pub is_id_true : (a b : OpId) → is_id a b ≡ true → a ≡ b
is_id_true a b h =
    let r : a.replica ≡ b.replica = grind (arith, nat_tests) in
    let n : a.number ≡ b.number = grind (arith, nat_tests) in
    λ k. record { replica = r k; number = n k }

pub is_id_same : (a : OpId) → is_id a a ≡ true
is_id_same a = grind (arith, nat_tests)

pub is_id_sym : (a b : OpId) → is_id a b ≡ false → is_id b a ≡ false
is_id_sym a b h =
    elim (cases_Bool (is_id b a)) [
      | inl t ↦ (let e = is_id_true b a t in absurd (cc (h, subst (λ x. is_id x b ≡ true) e (is_id_same b))))
      | inr f ↦ f
    ]

-- ---- UIDs

rising_from : (low : ℕ) (es : List ListingEntry) → AreRising low es → (j : ℕ) (d : ListingEntry) → j < length es → low ≤ (get_or es j d).uid
rising_from low [] h j d k = absurd (omega (arith, k))
rising_from low (e ∷ es) h zero d k = h.0
rising_from low (e ∷ es) h (suc j) d k =
    let first : low ≤ e.uid = h.0 in
    let rest : e.uid + 1 ≤ (get_or es j d).uid = rising_from (e.uid + 1) es h.1 j d (omega (arith, k)) in
    omega arith

rising_pair : (low : ℕ) (es : List ListingEntry) → AreRising low es → (i j : ℕ) (d : ListingEntry) → i < j → j < length es → (get_or es i d).uid < (get_or es j d).uid
rising_pair low [] h i j d less k = absurd (omega (arith, k))
rising_pair low (e ∷ es) h zero zero d less k = absurd (omega (arith, less))
rising_pair low (e ∷ es) h zero (suc j) d less k =
    let rest : e.uid + 1 ≤ (get_or es j d).uid = rising_from (e.uid + 1) es h.1 j d (omega (arith, k)) in
    omega arith
rising_pair low (e ∷ es) h (suc i) zero d less k = absurd (omega (arith, less))
rising_pair low (e ∷ es) h (suc i) (suc j) d less k = rising_pair (e.uid + 1) es h.1 i j d (omega (arith, less)) (omega (arith, k))

ltb_true : (a b : ℕ) → ltb a b ≡ true → a < b
ltb_true a b h = grind (arith, nat_tests)

ltb_false : (a b : ℕ) → ltb a b ≡ false → b ≤ a
ltb_false a b h = grind (arith, nat_tests)

-- A search by UID ends at the entry with this UID, if there is one.
pub get_at_edge : (uid : ℕ) (es : List ListingEntry) (n : ℕ) → AreRising 1 es → n ≤ length es → ((d : ListingEntry) → IsEdge (λ i. ltb (get_or es i d).uid uid) (length es) n) → (k : ℕ) (d : ListingEntry) → k < length es → (get_or es k d).uid ≡ uid → k ≡ n
get_at_edge uid es n h within edge k d inside same =
    elim (cases_order k n) [
      | inl e ↦ e
      | inr (inl front) ↦
          let last : (get_or es (n - 1) d).uid < uid = ltb_true _ _ ((edge d).pass (omega (arith, front))) in
          elim (cases_order k (n - 1)) [
            | inl e ↦ absurd (let less : (get_or es k d).uid < uid = subst (λ j. (get_or es j d).uid < uid) (sym e) last in omega (arith, less, same))
            | inr (inl f) ↦ absurd (omega (arith, last, same, rising_pair 1 es h k (n - 1) d f (omega (arith, front, within))))
            | inr (inr b) ↦ absurd (omega (arith, b, front))
          ]
      | inr (inr tail) ↦
          let first : uid ≤ (get_or es n d).uid = ltb_false _ _ ((edge d).fail (omega (arith, tail, inside))) in
          absurd (omega (arith, first, same, rising_pair 1 es h n k d tail inside))
    ]

pub lacks_at : (uid : ℕ) (origin : OpId) (es : List ListingEntry) → ((k : ℕ) (d : ListingEntry) → k < length es → (get_or es k d).uid ≡ uid → is_id origin (get_or es k d).origin ≡ false) → LacksAt uid origin es
lacks_at uid origin [] h = tt
lacks_at uid origin (e ∷ es) h = (λ same. h 0 e (omega arith) same, lacks_at uid origin es (λ k d inside same. h (suc k) d (omega (arith, inside)) same))

-- ---- the index

-- No entry has an origin that the index lacks.
pub lacks_unindexed : (f : OpId → Option ℕ) (origin : OpId) (es : List ListingEntry) → AreIndexed f es → f origin ≡ None → Lacks origin es
lacks_unindexed f origin [] h n = tt
lacks_unindexed f origin (e ∷ es) h n = (
  elim (cases_Bool (is_id origin e.origin)) [
    | inl t ↦ (let k = ap f (is_id_true origin e.origin t) in absurd (cc (sym n ∙ k ∙ h.0)))
    | inr f ↦ f
  ],
  lacks_unindexed f origin es h.1 n,
)

-- An entry with an indexed origin has the UID that the index has for it.
pub lacks_indexed : (f : OpId → Option ℕ) (origin : OpId) (uid : ℕ) (es : List ListingEntry) → AreIndexed f es → f origin ≡ Some uid → LacksAt uid origin es → Lacks origin es
lacks_indexed f origin uid [] h n l = tt
lacks_indexed f origin uid (e ∷ es) h n l = (
  elim (cases_Bool (is_id origin e.origin)) [
    | inl t ↦ (let k : Some e.uid ≡ Some uid = sym h.0 ∙ sym (ap f (is_id_true origin e.origin t)) ∙ n in let same : e.uid ≡ uid = cc k in l.0 same)
    | inr f ↦ f
  ],
  lacks_indexed f origin uid es h.1 n l.1,
)

-- The index may change at other ids.
pub indexed_others : (f g : OpId → Option ℕ) (origin : OpId) (es : List ListingEntry) → Lacks origin es → ((i : OpId) → is_id origin i ≡ false → g i ≡ f i) → AreIndexed f es → AreIndexed g es
indexed_others f g origin [] l e h = tt
indexed_others f g origin (x ∷ es) l e h = (e x.origin l.0 ∙ h.0, indexed_others f g origin es l.1 e h.1)

pub indexed_put : (f : OpId → Option ℕ) (es : List ListingEntry) (x : ListingEntry) → AreIndexed f es → f x.origin ≡ Some x.uid → AreIndexed f (es ++ x ∷ [])
indexed_put f [] x h e = (e, tt)
indexed_put f (y ∷ es) x h e = (h.0, indexed_put f es x h.1 e)

pub indexed_without : (f : OpId → Option ℕ) (es : List ListingEntry) (k : ℕ) → AreIndexed f es → AreIndexed f (remove es k)
indexed_without f [] zero h = tt
indexed_without f [] (suc k) h = tt
indexed_without f (e ∷ es) zero h = h.1
indexed_without f (e ∷ es) (suc k) h = (h.0, indexed_without f es k h.1)

pub indexed_set : (f : OpId → Option ℕ) (es : List ListingEntry) (k : ℕ) (x : ListingEntry) → k < length es → AreIndexed f (remove es k) → f x.origin ≡ Some x.uid → AreIndexed f (set es k x)
indexed_set f [] k x inside h e = absurd (omega (arith, inside))
indexed_set f (y ∷ es) zero x inside h e = (e, h)
indexed_set f (y ∷ es) (suc k) x inside h e = (h.0, indexed_set f es k x (omega (arith, inside)) h.1 e)

-- No entry from `low` on has an origin whose UID is lower.
lacks_above : (f : OpId → Option ℕ) (origin : OpId) (uid low : ℕ) (es : List ListingEntry) → uid < low → AreRising low es → AreIndexed f es → f origin ≡ Some uid → Lacks origin es
lacks_above f origin uid low [] l r h e = tt
lacks_above f origin uid low (x ∷ es) l r h e =
    let first : low ≤ x.uid = r.0 in (
      elim (cases_Bool (is_id origin x.origin)) [
        | inl t ↦ (let k : Some uid ≡ Some x.uid = sym e ∙ ap f (is_id_true origin x.origin t) ∙ h.0 in let same : uid ≡ x.uid = cc k in absurd (omega (arith, same, l, first)))
        | inr f ↦ f
      ],
      lacks_above f origin uid (x.uid + 1) es (omega (arith, l, first)) r.1 h.1 e,
    )

pub indexed_at : (f : OpId → Option ℕ) (es : List ListingEntry) (k : ℕ) (d : ListingEntry) → k < length es → AreIndexed f es → f (get_or es k d).origin ≡ Some (get_or es k d).uid
indexed_at f [] k d inside h = absurd (omega (arith, inside))
indexed_at f (e ∷ es) zero d inside h = h.0
indexed_at f (e ∷ es) (suc k) d inside h = indexed_at f es k d (omega (arith, inside)) h.1

-- No other entry has an entry's origin.
pub others_lack : (f : OpId → Option ℕ) (low : ℕ) (es : List ListingEntry) (k : ℕ) (d : ListingEntry) → k < length es → AreRising low es → AreIndexed f es → Lacks (get_or es k d).origin (remove es k)
others_lack f low [] k d inside r h = absurd (omega (arith, inside))
others_lack f low (e ∷ es) zero d inside r h = lacks_above f e.origin e.uid (e.uid + 1) es (omega arith) r.1 h.1 h.0
others_lack f low (e ∷ es) (suc k) d inside r h =
    let within : k < length es = omega (arith, inside) in
    let x = get_or es k d in
    let far : e.uid + 1 ≤ x.uid = rising_from (e.uid + 1) es r.1 k d within in (
      elim (cases_Bool (is_id x.origin e.origin)) [
        | inl t ↦ (let q : Some x.uid ≡ Some e.uid = sym (indexed_at f es k d within h.1) ∙ ap f (is_id_true x.origin e.origin t) ∙ h.0 in let same : x.uid ≡ e.uid = cc q in absurd (omega (arith, same, far)))
        | inr f ↦ f
      ],
      others_lack f (e.uid + 1) es k d within r.1 h.1,
    )

-- ---- edits and the order

lower : (low high : ℕ) (es : List ListingEntry) → low ≤ high → AreRising high es → AreRising low es
lower low high [] l h = tt
lower low high (e ∷ es) l h = let first : high ≤ e.uid = h.0 in (omega (arith, l, first), h.1)

pub rising_without : (low : ℕ) (es : List ListingEntry) (k : ℕ) → AreRising low es → AreRising low (remove es k)
rising_without low [] zero h = tt
rising_without low [] (suc k) h = tt
rising_without low (e ∷ es) zero h = let first : low ≤ e.uid = h.0 in lower low (e.uid + 1) es (omega (arith, first)) h.1
rising_without low (e ∷ es) (suc k) h = (h.0, rising_without (e.uid + 1) es k h.1)

pub rising_put : (low : ℕ) (es : List ListingEntry) (x : ListingEntry) → low ≤ x.uid → AreBelow x.uid es → AreRising low es → AreRising low (es ++ x ∷ [])
rising_put low [] x l b h = (l, tt)
rising_put low (e ∷ es) x l b h = let less : e.uid < x.uid = b.0 in (h.0, rising_put (e.uid + 1) es x (omega (arith, less)) b.1 h.1)

pub rising_set : (low : ℕ) (es : List ListingEntry) (k : ℕ) (x d : ListingEntry) → k < length es → x.uid ≡ (get_or es k d).uid → AreRising low es → AreRising low (set es k x)
rising_set low [] k x d inside e h = tt
rising_set low (y ∷ es) zero x d inside e h = (subst (λ u. low ≤ u) (sym e) h.0, subst (λ u. AreRising (u + 1) es) (sym e) h.1)
rising_set low (y ∷ es) (suc k) x d inside e h = (h.0, rising_set (y.uid + 1) es k x d (omega (arith, inside)) e h.1)

-- ---- the results of calls

pub on_ok : {A B : Type 0} {P : Type 0} (r : Result A B) → is_err r ≡ false → OnOk r P → P
on_ok (Ok v) e h = h
on_ok (Err v) e h = absurd (cc e)

pub pick_else : {X : Type 0} (b : Bool) (x p q : X) → b ≡ false → x ≡ (if b then p else q) → x ≡ q
pick_else true x p q e h = absurd (cc e)
pick_else false x p q e h = h

pub pick_then : {X : Type 0} (b : Bool) (x p q : X) → b ≡ true → x ≡ (if b then p else q) → x ≡ p
pick_then true x p q e h = h
pick_then false x p q e h = absurd (cc e)

pub match_weaker : {X : Type 0} (P Q : Type 0) (R : X → Type 0) (r : Option X) → (P → Q) → MatchOption r P R → MatchOption r Q R
match_weaker P Q R None f h = f h
match_weaker P Q R (Some x) f h = h

pub none_within : {X : Type 0} (xs : List X) (k : ℕ) → k < length xs → slice_get xs k ≡ None → ⊥
none_within [] k h e = omega (arith, h)
none_within (x ∷ xs) zero h e = cc e
none_within (x ∷ xs) (suc k) h e = none_within xs k (omega (arith, h)) e

-- ---- an index without further origins

lacks_parts : (i : OpId) (es : List ListingEntry) (x : ListingEntry) → Lacks i (es ++ x ∷ []) → Lacks i es × (is_id i x.origin ≡ false)
lacks_parts i [] x l = (tt, l.0)
lacks_parts i (e ∷ es) x l = let rest = lacks_parts i es x l.1 in ((l.0, rest.0), rest.1)

lacks_back : (i : OpId) (es : List ListingEntry) (k : ℕ) (d : ListingEntry) → k < length es → is_id i (get_or es k d).origin ≡ false → Lacks i (remove es k) → Lacks i es
lacks_back i [] k d inside n l = absurd (omega (arith, inside))
lacks_back i (e ∷ es) zero d inside n l = (n, l)
lacks_back i (e ∷ es) (suc k) d inside n l = (l.0, lacks_back i es k d (omega (arith, inside)) n l.1)

lacks_set : (i : OpId) (es : List ListingEntry) (k : ℕ) (x d : ListingEntry) → k < length es → x.origin ≡ (get_or es k d).origin → Lacks i (set es k x) → Lacks i es
lacks_set i [] k x d inside same l = absurd (omega (arith, inside))
lacks_set i (e ∷ es) zero x d inside same l = (subst (λ o. is_id i o ≡ false) same l.0, l.1)
lacks_set i (e ∷ es) (suc k) x d inside same l = (l.0, lacks_set i es k x d (omega (arith, inside)) same l.1)

pub uid_index_put : (f h : OpId → Option ℕ) (es : List ListingEntry) (x : ListingEntry) → ((i : OpId) → h i ≡ (if is_id x.origin i then Some x.uid else f i)) → Lacks x.origin es → IsUidIndex f es → IsUidIndex h (es ++ x ∷ [])
uid_index_put f h es x at lacks was = record {
  indexed =
      let others = indexed_others f h x.origin es lacks (λ i apart. pick_else (is_id x.origin i) _ _ _ apart (at i)) was.indexed in
      indexed_put h es x others (pick_then (is_id x.origin x.origin) _ _ _ (is_id_same x.origin) (at x.origin));
  only = λ i l.
      let parts = lacks_parts i es x l in
      pick_else (is_id x.origin i) _ _ _ (is_id_sym i x.origin parts.1) (at i) ∙ was.only i parts.0;
}

pub uid_index_without : (f h : OpId → Option ℕ) (es : List ListingEntry) (k : ℕ) (d : ListingEntry) → k < length es → AreRising 1 es → ((i : OpId) → h i ≡ (if is_id (get_or es k d).origin i then None else f i)) → IsUidIndex f es → IsUidIndex h (remove es k)
uid_index_without f h es k d inside rising at was =
    let o = (get_or es k d).origin in
    record {
      indexed = indexed_others f h o (remove es k) (others_lack f 1 es k d inside rising was.indexed) (λ i apart. pick_else (is_id o i) _ _ _ apart (at i)) (indexed_without f es k was.indexed);
      only = λ i l.
          elim (cases_Bool (is_id o i)) [
            | inl t ↦ pick_then (is_id o i) _ _ _ t (at i)
            | inr n ↦ pick_else (is_id o i) _ _ _ n (at i) ∙ was.only i (lacks_back i es k d inside (is_id_sym o i n) l)
          ];
    }

pub uid_index_set : (f : OpId → Option ℕ) (es : List ListingEntry) (k : ℕ) (x d : ListingEntry) → k < length es → x.origin ≡ (get_or es k d).origin → x.uid ≡ (get_or es k d).uid → IsUidIndex f es → IsUidIndex f (set es k x)
uid_index_set f es k x d inside same uid was = record {
  indexed = indexed_set f es k x inside (indexed_without f es k was.indexed) (ap f same ∙ indexed_at f es k d inside was.indexed ∙ ap (λ u. Some u) (sym uid));
  only = λ i l. was.only i (lacks_set i es k x d inside same l);
}
