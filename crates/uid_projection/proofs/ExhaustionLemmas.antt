use Rattle.std.specs.Option.{option_map}
use Rattle.std.specs.Str.{bytes_eq}
use Rattle.tags_clocks.specs.declared.id.OpId.{OpId}
use Rattle.tags_clocks.proofs.Decide.{ids_decide}
use Rattle.std.proofs.Common.{◌≡◌, ◌↔◌, ◌⊎◌, inl, inr, ℕ, ◌+◌, ◌<◌, ◌≤◌, Bool, true, false, cond, not, ◌&&◌, Option, Some, None, List, [], ◌∷◌, ◌++◌, length, refl, sym, ap, ◌∙◌, subst, append_assoc, append-nil, arith, nat_eq, nat_le, nat_lt, get_or, take, drop, ◌-◌}
use Rattle.std.proofs.lemmas.Bool.{cases_Bool, eq-eqb, eqb-true, false≢true, false_from_ne_true, leb-false, lt-ltb, ltb-true}
use Rattle.std.proofs.lemmas.List.{take_all, take_more, take-append-drop}
use Rattle.merge_laws.proofs.Lists.{in_parts}
use Rattle.merge_laws.specs.Orders.{IsIn}
use Rattle.imap_types.specs.declared.flags.Flags.{Flags}
use Rattle.crdt_ops.specs.declared.kind.Kind.{Kind}
use Rattle.crdt_ops.specs.declared.kind.Kind.TheVariants.{Append, Store}
use Rattle.crdt_ops.specs.declared.op.Op.{Op}
use Rattle.crdt_ops.specs.SortedSets.{same_id}
use Rattle.crdt_ops.specs.Sets.{MessageTagData, tag_data_by, folders_of, origins_of}
use Rattle.crdt_ops.specs.Tags.{MessageTag, tag_added_by, is_some_tag, name_of}
use Rattle.crdt_ops.proofs.VersionLemmas.{origins_listed}
use Rattle.uid_projection.specs.declared.first_numbers.Counters.{Counters}
use Rattle.uid_projection.specs.Applied.{IsApplied}
use Rattle.uid_projection.specs.Exhaustion.{Exhausts, IsExhausted, LacksK, LacksUid}
use Rattle.uid_projection.specs.Counting.{count_all}
use Rattle.uid_projection.specs.Incarnations.{begins_incarnation, folder_exists}
use Rattle.uid_projection.specs.UidsAndModSeqs.{begins_line, begins_line_of_origin, first_uid, has_version, holds_of_some, origin_added, uidnext_of}
use Rattle.uid_projection.proofs.HistoryLemmas.{once, all-append}
use Rattle.uid_projection.proofs.Presence.{applied_front, same_bool, exists_in}
use Rattle.uid_projection.proofs.Steps.{uidnext_absent, uidnext_here}
use Rattle.uid_projection.proofs.TouchedLineLemmas.{version_added}
use Rattle.uid_projection.proofs.Versions.{origin_applied, version_in}

-- the list, the operations before the next one, and the next one
pub append_next : (list front through : List Op) (o : Op) → through ≡ front ++ o ∷ [] → list ++ through ≡ (list ++ front) ++ o ∷ []
append_next list front through o e = ap (λ xs. list ++ xs) e ∙ sym (append_assoc list front (o ∷ []))

pub applied_before : (list front through : List Op) (o : Op) → through ≡ front ++ o ∷ [] → IsApplied (list ++ through) → IsApplied (list ++ front)
applied_before list front through o e a = applied_front (list ++ front) (o ∷ []) (subst IsApplied (append_next list front through o e) a)

pub exists_of_test : (n : List ℕ) (ops : List Op) (r : Bool) → (r ≡ true) ↔ IsIn n (folders_of ops) → r ≡ folder_exists n ops
exists_of_test n ops r h = let l = exists_in n ops in same_bool r (folder_exists n ops) (λ t. l.1 (h.0 t)) (λ t. h.1 (l.0 t))

pub begins_is : (list front through : List Op) (o : Op) (n : List ℕ) (a b : Bool) → through ≡ front ++ o ∷ [] → n ≡ name_of o.kind → a ≡ folder_exists n (list ++ through) → b ≡ folder_exists n (list ++ front) → (a && not b) ≡ begins_incarnation (list ++ front) o
begins_is list front through o n a b e own x y =
    (λ i. (x ∙ (λ k. folder_exists (own k) (append_next list front through o e k))) i && not ((y ∙ ap (λ m. folder_exists m (list ++ front)) own) i))

pub uid_is : (start : Counters) (folder : List ℕ) (list front through : List Op) (o : Op) (present starts : Bool) (first uid r : ℕ) → through ≡ front ++ o ∷ [] → first ≡ first_uid start folder → present ≡ folder_exists folder (list ++ through) → starts ≡ begins_line folder (list ++ front) o → uid ≡ uidnext_of start folder (list ++ front) → r ≡ cond present (cond starts (uid + 1) uid) first → r ≡ uidnext_of start folder (list ++ through)
uid_is start folder list front through o present starts first uid r e f x y u k =
    let w = append_next list front through o e in
    let is = x ∙ ap (folder_exists folder) w in
    k ∙ elim (cases_Bool present) [
      | inl t ↦
          let h = uidnext_here start folder (list ++ front) o (sym is ∙ t) in
          let b : once starts ≡ once (begins_line folder (list ++ front) o) = ap once y in
          let p = plus starts uid in
          let q : cond present (cond starts (uid + 1) uid) first ≡ cond starts (uid + 1) uid = ap (λ z. cond z (cond starts (uid + 1) uid) first) t in
          q ∙ p ∙ (λ i. u i + b i) ∙ sym h ∙ sym (ap (uidnext_of start folder) w)
      | inr g ↦
          ap (λ z. cond z (cond starts (uid + 1) uid) first) g ∙ f ∙ sym (uidnext_absent start folder (list ++ front) o (sym is ∙ g)) ∙ sym (ap (uidnext_of start folder) w)
    ]
  where
    plus : (b : Bool) (n : ℕ) → cond b (n + 1) n ≡ n + once b
    plus true n = refl
    plus false n = omega arith

pub k_is : (start : Counters) (list front through : List Op) (o : Op) (b : Bool) (k r : ℕ) → through ≡ front ++ o ∷ [] → b ≡ begins_incarnation (list ++ front) o → k ≡ start.k + count_all begins_incarnation (list ++ front) → r ≡ k + once b → r ≡ start.k + count_all begins_incarnation (list ++ through)
k_is start list front through o b k r e x y z =
    let m = all-append begins_incarnation (list ++ front) o in
    let w : count_all begins_incarnation (list ++ through) ≡ count_all begins_incarnation ((list ++ front) ++ o ∷ []) = ap (count_all begins_incarnation) (append_next list front through o e) in
    let v : once b ≡ once (begins_incarnation (list ++ front) o) = ap once x in
    omega (arith, m, w, v, y, z)

once_bound : (b : Bool) → once b ≤ 1
once_bound true = omega arith
once_bound false = omega arith

-- n operations take at most n UIDs, and begin at most n incarnations
pub uid_bound : (start : Counters) (folder : List ℕ) (front list : List Op) (n : ℕ) → uidnext_of start folder list ≤ n → first_uid start folder ≤ n → uidnext_of start folder (list ++ front) ≤ n + length front
uid_bound start folder [] list n u f = let e = ap (uidnext_of start folder) (append-nil list) in omega (arith, u, e)
uid_bound start folder (o ∷ front) list n u f =
    let e = ap (uidnext_of start folder) (append_assoc list (o ∷ []) front) in
    let step : uidnext_of start folder (list ++ o ∷ []) ≤ n + 1 = elim (cases_Bool (folder_exists folder (list ++ o ∷ []))) [
      | inl t ↦ let h = uidnext_here start folder list o t in let b = once_bound (begins_line folder list o) in omega (arith, h, b, u)
      | inr g ↦ let h = uidnext_absent start folder list o g in omega (arith, h, f)
    ] in
    let r = uid_bound start folder front (list ++ o ∷ []) (n + 1) step (omega (arith, f)) in
    omega (arith, r, e)

pub k_bound : (front list : List Op) → count_all begins_incarnation (list ++ front) ≤ count_all begins_incarnation list + length front
k_bound [] list = let e = ap (count_all begins_incarnation) (append-nil list) in omega (arith, e)
k_bound (o ∷ front) list =
    let e = ap (count_all begins_incarnation) (append_assoc list (o ∷ []) front) in
    let m = all-append begins_incarnation list o in
    let b = once_bound (begins_incarnation list o) in
    let r = k_bound front (list ++ o ∷ []) in
    omega (arith, r, e, m, b)

-- ---- lines that begin

pub has_version_of_test : (folder : List ℕ) (ops : List Op) (g : OpId) (r : Bool) → (r ≡ true) ↔ IsIn g (origins_of ops folder) → r ≡ has_version folder g ops
has_version_of_test folder ops g r h =
    let n = (origins_listed ops folder).1 g in
    let v = version_in folder ops g in
    same_bool r (has_version folder g ops) (λ t. v.1 (n.0 (h.0 t))) (λ t. h.1 (n.1 (v.0 t)))

origin_put : (b c : Bool) (x : MessageTagData) → c ≡ true → option_map (λ (y : MessageTagData). y.origin) (cond (b && c) (Some x) None) ≡ cond b (Some x.origin) None
origin_put true c x h = λ j. option_map (λ (y : MessageTagData). y.origin) (cond (h j) (Some x) None)
origin_put false c x h = refl

-- a line begins if the added origin had no version before
begins_chosen : (folder : List ℕ) (ops : List Op) (o : Op) → IsApplied (ops ++ o ∷ []) → (b : Bool) (g : OpId) → origin_added folder o ≡ cond b (Some g) None → (b && not (has_version folder g ops)) ≡ begins_line folder ops o
begins_chosen folder ops o a true g e =
    let later : has_version folder g (ops ++ o ∷ []) ≡ true = (version_in folder (ops ++ o ∷ []) g).1 (o.id, version_added folder ops o a g e) in
    sym (ap (holds_of_some (λ x. begins_line_of_origin folder x ops o)) e ∙ (λ j. later j && not (has_version folder g ops)))
begins_chosen folder ops o a false g e = sym (ap (holds_of_some (λ x. begins_line_of_origin folder x ops o)) e)

abbrev origin_by : List ℕ → OpId → Kind → Option OpId
origin_by folder id kind = option_map (λ (y : MessageTagData). y.origin) (cond (is_some_tag (MessageTag folder id) (tag_added_by id kind)) (tag_data_by id kind) None)

pub begins_append : (folder : List ℕ) (ops : List Op) (o : Op) → IsApplied (ops ++ o ∷ []) → (name : List ℕ) (flags : Flags) (date text : List ℕ) → o.kind ≡ Append name flags date text → bytes_eq folder name ≡ begins_line folder ops o
begins_append folder ops o a name flags date text is =
    let own : origin_added folder o ≡ cond (bytes_eq folder name) (Some o.id) None = ap (origin_by folder o.id) is ∙ origin_put (bytes_eq folder name) (same_id o.id o.id) (record { flags = flags; origin = o.id }) ((ids_decide o.id o.id).1 refl) in
    let fresh : has_version folder o.id ops ≡ false = false_from_ne_true (has_version folder o.id ops) (λ h. (a.causal ops o [] refl).1 (origin_applied folder ops o.id (applied_front ops (o ∷ []) a) h)) in
    plain (bytes_eq folder name) ∙ (λ j. bytes_eq folder name && not (sym fresh j)) ∙ begins_chosen folder ops o a (bytes_eq folder name) o.id own
  where
    plain : (b : Bool) → b ≡ (b && true)
    plain true = refl
    plain false = refl

pub begins_store : (folder : List ℕ) (ops : List Op) (o : Op) → IsApplied (ops ++ o ∷ []) → (name : List ℕ) (flags : Flags) (old_ids : List OpId) (origin : OpId) → o.kind ≡ Store name flags old_ids origin → (bytes_eq folder name && not (has_version folder origin ops)) ≡ begins_line folder ops o
begins_store folder ops o a name flags old_ids origin is =
    begins_chosen folder ops o a (bytes_eq folder name) origin
    (ap (origin_by folder o.id) is ∙ origin_put (bytes_eq folder name) (same_id o.id o.id) (record { flags = flags; origin = origin }) ((ids_decide o.id o.id).1 refl))

-- the operations up to and including a place
pub take_op : (ops : List Op) (at : ℕ) (x o : Op) → at < length ops → x ≡ get_or ops at x → o ≡ x → take (at + 1) ops ≡ take at ops ++ o ∷ []
take_op ops at x o l is e = take_more ops at x l ∙ (λ i. take at ops ++ (sym is ∙ sym e) i ∷ [])

pub applied_take : (list ops : List Op) (n : ℕ) → IsApplied (list ++ ops) → IsApplied (list ++ take n ops)
applied_take list ops n a = applied_front (list ++ take n ops) (drop n ops) (subst IsApplied (ap (λ xs. list ++ xs) (sym (take-append-drop n ops)) ∙ sym (append_assoc list (take n ops) (drop n ops))) a)

-- no number is lacking far from the end of a counter
pub k_far : (start : Counters) (list front : List Op) (o : Op) (next_k : ℕ) → next_k ≤ 65535 → length front ≤ 65535 - next_k → next_k ≡ start.k + count_all begins_incarnation list → (false ≡ true) ↔ LacksK start (list ++ front) o
k_far start list front o next_k l m is =
    let b = k_bound front list in
    (λ h. absurd (false≢true h), λ w. let v = w.1 in absurd (impossible (start.k + count_all begins_incarnation (list ++ front)) v (omega (arith, b, is, l, m))))
  where
    impossible : (n : ℕ) → 65535 < n → n ≤ 65535 → ⊥
    impossible n a b = omega (arith, a, b)

pub k_near : (start : Counters) (list front : List Op) (o : Op) (k : ℕ) (b : Bool) → b ≡ true → b ≡ begins_incarnation (list ++ front) o → k ≡ start.k + count_all begins_incarnation (list ++ front) → (nat_lt 65535 k ≡ true) ↔ LacksK start (list ++ front) o
k_near start list front o k b t e is = (
  λ h. (sym e ∙ t, subst (λ n. 65535 < n) is (ltb-true 65535 k h)),
  λ w. lt-ltb 65535 k (subst (λ n. 65535 < n) (sym is) w.1),
)

pub uid_far : (start : Counters) (list front : List Op) (o : Op) (folder : List ℕ) (first now : ℕ) → folder ≡ name_of o.kind → nat_le (4294967295 - first) (length front) ≡ false → nat_le (4294967295 - now) (length front) ≡ false → first ≡ first_uid start folder → now ≡ uidnext_of start folder list → (false ≡ true) ↔ LacksUid start (list ++ front) o
uid_far start list front o folder first now own f n is next =
    let x = leb-false (4294967295 - first) (length front) f in
    let y = leb-false (4294967295 - now) (length front) n in
    let b = uid_bound start folder front list (4294967294 - length front) (omega (arith, y, next)) (omega (arith, x, is)) in
    let e : uidnext_of start (name_of o.kind) (list ++ front) ≡ uidnext_of start folder (list ++ front) = ap (λ m. uidnext_of start m (list ++ front)) (sym own) in
    (λ h. absurd (false≢true h), λ w. let v = w.1 in absurd (impossible (uidnext_of start (name_of o.kind) (list ++ front)) v (omega (arith, b, e, x))))
  where
    impossible : (n : ℕ) → n ≡ 4294967295 → n < 4294967295 → ⊥
    impossible n a b = omega (arith, a, b)

pub uid_near : (start : Counters) (list front : List Op) (o : Op) (folder : List ℕ) (b : Bool) (r : ℕ) → folder ≡ name_of o.kind → b ≡ true → b ≡ begins_line folder (list ++ front) o → r ≡ uidnext_of start folder (list ++ front) → (nat_eq r 4294967295 ≡ true) ↔ LacksUid start (list ++ front) o
uid_near start list front o folder b r own t e is = (
  λ h. (ap (λ n. begins_line n (list ++ front) o) (sym own) ∙ sym e ∙ t, ap (λ n. uidnext_of start n (list ++ front)) (sym own) ∙ sym is ∙ eqb-true r 4294967295 h),
  λ w. eq-eqb r 4294967295 (is ∙ ap (λ n. uidnext_of start n (list ++ front)) own ∙ w.1),
)

-- ---- the first operation for which a counter lacks a number

pub none_exhausted : (start : Counters) (list : List Op) → Exhausts start list [] → ⊥
none_exhausted start list ([], o, back, e, x) = absurd cc
none_exhausted start list (y ∷ front, o, back, e, x) = absurd cc

-- a counter lacks a number for an operation after those before it
pub exhausted_at : (start : Counters) (list ops : List Op) (at : ℕ) (o : Op) → take (at + 1) ops ≡ take at ops ++ o ∷ [] → IsExhausted start (list ++ take at ops) o → Exhausts start list ops
exhausted_at start list ops at o next h =
    (take at ops, o, drop (at + 1) ops, sym (take-append-drop (at + 1) ops) ∙ ap (λ xs. xs ++ drop (at + 1) ops) next ∙ append_assoc (take at ops) (o ∷ []) (drop (at + 1) ops), h)

last_cut : (xs front back : List Op) (x o : Op) → xs ++ x ∷ [] ≡ front ++ o ∷ back → ((xs ≡ front) × (x ≡ o)) ⊎ ((rest : List Op) × (xs ≡ front ++ o ∷ rest))
last_cut [] [] back x o e = inl (refl, cc)
last_cut [] (y ∷ []) back x o e = absurd cc
last_cut [] (y ∷ z ∷ front) back x o e = absurd cc
last_cut (y ∷ xs) [] back x o e = let k : y ≡ o = cc in inr (xs, (λ i. k i ∷ xs))
last_cut (y ∷ xs) (z ∷ front) back x o e =
    let k : y ≡ z = cc in
    let r : xs ++ x ∷ [] ≡ front ++ o ∷ back = cc in
    elim (last_cut xs front back x o r) [
      | inl w ↦ inl ((λ i. k i ∷ w.0 i), w.1)
      | inr w ↦ inr (w.0, (λ i. k i ∷ w.1 i))
    ]

pub more_exhausted : (start : Counters) (list xs : List Op) (x : Op) → Exhausts start list (xs ++ x ∷ []) → Exhausts start list xs ⊎ IsExhausted start (list ++ xs) x
more_exhausted start list xs x (front, o, back, e, h) =
    elim (last_cut xs front back x o e) [
      | inl w ↦ inr (subst (λ (p : Op). IsExhausted start (list ++ xs) p) (sym w.1) (subst (λ (ys : List Op). IsExhausted start (list ++ ys) o) (sym w.0) h))
      | inr w ↦ inl (front, o, w.0, w.1, h)
    ]

-- what holds of the first elements and of the next one holds of all of these
pub all_take_next : (P : Op → Type 0) (ops : List Op) (at : ℕ) (x : Op) → at < length ops → x ≡ get_or ops at x → ((o : Op) → IsIn o (take at ops) → P o) → P x → (o : Op) → IsIn o (take (at + 1) ops) → P o
all_take_next P ops at x l is before here o h =
    elim (in_parts o (take at ops) (x ∷ []) (subst (IsIn o) (take_op ops at x x l is refl) h)) [
      | inl t ↦ before o t
      | inr t ↦ elim t [ inl k ↦ subst P k here | inr n ↦ absurd n ]
    ]

pub all_of : (P : Op → Type 0) (ops : List Op) (n : ℕ) → length ops ≤ n → ((o : Op) → IsIn o (take n ops) → P o) → (o : Op) → IsIn o ops → P o
all_of P ops n l h o i = h o (subst (IsIn o) (sym (take_all n ops l)) i)
