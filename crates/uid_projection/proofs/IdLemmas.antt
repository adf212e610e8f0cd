-- Ids, look-ups by them, and places in lists.
use Rattle.std.specs.Option.{is_some}
use Rattle.std.specs.Result.{is_err}
use Rattle.std.proofs.Common.{◌≡◌, ◌⊎◌, inl, inr, ℕ, zero, suc, ◌+◌, ◌<◌, ◌≤◌, arith, Bool, true, false, cond, ◌||◌, Option, None, Some, IsSome, List, [], ◌∷◌, get_or, length, map, take, Result, Ok, Err, OnOk, refl, sym, ap, ◌∙◌, subst}
use Rattle.std.specs.List.{list_any, slice_get}
use Rattle.std.specs.Map.{lookup}
use Rattle.std.proofs.lemmas.Bool.{cases_Bool, false≢true, false_from_ne_true}
use Rattle.std.proofs.lemmas.List.{take_more}
use Rattle.std.proofs.lemmas.List.Folds.{list_any-append}
use Rattle.tags_clocks.specs.declared.id.OpId.{OpId}
use Rattle.tags_clocks.proofs.Decide.{ids_decide}
use Rattle.merge_laws.specs.Orders.{IsIn}
use Rattle.merge_laws.proofs.Lists.{in_parts}
use Rattle.crdt_ops.specs.SortedSets.{same_id}
use Rattle.uid_projection.specs.TagChanges.{value_at_key}

pub same_is : (i j : OpId) → same_id i j ≡ true → i ≡ j
same_is i j h = (ids_decide i j).0 h

pub own_id : (i : OpId) → same_id i i ≡ true
own_id i = (ids_decide i i).1 refl

pub id_turned : (i j : OpId) → same_id i j ≡ true → same_id j i ≡ true
id_turned i j h = (ids_decide j i).1 (sym (same_is i j h))

pub on_ok : {A B : Type 0} {P : Type 0} (r : Result A B) → is_err r ≡ false → OnOk r P → P
on_ok (Ok v) e h = h
on_ok (Err v) e h = absurd (cc e)

-- a look-up's result has a key that is the id
pub key_of_lookup : {X : Type 0} (i : OpId) (es : List (OpId × X)) → IsSome (lookup (same_id i) es) → IsIn i (map (λ e. e.0) es)
key_of_lookup i [] h = absurd (cc h)
key_of_lookup {X} i (e ∷ es) h =
    elim (cases_Bool (same_id i e.0)) [
      | inl t ↦ inl (sym (same_is i e.0 t))
      | inr f ↦ inr (key_of_lookup i es (subst (λ b. IsSome (cond b (Some e.1) (lookup (same_id i) es))) f h))
    ]

-- an element up to and including a place is before the place, or is the element at it
pub in_take_next : {X : Type 0} (x : X) (xs : List X) (i : ℕ) (y : X) → i < length xs → y ≡ get_or xs i y → IsIn x (take (i + 1) xs) → IsIn x (take i xs) ⊎ (x ≡ y)
in_take_next x xs i y l e h =
    elim (in_parts x (take i xs) (get_or xs i y ∷ []) (subst (IsIn x) (take_more xs i y l) h)) [
      | inl t ↦ inl t
      | inr t ↦ elim t [ inl k ↦ inr (sym k ∙ sym e) | inr n ↦ absurd n ]
    ]

pub element : {X : Type 0} (xs : List X) (i : ℕ) (x : X) → i < length xs → x ≡ get_or xs i x → IsIn x xs
element [] i x l e = absurd (omega (arith, l))
element (y ∷ ys) zero x l e = inl (sym e)
element (y ∷ ys) (suc i) x l e = inr (element ys i x (omega (arith, l)) e)

pub on_ok_with : {A B : Type 0} {P Q : Type 0} (r : Result A B) → (P → Q) → OnOk r P → OnOk r Q
on_ok_with (Ok v) f h = f h
on_ok_with (Err v) f h = h

pub ok_always : {A B : Type 0} {P : Type 0} (r : Result A B) → P → OnOk r P
ok_always (Ok v) h = h
ok_always (Err v) h = cc

pub on_ok_both : {A B : Type 0} {P Q R : Type 0} (r : Result A B) → (P → Q → R) → OnOk r P → OnOk r Q → OnOk r R
on_ok_both (Ok v) f h k = f h k
on_ok_both (Err v) f h k = h

pub id_sym : (i j : OpId) → same_id i j ≡ same_id j i
id_sym i j =
    elim (cases_Bool (same_id i j)) [
      | inl t ↦ t ∙ sym (id_turned i j t)
      | inr f ↦ f ∙ sym (false_from_ne_true (same_id j i) (λ t. false≢true (sym f ∙ id_turned j i t)))
    ]

-- one further id is taken out
pub removed_take_next : {X : Type 0} (i : OpId) (ids : List OpId) (k : ℕ) (id : OpId) (new mid old removed : X) → k < length ids → id ≡ get_or ids k id → new ≡ cond (same_id id i) removed mid → mid ≡ cond (list_any (same_id i) (take k ids)) removed old → new ≡ cond (list_any (same_id i) (take (k + 1) ids)) removed old
removed_take_next i ids k id new mid old removed l e a b =
    a ∙ (λ j. cond (id_sym id i j) removed (b j)) ∙ both (list_any (same_id i) (take k ids)) (same_id i id)
    ∙ ap (λ c. cond c removed old)
    (sym (ap (list_any (same_id i)) (take_more ids k id l) ∙ list_any-append (same_id i) (take k ids) (get_or ids k id ∷ []) ∙ ap (λ z. list_any (same_id i) (take k ids) || (same_id i z || false)) (sym e) ∙ ap (λ c. list_any (same_id i) (take k ids) || c) (or_none (same_id i id))))
  where
    both : (a b : Bool) → cond b removed (cond a removed old) ≡ cond (a || b) removed old
    both true true = refl
    both true false = refl
    both false b = refl

    or_none : (b : Bool) → (b || false) ≡ b
    or_none true = refl
    or_none false = refl

pub none_of : {X : Type 0} (x : Option X) → is_some x ≡ false → x ≡ None
none_of None h = refl
none_of (Some v) h = absurd (false≢true (sym h))

-- ---- places of keys

pub place_of : {X : Type 0} (x : X) (xs : List X) → IsIn x xs → (place : ℕ) × (place < length xs) × (slice_get xs place ≡ Some x)
place_of x [] h = absurd h
place_of x (y ∷ ys) h =
    elim h [
      | inl e ↦ (0, omega arith, ap (λ z. Some z) e)
      | inr t ↦ let w = place_of x ys t in (suc w.0, (let l = w.1 in omega (arith, l)), w.2)
    ]

pub slice_get_past : {X : Type 0} (xs : List X) (place : ℕ) → length xs ≤ place → slice_get xs place ≡ None
slice_get_past [] zero l = refl
slice_get_past [] (suc place) l = refl
slice_get_past (x ∷ xs) zero l = absurd (omega (arith, l))
slice_get_past (x ∷ xs) (suc place) l = slice_get_past xs place (omega (arith, l))

pub key_place : {X : Type 0} (i : OpId) (es : List (OpId × X)) → IsSome (lookup (same_id i) es) → (place : ℕ) × (entry : OpId × X) × (slice_get es place ≡ Some entry) × (entry.0 ≡ i)
key_place i [] h = absurd (cc h)
key_place i (e ∷ es) h =
    elim (cases_Bool (same_id i e.0)) [
      | inl t ↦ (0, e, refl, sym (same_is i e.0 t))
      | inr f ↦ let w = key_place i es (subst (λ b. IsSome (cond b (Some e.1) (lookup (same_id i) es))) f h) in (suc w.0, w.1, w.2, w.3)
    ]

pub at_key_some : {X : Type 0} (test : Option X → Bool) (es : List (OpId × X)) (x : Option (OpId × X)) → value_at_key test es x ≡ true → (i : OpId) × (test (lookup (same_id i) es) ≡ true)
at_key_some test es None h = absurd (false≢true h)
at_key_some test es (Some e) h = (e.0, h)

-- if no place has the property, no key has it
pub at_no_key : {X : Type 0} (test : Option X → Bool) (es : List (OpId × X)) → (test None ≡ true → ⊥) → ((place : ℕ) → value_at_key test es (slice_get es place) ≡ false) → (i : OpId) → test (lookup (same_id i) es) ≡ true → ⊥
at_no_key {X} test es none h i t = at (lookup (same_id i) es) refl
  where
    at : (x : Option X) → lookup (same_id i) es ≡ x → ⊥
    at None e = none (ap test (sym e) ∙ t)
    at (Some v) e =
        let w = key_place i es (subst IsSome (sym e) cc) in
        false≢true (sym (h w.0) ∙ ap (value_at_key test es) w.2 ∙ ap (λ z. test (lookup (same_id z) es)) w.3 ∙ t)
