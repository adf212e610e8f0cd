use Rattle.std.proofs.Common.{◌≡◌, ◌≢◌, ◌↔◌, ◌⊎◌, inl, inr, Bool, true, false, IsTrue, ◌||◌, ℕ, ◌+◌, ◌<◌, zero, suc, List, [], ◌∷◌, ◌++◌, Option, Some, None, MatchOption, get_or, is_some, length, map, position, sym, refl, ap, ◌∙◌, subst, arith, append_assoc, cond, eqb, ◌&&◌}
use Rattle.std.specs.List.{list_any}
use Rattle.std.proofs.lemmas.Bool.{cases_Bool}
use Rattle.tags_clocks.proofs.Decide.{pairs_decide}
use Rattle.std.proofs.lemmas.List.{length-map, map-append}
use Rattle.std.proofs.lemmas.List.Quantifiers.{position-Some}
use Rattle.tags_clocks.specs.declared.id.OpId.{OpId}
use Rattle.merge_laws.specs.Orders.{IsIn, HasId, IsCausal}
use Rattle.merge_laws.proofs.Lists.{in_parts, id_in_front, id_in_back}
use Rattle.causal_inbox.specs.InboxState.{id_numbers}

-- whether a key is in the list, by a test that decides equality with it
pub none_any : {K : Type 0} (test : K → Bool) (k : K) (ks : List K) → ((q : K) → test q ≡ true → k ≡ q) → (IsIn k ks → ⊥) → list_any test ks ≡ false
none_any test k [] decides never = refl
none_any test k (q ∷ ks) decides never =
    elim (cases_Bool (test q)) [
      | inl t ↦ absurd (never (inl (sym (decides q t))))
      | inr f ↦ rw f (none_any test k ks decides (λ h. never (inr h)))
    ]

pub any_in : {K : Type 0} (test : K → Bool) (k : K) (ks : List K) → test k ≡ true → IsIn k ks → list_any test ks ≡ true
any_in test k [] t h = absurd h
any_in test k (q ∷ ks) t h =
    elim (cases_Bool (test q)) [
      | inl y ↦ rw y refl
      | inr f ↦ elim h [
        | inl e ↦ let z : test q ≡ true = ap test e ∙ t in absurd (cc (z, f))
        | inr u ↦ rw f (any_in test k ks t u)
      ]
    ]

pub map_get : {X Y : Type 0} (f : X → Y) (xs : List X) (i : ℕ) (x : X) → i < length xs → x ≡ get_or xs i x → get_or (map f xs) i (f x) ≡ f x
map_get f [] i x l e = absurd (omega (arith, l))
map_get f (y ∷ ys) zero x l e = ap f (sym e)
map_get f (y ∷ ys) (suc i) x l e = map_get f ys i x (omega (arith, l)) e

module _ {O : Type 0} (id : O → OpId) where
  pub number_in : (os : List O) (i : OpId) → HasId id os i → IsIn (i.replica, i.number) (map (id_numbers id) os)
  number_in [] i h = h
  number_in (o ∷ os) i h = elim h [
    | inl e ↦ inl (ap (λ (x : OpId). (x.replica, x.number)) e)
    | inr t ↦ inr (number_in os i t)
  ]

  pub id_numbered : (os : List O) (i : OpId) → IsIn (i.replica, i.number) (map (id_numbers id) os) → HasId id os i
  id_numbered [] i h = h
  id_numbered (o ∷ os) i h = elim h [
    | inl e ↦ inl (λ t. record { replica = (e t).0; number = (e t).1 })
    | inr t ↦ inr (id_numbered os i t)
  ]

  -- numbers are distinct
  pub numbered_new : (clock : O → List (ℕ × ℕ)) (os ops : List O) (keys : List (ℕ × ℕ)) → keys ≡ map (id_numbers id) os → IsCausal id clock (os ++ ops) → (front : List O) (o : O) (back : List O) → ops ≡ front ++ o ∷ back → IsIn (id_numbers id o) (keys ++ map (id_numbers id) front) → ⊥
  numbered_new clock os ops keys is causal front o back e h =
      let cut : os ++ ops ≡ (os ++ front) ++ o ∷ back = ap (λ xs. os ++ xs) e ∙ sym (append_assoc os front (o ∷ back)) in
      (causal (os ++ front) o back cut).1 (elim (in_parts (id_numbers id o) keys (map (id_numbers id) front) h) [
        | inl a ↦ id_in_front id (id o) os front (id_numbered os (id o) (subst (IsIn (id_numbers id o)) is a))
        | inr b ↦ id_in_back id (id o) os front (id_numbered front (id o) b)
      ])

  pub numbered_all : (os ops all : List O) (keys new : List (ℕ × ℕ)) → keys ≡ map (id_numbers id) os → new ≡ keys ++ map (id_numbers id) ops → all ≡ os ++ ops → new ≡ map (id_numbers id) all
  numbered_all os ops all keys new is made more = made ∙ ap (λ ks. ks ++ map (id_numbers id) ops) is ∙ sym (map-append (id_numbers id) os ops) ∙ ap (map (id_numbers id)) (sym more)

  -- the result of a look-up
  pub not_numbered : (test : ℕ × ℕ → Bool) (keys : List (ℕ × ℕ)) (os : List O) (i : OpId) → test (i.replica, i.number) ≡ true → keys ≡ map (id_numbers id) os → list_any test keys ≡ false → HasId id os i → ⊥
  not_numbered test keys os i t is none h =
      let a = any_in test (i.replica, i.number) keys t (subst (IsIn (i.replica, i.number)) (sym is) (number_in os i h)) in
      absurd (cc (a, none))

  pub numbered_at : (test : ℕ × ℕ → Bool) (keys : List (ℕ × ℕ)) (os : List O) (i : OpId) (at : ℕ) (o : O) → ((q : ℕ × ℕ) → test q ≡ true → (i.replica, i.number) ≡ q) → keys ≡ map (id_numbers id) os → position test keys ≡ Some at → at < length os → o ≡ get_or os at o → id o ≡ i
  numbered_at test keys os i at o decides is member l e =
      let p = position-Some test keys at (id_numbers id o) member in
      let k : get_or keys at (id_numbers id o) ≡ id_numbers id o = ap (λ ks. get_or ks at (id_numbers id o)) is ∙ map_get (id_numbers id) os at o l e in
      let q : id_numbers id o ≡ (i.replica, i.number) = sym (decides (get_or keys at (id_numbers id o)) p.1 ∙ k) in
      λ t. record { replica = (q t).0; number = (q t).1 }

-- the test of a pair of numbers
abbrev pub is_pair : ℕ × ℕ → ℕ × ℕ → Bool
is_pair n q = eqb n.0 q.0 && eqb n.1 q.1

pub pairs_equal : (n q : ℕ × ℕ) → is_pair n q ≡ true → n ≡ q
pairs_equal n q t = (pairs_decide n q).0 t

pub pair_is : (n q : ℕ × ℕ) → n ≡ q → is_pair n q ≡ true
pair_is n q e = (pairs_decide n q).1 e

pub appended : {K : Type 0} (test : K → Bool) (ks new : List K) (n : K) → new ≡ cond (list_any test ks) ks (ks ++ n ∷ []) → list_any test ks ≡ false → new ≡ ks ++ n ∷ []
appended test ks new n e f = let k : cond (list_any test ks) ks (ks ++ n ∷ []) ≡ ks ++ n ∷ [] = rw f refl in e ∙ k

pub map_length : {X Y : Type 0} (f : X → Y) (xs : List X) (ys : List Y) → ys ≡ map f xs → length ys ≡ length xs
map_length f xs ys e = ap length e ∙ length-map xs f
