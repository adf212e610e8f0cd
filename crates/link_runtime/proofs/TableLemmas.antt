use Rattle.std.proofs.Common.{◌≡◌, ◌≢◌, ◌⊎◌, ◌↔◌, IsTrue, MatchOption, inl, inr, ℕ, zero, suc, ◌+◌, ◌<◌, ◌≤◌, List, [], ◌∷◌, ◌++◌, Option, Some, None, length, map, set, take, drop, get_or, slice_get, sym, refl, ap, ◌∙◌, subst, arith, add-one}
use Rattle.std.proofs.Math.Seq.{take-suc}
use Rattle.merge_laws.specs.Orders.{IsIn}
use Rattle.link_runtime.specs.declared.link_table.LinkEntry.{LinkEntry}
use Rattle.std.specs.Prelude.{is_some}
use Rattle.link_runtime.specs.LinkTables.{AreNamesApart, IsLinkedAt, IsUnlinked}

in_more : {X : Type 0} (x o : X) (front back : List X) → IsIn o (front ++ back) → IsIn o (front ++ x ∷ back)
in_more x o [] back h = inr h
in_more x o (a ∷ front) back h = elim h [ inl e ↦ inl e | inr t ↦ inr (in_more x o front back t) ]

pub in_last : {X : Type 0} (x o : X) (xs : List X) → IsIn o (xs ++ x ∷ []) → (x ≡ o) ⊎ IsIn o xs
in_last x o [] h = h
in_last x o (a ∷ xs) h = elim h [ inl e ↦ inr (inl e) | inr t ↦ elim (in_last x o xs t) [ inl e ↦ inl e | inr u ↦ inr (inr u) ] ]

in_set : {X : Type 0} (x o : X) (xs : List X) (at : ℕ) → IsIn o (set xs at x) → (x ≡ o) ⊎ IsIn o xs
in_set x o [] at h = absurd h
in_set x o (a ∷ xs) zero h = elim h [ inl e ↦ inl e | inr t ↦ inr (inr t) ]
in_set x o (a ∷ xs) (suc at) h = elim h [ inl e ↦ inr (inl e) | inr t ↦ elim (in_set x o xs at t) [ inl e ↦ inl e | inr u ↦ inr (inr u) ] ]

in_at : {X : Type 0} (x : X) (xs : List X) (at : ℕ) → slice_get xs at ≡ Some x → IsIn x xs
in_at x [] at e = absurd cc
in_at x (a ∷ xs) zero e = inl cc
in_at x (a ∷ xs) (suc at) e = inr (in_at x xs at e)

pub take_next : {X : Type 0} (xs : List X) (at : ℕ) (x : X) → at < length xs → x ≡ get_or xs at x → take (at + 1) xs ≡ take at xs ++ x ∷ []
take_next xs at x l e = ap (λ (n : ℕ). take n xs) (add-one at) ∙ take-suc xs at x l ∙ ap (λ y. take at xs ++ y ∷ []) (sym e)

-- one less
pub apart_without : (entry : LinkEntry) (front back : List LinkEntry) → AreNamesApart (front ++ entry ∷ back) → AreNamesApart (front ++ back)
apart_without entry [] back h = h.1
apart_without entry (e ∷ front) back h = (λ o t. h.0 o (in_more entry o front back t), apart_without entry front back h.1)

-- one more, with a name of its own
pub apart_with : (entry : LinkEntry) (entries : List LinkEntry) → AreNamesApart entries → IsUnlinked entry.peer entries → AreNamesApart (entries ++ entry ∷ [])
apart_with entry [] h new = (λ o t. absurd t, tt)
apart_with entry (e ∷ entries) h new = (
  λ o t. elim (in_last entry o entries t) [
    | inl k ↦ λ same. new e (inl refl) (sym same ∙ ap (λ (it : LinkEntry). it.peer) (sym k))
    | inr u ↦ h.0 o u
  ],
  apart_with entry entries h.1 (λ o t. new o (inr t)),
)

-- one in place of another with its name
pub apart_in_place : (entry old : LinkEntry) (entries : List LinkEntry) (at : ℕ) → AreNamesApart entries → slice_get entries at ≡ Some old → old.peer ≡ entry.peer → AreNamesApart (set entries at entry)
apart_in_place entry old [] at h e same = absurd cc
apart_in_place entry old (x ∷ entries) zero h e same =
    let first : x ≡ old = cc in
    (λ o t k. h.0 o t (k ∙ sym same ∙ ap (λ (it : LinkEntry). it.peer) (sym first)), h.1)
apart_in_place entry old (x ∷ entries) (suc at) h e same = (
  λ o t. elim (in_set entry o entries at t) [
    | inl k ↦ λ equal. h.0 old (in_at old entries at e) (same ∙ ap (λ (it : LinkEntry). it.peer) k ∙ equal)
    | inr u ↦ h.0 o u
  ],
  apart_in_place entry old entries at h.1 e same,
)

-- ---- a search for a name

pub unlinked_more : (peer : ℕ) (entries : List LinkEntry) (at : ℕ) (entry : LinkEntry) → at < length entries → entry ≡ get_or entries at entry → IsUnlinked peer (take at entries) → entry.peer ≢ peer → IsUnlinked peer (take (at + 1) entries)
unlinked_more peer entries at entry l e h differs o t =
    elim (in_last entry o (take at entries) (subst (λ (es : List LinkEntry). IsIn o es) (take_next entries at entry l e) t)) [
      | inl k ↦ λ same. differs (ap (λ (it : LinkEntry). it.peer) k ∙ same)
      | inr u ↦ h o u
    ]

-- nor for a number
pub none_more : {X : Type 0} (f : X → ℕ) (n : ℕ) (xs : List X) (at : ℕ) (x : X) → at < length xs → x ≡ get_or xs at x → ((y : X) → IsIn y (take at xs) → f y ≢ n) → f x ≢ n → (y : X) → IsIn y (take (at + 1) xs) → f y ≢ n
none_more {X} f n xs at x l e h differs y t =
    elim (in_last x y (take at xs) (subst (λ (ys : List X). IsIn y ys) (take_next xs at x l e) t)) [
      | inl k ↦ λ same. differs (ap f k ∙ same)
      | inr u ↦ h y u
    ]

pub place_in : {X : Type 0} (x : X) (xs : List X) (at : ℕ) → at < length xs → x ≡ get_or xs at x → IsIn x xs
place_in x [] at l e = absurd (omega (arith, l))
place_in x (y ∷ xs) zero l e = inl (sym e)
place_in x (y ∷ xs) (suc at) l e = inr (place_in x xs at (omega (arith, l)) e)

-- a place was found, or no link has the name
pub linked_iff : (r : Option ℕ) (peer : ℕ) (entries : List LinkEntry) → MatchOption r (IsUnlinked peer entries) (λ at. (entry : LinkEntry) × IsLinkedAt peer entries at entry) → IsTrue (is_some r) ↔ (IsUnlinked peer entries → ⊥)
linked_iff None peer entries h = (λ t. absurd cc, λ n. absurd (n h))
linked_iff (Some at) peer entries h = (λ t un. un h.0 (in_at h.0 entries at h.1.found) h.1.named, λ n. refl)

pub within : {X : Type 0} (xs : List X) (at : ℕ) (x : X) → slice_get xs at ≡ Some x → at < length xs
within [] at x e = absurd cc
within (y ∷ xs) zero x e = omega arith
within (y ∷ xs) (suc at) x e = let l = within xs at x e in omega (arith, l)
