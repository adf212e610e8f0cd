use Rattle.std.proofs.Common.{◌≡◌, ◌≢◌, inl, inr, ℕ, zero, suc, ◌-◌, ◌<◌, ◌≤◌, Bool, true, false, cond, leb, List, [], ◌∷◌, ◌++◌, Option, Some, None, Result, Ok, Err, length, length-drop, map, take, drop, get_or, slice_get, sym, refl, ap, ◌∙◌, arith}
use Rattle.std.proofs.lemmas.Bool.{cases_Bool, cases_lt, le-leb, leb-true}
use Rattle.std.proofs.lemmas.List.{take-append-drop}
use Rattle.std.proofs.Math.Seq.{drop-cons}
use Rattle.std.specs.List.{remove}
use Rattle.std.specs.Prelude.{IfOk, OnOk}
use Rattle.merge_laws.specs.Orders.{IsIn}
use Rattle.link_runtime.specs.declared.link_table.Admission.TheVariants.{Added}
use Rattle.link_runtime.specs.declared.link_table.LinkEntry.{LinkEntry}
use Rattle.link_runtime.specs.LinkTables.{IsAdmission}
use Rattle.link_runtime.specs.Slots.{IsAdmitted, IsTakenOut, SlotsState, without_oldest}

-- ---- an element taken out

pub parts_at : {X : Type 0} (xs : List X) (at : ℕ) (x : X) → slice_get xs at ≡ Some x → xs ≡ take at xs ++ x ∷ drop (suc at) xs
parts_at [] at x e = absurd cc
parts_at (a ∷ xs) zero x e = let first : a ≡ x = cc in ap (λ z. z ∷ xs) first
parts_at (a ∷ xs) (suc at) x e = ap (λ ys. a ∷ ys) (parts_at xs at x e)

pub taken_out : {X : Type 0} (number_of : X → ℕ) (number at : ℕ) (x : X) (old new : List X) → slice_get old at ≡ Some x → number_of x ≡ number → new ≡ remove old at → IsTakenOut number_of number old new
taken_out number_of number at x old new e n r = inr (x, take at old, drop (suc at) old, parts_at old at x e, n, r)

pub taken_at : {X : Type 0} (number_of : X → ℕ) (number at : ℕ) (x : X) (old new : List X) → at < length old → x ≡ get_or old at x → number_of x ≡ number → new ≡ remove old at → IsTakenOut number_of number old new
taken_at number_of number at x old new l e n r = inr (
  x,
  take at old,
  drop (suc at) old,
  sym (take-append-drop at old) ∙ ap (λ ys. take at old ++ ys) (drop-cons old at x l ∙ ap (λ y. y ∷ drop (suc at) old) (sym e)),
  n,
  r,
)

-- of the numbers of elements, as of the elements
pub numbers_taken_out : {X : Type 0} (number_of : X → ℕ) (number : ℕ) (old new : List X) → IsTakenOut number_of number old new → IsTakenOut (λ n. n) number (map number_of old) (map number_of new)
numbers_taken_out number_of number old new h = elim h [
  | inl k ↦ inl (ap (map number_of) k.0, λ n t. not_a_number old k.1 n t)
  | inr k ↦ inr (
    number_of k.0,
    map number_of k.1,
    map number_of k.2,
    ap (map number_of) k.3 ∙ map_parts k.1 (k.0 ∷ k.2),
    k.4,
    ap (map number_of) k.5 ∙ map_parts k.1 k.2,
  )
]
  where
    map_parts : (front back : List _) → map number_of (front ++ back) ≡ map number_of front ++ map number_of back
    map_parts [] back = refl
    map_parts (x ∷ front) back = ap (λ ns. number_of x ∷ ns) (map_parts front back)

    not_a_number : (xs : List _) → ((x : _) → IsIn x xs → number_of x ≢ number) → (n : ℕ) → IsIn n (map number_of xs) → n ≢ number
    not_a_number [] none n t = absurd t
    not_a_number (x ∷ xs) none n t = elim t [ inl e ↦ λ same. none x (inl refl) (e ∙ same) | inr u ↦ not_a_number xs (λ y v. none y (inr v)) n u ]

-- ---- the oldest makes place

chosen_true : {X : Type 0} (b : Bool) (x y : X) → b ≡ true → cond b x y ≡ x
chosen_true true x y e = refl
chosen_true false x y e = absurd cc

chosen_false : {X : Type 0} (b : Bool) (x y : X) → b ≡ false → cond b x y ≡ y
chosen_false true x y e = absurd cc
chosen_false false x y e = refl

length_numbers : {X : Type 0} (f : X → ℕ) (xs : List X) → length (map f xs) ≡ length xs
length_numbers f [] = refl
length_numbers f (x ∷ xs) = ap suc (length_numbers f xs)

numbers_past : {X : Type 0} (f : X → ℕ) (xs : List X) → map f (drop 1 xs) ≡ drop 1 (map f xs)
numbers_past f [] = refl
numbers_past f (x ∷ xs) = refl

pub numbers_without_oldest : {X : Type 0} (f : X → ℕ) (xs : List X) → map f (without_oldest xs) ≡ without_oldest (map f xs)
numbers_without_oldest f xs =
    let same : leb 16 (length (map f xs)) ≡ leb 16 (length xs) = ap (leb 16) (length_numbers f xs) in
    elim (cases_Bool (leb 16 (length xs))) [
      | inl t ↦ ap (map f) (chosen_true (leb 16 (length xs)) (drop 1 xs) xs t) ∙ numbers_past f xs ∙ sym (chosen_true (leb 16 (length (map f xs))) (drop 1 (map f xs)) (map f xs) (same ∙ t))
      | inr n ↦ ap (map f) (chosen_false (leb 16 (length xs)) (drop 1 xs) xs n) ∙ sym (chosen_false (leb 16 (length (map f xs))) (drop 1 (map f xs)) (map f xs) (same ∙ n))
    ]

pub few_left : {X : Type 0} (xs : List X) → length xs ≤ 16 → length (without_oldest xs) ≤ 15
few_left xs l =
    elim (cases_Bool (leb 16 (length xs))) [
      | inl t ↦
          let many = leb-true 16 (length xs) t in
          let few : length (drop 1 xs) ≡ length xs - 1 = length-drop 1 xs in
          let is : length (without_oldest xs) ≡ length (drop 1 xs) = ap length (chosen_true (leb 16 (length xs)) (drop 1 xs) xs t) in
          omega (arith, many, few, is, l)
      | inr n ↦
          let is : length (without_oldest xs) ≡ length xs = ap length (chosen_false (leb 16 (length xs)) (drop 1 xs) xs n) in
          elim (cases_lt (length xs) 16) [
            | inl k ↦ omega (arith, k, is)
            | inr k ↦ let t = le-leb 16 (length xs) k in absurd (cc (t, n))
          ]
    ]

-- ---- admission

pub added_if : {X E : Type 0} (r : Result X E) (old new : SlotsState) (entry : LinkEntry) → OnOk r (new ≡ record old { links = old.links ++ entry ∷ [] }) → IsAdmission old.links entry Added → IfOk r (λ x. IsAdmitted old.links entry new.links)
added_if (Ok x) old new entry h a = inl (a, ap (λ (s : SlotsState). s.links) h)
added_if (Err e) old new entry h a = tt

pub if_ok : {X E : Type 0} (r : Result X E) (P : Type 0) → P → IfOk r (λ x. P)
if_ok (Ok x) P p = p
if_ok (Err e) P p = tt

-- an element doesn't depend on the default
pub same_at : {X : Type 0} (xs : List X) (at : ℕ) (x y : X) → at < length xs → get_or xs at x ≡ get_or xs at y
same_at [] at x y l = absurd (omega (arith, l))
same_at (z ∷ xs) zero x y l = refl
same_at (z ∷ xs) (suc at) x y l = same_at xs at x y (omega (arith, l))
