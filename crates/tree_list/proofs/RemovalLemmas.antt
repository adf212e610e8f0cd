-- Removing an item to the left or the right of another, or that item.
use Rattle.std.proofs.Common.{◌≡◌, ℕ, zero, suc, ◌-◌, ◌<◌, List, [], ◌∷◌, ◌++◌, Some, length, remove, slice_get, refl, ap, ◌∙◌, arith}
use Rattle.std.proofs.lemmas.List.Edits.{remove-append_left, remove-append_right}

-- Removing an item to the left of another.
pub remove_left : {X : Type 0} → (left right : List X) (x : X) (i : ℕ) → i < length left → remove (left ++ x ∷ right) i ≡ remove left i ++ x ∷ right
remove_left left right x i within = remove-append_left left (x ∷ right) i within

-- Removing the item itself.
pub remove_middle : {X : Type 0} → (left right : List X) (x : X) (i : ℕ) → i ≡ length left → remove (left ++ x ∷ right) i ≡ left ++ right
remove_middle left right x i is =
    let none : i - length left ≡ 0 = omega (arith, is) in
    remove-append_right left (x ∷ right) (length left) i refl (omega (arith, is)) ∙ ap (λ k. left ++ remove (x ∷ right) k) none

-- Removing an item to the right of another.
pub remove_right : {X : Type 0} → (left right : List X) (x : X) (i : ℕ) → length left < i → remove (left ++ x ∷ right) i ≡ left ++ x ∷ remove right (i - length left - 1)
remove_right left right x i past =
    let after : i - length left ≡ suc (i - length left - 1) = omega (arith, past) in
    remove-append_right left (x ∷ right) (length left) i refl (omega (arith, past)) ∙ ap (λ k. left ++ remove (x ∷ right) k) after

-- The item at a place to the left of another item.
pub get_left : {X : Type 0} → (left right : List X) (x : X) (i : ℕ) → i < length left → slice_get (left ++ x ∷ right) i ≡ slice_get left i
get_left [] right x i within = absurd (omega (arith, within))
get_left (y ∷ left) right x zero within = refl
get_left (y ∷ left) right x (suc i) within = get_left left right x i (omega (arith, within))

pub get_middle : {X : Type 0} → (left right : List X) (x : X) (i : ℕ) → i ≡ length left → slice_get (left ++ x ∷ right) i ≡ Some x
get_middle [] right x i is = ap (slice_get (x ∷ right)) is
get_middle (y ∷ left) right x zero is = absurd (omega (arith, is))
get_middle (y ∷ left) right x (suc i) is = get_middle left right x i (omega (arith, is))

pub get_right : {X : Type 0} → (left right : List X) (x : X) (i : ℕ) → length left < i → slice_get (left ++ x ∷ right) i ≡ slice_get right (i - length left - 1)
get_right [] right x zero past = absurd (omega (arith, past))
get_right [] right x (suc i) past = ap (slice_get right) (omega arith)
get_right (y ∷ left) right x zero past = absurd (omega (arith, past))
get_right (y ∷ left) right x (suc i) past = get_right left right x i (omega (arith, past)) ∙ ap (slice_get right) (omega (arith, past))
