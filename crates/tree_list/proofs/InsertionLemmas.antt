-- Inserting an item to the left or the right of another.
use Rattle.std.proofs.Common.{◌≡◌, ℕ, suc, ◌-◌, ◌<◌, ◌≤◌, List, ◌∷◌, ◌++◌, length, insert, refl, ap, ◌∙◌, arith}
use Rattle.std.proofs.lemmas.List.Edits.{insert-append_left, insert-append_right}

-- Inserting an item to the left of another.
pub insert_left : {X : Type 0} → (left right : List X) (x y : X) (i : ℕ) → i ≤ length left → insert (left ++ x ∷ right) i y ≡ insert left i y ++ x ∷ right
insert_left left right x y i within = insert-append_left left (x ∷ right) i y within

-- Inserting an item to the right of another.
pub insert_right : {X : Type 0} → (left right : List X) (x y : X) (i : ℕ) → length left < i → insert (left ++ x ∷ right) i y ≡ left ++ x ∷ insert right (i - length left - 1) y
insert_right left right x y i past =
    let after : i - length left ≡ suc (i - length left - 1) = omega (arith, past) in
    insert-append_right left (x ∷ right) (length left) i y refl (omega (arith, past)) ∙ ap (λ k. left ++ insert (x ∷ right) k y) after
