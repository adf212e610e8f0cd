-- A place of a list, between the items before and after it.
use Rattle.std.proofs.Common.{◌≡◌, ℕ, zero, suc, ◌+◌, ◌-◌, ◌<◌, ◌≤◌, List, [], ◌∷◌, ◌++◌, length, get_or, set, remove, Some, slice_get, refl, ap, ◌∙◌, arith}
use Rattle.std.proofs.lemmas.List.{get_or_append_left, get_or-append_right, set-append_left, set-append_right}
use Rattle.std.proofs.lemmas.List.Edits.{remove-append_left, remove-append_right}

-- An item of the middle part.
pub get_between : {X : Type 0} (front middle tail : List X) (i : ℕ) (d : X) → length front ≤ i → i < length front + length middle → get_or (front ++ (middle ++ tail)) i d ≡ get_or middle (i - length front) d
get_between front middle tail i d low high = get_or-append_right front (middle ++ tail) (length front) i d refl low ∙ get_or_append_left middle tail d (i - length front) (omega (arith, low, high))

pub set_between : {X : Type 0} (front middle tail : List X) (i : ℕ) (y : X) → length front ≤ i → i < length front + length middle → set (front ++ (middle ++ tail)) i y ≡ front ++ (set middle (i - length front) y ++ tail)
set_between front middle tail i y low high = set-append_right front (middle ++ tail) (length front) i y refl low ∙ ap (λ ys. front ++ ys) (set-append_left middle tail (i - length front) y (omega (arith, low, high)))

pub remove_between : {X : Type 0} (front middle tail : List X) (i : ℕ) → length front ≤ i → i < length front + length middle → remove (front ++ (middle ++ tail)) i ≡ front ++ (remove middle (i - length front) ++ tail)
remove_between front middle tail i low high = remove-append_right front (middle ++ tail) (length front) i refl low ∙ ap (λ ys. front ++ ys) (remove-append_left middle tail (i - length front) (omega (arith, low, high)))

pub slice_get_right : {X : Type 0} (xs ys : List X) (i : ℕ) → length xs ≤ i → slice_get (xs ++ ys) i ≡ slice_get ys (i - length xs)
slice_get_right [] ys i h = ap (slice_get ys) (omega arith)
slice_get_right (x ∷ xs) ys zero h = absurd (omega (arith, h))
slice_get_right (x ∷ xs) ys (suc i) h = slice_get_right xs ys i (omega (arith, h)) ∙ ap (slice_get ys) (omega arith)

pub slice_get_left : {X : Type 0} (xs ys : List X) (i : ℕ) → i < length xs → slice_get (xs ++ ys) i ≡ slice_get xs i
slice_get_left [] ys i h = absurd (omega (arith, h))
slice_get_left (x ∷ xs) ys zero h = refl
slice_get_left (x ∷ xs) ys (suc i) h = slice_get_left xs ys i (omega (arith, h))

pub slice_get_between : {X : Type 0} (front middle tail : List X) (i : ℕ) → length front ≤ i → i < length front + length middle → slice_get (front ++ (middle ++ tail)) i ≡ slice_get middle (i - length front)
slice_get_between front middle tail i low high = slice_get_right front (middle ++ tail) i low ∙ slice_get_left middle tail (i - length front) (omega (arith, low, high))

pub slice_get_some : {X : Type 0} (xs : List X) (i : ℕ) (x : X) → i < length xs → x ≡ get_or xs i x → Some x ≡ slice_get xs i
slice_get_some [] i x h e = absurd (omega (arith, h))
slice_get_some (y ∷ xs) zero x h e = ap (λ z. Some z) e
slice_get_some (y ∷ xs) (suc i) x h e = slice_get_some xs i x (omega (arith, h)) e
