use Rattle.std.proofs.Common.{◌≡◌, List, [], ◌∷◌, Result, Ok, Err, OnOk, refl}
use Rattle.merge_laws.specs.Orders.{fold_of}

-- The effects on a pair are those on each part.
pub fold_pair : {V W O : Type 0} (f : V → O → V) (g : W → O → W) (v : V) (w : W) (os : List O) → fold_of {V = V × W} (λ p o. (f p.0 o, g p.1 o)) (v, w) os ≡ (fold_of f v os, fold_of g w os)
fold_pair f g v w [] = refl
fold_pair f g v w (o ∷ os) = fold_pair f g (f v o) (g w o) os

-- What follows from a statement that is true at an `Ok` is true at it too.
pub on_ok : {T E : Type 0} (r : Result T E) {P Q : Type 0} → (P → Q) → OnOk r P → OnOk r Q
on_ok (Ok x) f h = f h
on_ok (Err e) f h = h
