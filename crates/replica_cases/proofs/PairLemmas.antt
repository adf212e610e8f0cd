use Rattle.std.proofs.Common.{◌≡◌, List, [], ◌∷◌, refl}
use Rattle.merge_laws.specs.Orders.{fold_of}

-- the first component of a pair after operations is what they make of the first component
pub first_folded : {A B O : Type 0} (f : A → O → A) (g : B → O → B) (v : A × B) (os : List O) → (fold_of (λ (w : A × B) (o : O). (f w.0 o, g w.1 o)) v os).0 ≡ fold_of f v.0 os
first_folded f g v [] = refl
first_folded f g v (o ∷ os) = first_folded f g (f v.0 o, g v.1 o) os
