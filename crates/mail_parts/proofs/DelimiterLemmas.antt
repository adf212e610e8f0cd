use Rattle.std.proofs.Common.{◌≡◌, ℕ, Bool, true, false, ◌&&◌, ◌==◌, List, [], ◌∷◌, ◌++◌, length, drop, get_or, set, ap, sym, ◌∙◌, refl, inl, inr}
use Rattle.std.proofs.lemmas.Bool.{cases_Bool}
use Rattle.mail_parts.specs.Delimiters.{begins_with}

-- a text begins with one part and then with another
pub begins_with-append : (one other octets : List ℕ) → begins_with (one ++ other) octets ≡ (begins_with one octets && begins_with other (drop (length one) octets))
begins_with-append [] other octets = refl
begins_with-append (x ∷ one) other [] = refl
begins_with-append (x ∷ one) other (o ∷ octets) =
    elim (cases_Bool (x == o)) [
      | inl t ↦ rw t (begins_with-append one other octets)
      | inr f ↦ rw f refl
    ]

pub begins_both : (one other octets back : List ℕ) (first second : Bool) → first ≡ begins_with one octets → first ≡ true → second ≡ begins_with other back → back ≡ drop (length one) octets → second ≡ begins_with (one ++ other) octets
begins_both one other octets back first second f t s b =
    s ∙ ap (begins_with other) b
    ∙ ap (λ x. x && begins_with other (drop (length one) octets)) (sym t ∙ f)
    ∙ sym (begins_with-append one other octets)

pub begins_neither : (one other octets : List ℕ) (first : Bool) → first ≡ begins_with one octets → first ≡ false → first ≡ begins_with (one ++ other) octets
begins_neither one other octets first f n =
    n ∙ ap (λ x. x && begins_with other (drop (length one) octets)) (sym n ∙ f) ∙ sym (begins_with-append one other octets)

-- one element of a list is changed
set_seam : {A : Type 0} (front back : List A) (x d : A) (f : A → A) → set (front ++ x ∷ back) (length front) (f (get_or (front ++ x ∷ back) (length front) d)) ≡ front ++ f x ∷ back
set_seam [] back x d f = refl
set_seam (y ∷ front) back x d f = ap (λ zs. y ∷ zs) (set_seam front back x d f)

pub set_at : {A : Type 0} (xs front back : List A) (x d : A) (k : ℕ) (f : A → A) → length front ≡ k → xs ≡ front ++ x ∷ back → set xs k (f (get_or xs k d)) ≡ front ++ f x ∷ back
set_at xs front back x d k f l e = (λ i. set (e i) (sym l i) (f (get_or (e i) (sym l i) d))) ∙ set_seam front back x d f
