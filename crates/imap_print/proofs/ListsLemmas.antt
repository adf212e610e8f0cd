use Rattle.std.proofs.Common.{◌≡◌, ℕ, ◌+◌, ◌<◌, Bool, true, false, ◌&&◌, cond, List, [], ◌∷◌, ◌++◌, length, map, take, get_or, refl, ap, sym, subst, ◌∙◌, append_assoc}
use Rattle.std.proofs.lemmas.List.{map-append, take_more}
use Rattle.std.proofs.lemmas.Grind.{flat_map-append}
use Rattle.imap_print.specs.Appending.{AppendsText, AppendsToList, has_none, spaced}

append_none : {X : Type 0} (xs : List X) → xs ++ [] ≡ xs
append_none [] = refl
append_none (x ∷ xs) = ap (λ ys. x ∷ ys) (append_none xs)

-- a list's texts follow those of its first part
pub spaced-append : (f : Bool) (xs ys : List (List ℕ)) → spaced f (xs ++ ys) ≡ spaced f xs ++ spaced (f && has_none xs) ys
spaced-append true [] ys = refl
spaced-append true (x ∷ xs) ys = ap (λ zs. x ++ zs) (flat_map-append (λ next. 32 ∷ next) xs ys) ∙ sym (append_assoc x _ _)
spaced-append false xs ys = flat_map-append (λ next. 32 ∷ next) xs ys

pub has_none-append : (f : Bool) (xs ys : List (List ℕ)) → (f && has_none (xs ++ ys)) ≡ ((f && has_none xs) && has_none ys)
has_none-append true [] ys = refl
has_none-append true (x ∷ xs) ys = refl
has_none-append false xs ys = refl

pub lists_append : (f g h : Bool) (xs ys : List (List ℕ)) (a b c : List ℕ) → AppendsToList f xs a b g → AppendsToList g ys b c h → AppendsToList f (xs ++ ys) a c h
lists_append f g h xs ys a b c p q = record {
  none_yet_is = q.none_yet_is ∙ ap (λ k. k && has_none ys) p.none_yet_is ∙ sym (has_none-append f xs ys);
  text =
      q.text ∙ ap (λ zs. zs ++ spaced g ys) p.text ∙ append_assoc a (spaced f xs) (spaced g ys)
      ∙ ap (λ zs. a ++ zs) (ap (λ k. spaced f xs ++ spaced k ys) p.none_yet_is ∙ sym (spaced-append f xs ys));
}

pub begins : (f : Bool) (a : List ℕ) → AppendsToList f [] a a f
begins true a = record { none_yet_is = refl; text = sym (append_none a) }
begins false a = record { none_yet_is = refl; text = sym (append_none a) }

-- one text after another
pub appends_append : (a b c x y : List ℕ) → AppendsText a b x → AppendsText b c y → AppendsText a c (x ++ y)
appends_append a b c x y p q = q ∙ ap (λ zs. zs ++ y) p ∙ append_assoc a x y

-- one text of a list, after its space
pub listed : (f : Bool) (a b c text : List ℕ) → AppendsText a b (cond f [] (32 ∷ [])) → AppendsText b c text → AppendsToList f (text ∷ []) a c false
listed true a b c text p q = record {
  none_yet_is = refl;
  text = q ∙ ap (λ zs. zs ++ text) (p ∙ append_none a) ∙ ap (λ zs. a ++ zs) (sym (append_none text));
}
listed false a b c text p q = record {
  none_yet_is = refl;
  text = q ∙ ap (λ zs. zs ++ text) p ∙ append_assoc a (32 ∷ []) text ∙ ap (λ zs. a ++ 32 ∷ zs) (sym (append_none text));
}

-- the step of a loop that appends the text of each element to a list
pub lists_more : {X : Type 0} (f : X → List ℕ) (xs : List X) (i : ℕ) (x : X) (first none_yet : Bool) (a b c : List ℕ) → i < length xs → x ≡ get_or xs i x → AppendsToList first (map f (take i xs)) a b none_yet → AppendsToList none_yet (f x ∷ []) b c false → AppendsToList first (map f (take (i + 1) xs)) a c false
lists_more {X} f xs i x first none_yet a b c l e p q =
    let whole : take (i + 1) xs ≡ take i xs ++ x ∷ [] = take_more xs i x l ∙ ap (λ z. take i xs ++ z ∷ []) (sym e) in
    let texts : map f (take i xs) ++ f x ∷ [] ≡ map f (take (i + 1) xs) = sym (map-append f (take i xs) (x ∷ [])) ∙ ap (map f) (sym whole) in
    subst (λ (zs : List (List ℕ)). AppendsToList first zs a c false) texts (lists_append first none_yet false _ _ a b c p q)
