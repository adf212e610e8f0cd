use Rattle.std.proofs.Common.{◌≡◌, ◌∙◌, ap, sym, refl, arith, ℕ, suc, ◌-◌, ◌==◌, inl, inr, Bool, true, false, ◌&&◌, ◌||◌, List, [], ◌∷◌, ◌++◌, length, slice_set, append_assoc, cond, get_or, ◌<◌}
use Rattle.std.proofs.lemmas.Bool.{eqb-false}
use Rattle.imap_query.specs.PatternRows.{after_octet, after_wildcard, is_match, is_wildcard, may_hold}
use Rattle.imap_query.specs.PatternForms.{IsPatternAppended, ends_with_wildcard}
use Rattle.imap_query.proofs.RowLemmas.{chosen_true}
use Rattle.imap_query.proofs.MatchLemmas.{wildcard_cases}

-- laws of Booleans
absorbed : (a b m : Bool) → ((a || b) || (m && b)) ≡ (a || b)
absorbed true b m = refl
absorbed false true m = refl
absorbed false false true = refl
absorbed false false false = refl

or_or_same : (a b : Bool) → ((a || b) || b) ≡ (a || b)
or_or_same true b = refl
or_or_same false true = refl
or_or_same false false = refl

weaker_step : (f m a b : Bool) → (a || b) ≡ b → ((f || (m && a)) || (f || b)) ≡ (f || b)
weaker_step true m a b h = refl
weaker_step false true a b h = h
weaker_step false false a b h = refl

percent_step : (f m a b : Bool) → (a || b) ≡ b → ((f || (m && a)) || b) ≡ (f || b)
percent_step true m a b h = refl
percent_step false true a b h = h
percent_step false false a b h = refl

or_same : (a : Bool) → (a || a) ≡ a
or_same true = refl
or_same false = refl

-- a wildcard and then `*` are `*`
wildcard_after_star : (f : List ℕ → Bool) (wildcard : ℕ) (name : List ℕ) → after_wildcard (after_wildcard f 42) wildcard name ≡ after_wildcard f 42 name
wildcard_after_star f wildcard [] = refl
wildcard_after_star f wildcard (octet ∷ name) =
    ap (λ b. (f (octet ∷ name) || after_wildcard f 42 name) || (may_hold wildcard octet && b)) (wildcard_after_star f wildcard name)
    ∙ absorbed (f (octet ∷ name)) (after_wildcard f 42 name) (may_hold wildcard octet)

-- what `%` matches, `*` matches
weaker : (f : List ℕ → Bool) (name : List ℕ) → (after_wildcard f 37 name || after_wildcard f 42 name) ≡ after_wildcard f 42 name
weaker f [] = or_same (f [])
weaker f (octet ∷ name) = weaker_step (f (octet ∷ name)) (may_hold 37 octet) (after_wildcard f 37 name) (after_wildcard f 42 name) (weaker f name)

-- `*` and then `%` are `*`, `%` and then `%` are `%`
star_percent : (f : List ℕ → Bool) (name : List ℕ) → after_wildcard (after_wildcard f 37) 42 name ≡ after_wildcard f 42 name
star_percent f [] = refl
star_percent f (octet ∷ name) =
    ap (λ b. (f (octet ∷ name) || (may_hold 37 octet && after_wildcard f 37 name)) || b) (star_percent f name)
    ∙ percent_step (f (octet ∷ name)) (may_hold 37 octet) (after_wildcard f 37 name) (after_wildcard f 42 name) (weaker f name)

percent_percent : (f : List ℕ → Bool) (name : List ℕ) → after_wildcard (after_wildcard f 37) 37 name ≡ after_wildcard f 37 name
percent_percent f [] = refl
percent_percent f (octet ∷ name) =
    ap (λ b. (f (octet ∷ name) || (may_hold 37 octet && after_wildcard f 37 name)) || (may_hold 37 octet && b)) (percent_percent f name)
    ∙ or_or_same (f (octet ∷ name)) (may_hold 37 octet && after_wildcard f 37 name)

percent : (f : List ℕ → Bool) (wildcard : ℕ) (name : List ℕ) → is_wildcard wildcard ≡ true → after_wildcard (after_wildcard f 37) wildcard name ≡ after_wildcard f wildcard name
percent f wildcard name w =
    elim (wildcard_cases wildcard w) [
      | inl e ↦ rw e (star_percent f name)
      | inr e ↦ rw e (percent_percent f name)
    ]

star_in : (wildcard : ℕ) (rest : List ℕ) → is_wildcard wildcard ≡ true → is_match (42 ∷ rest) ≡ is_match (wildcard ∷ 42 ∷ rest)
star_in wildcard rest w = λ k name. (sym (wildcard_after_star (is_match rest) wildcard name) ∙ sym (chosen_true (is_wildcard wildcard) _ (after_octet (is_match (42 ∷ rest)) wildcard name) w)) k

percent_in : (wildcard : ℕ) (rest : List ℕ) → is_wildcard wildcard ≡ true → is_match (wildcard ∷ rest) ≡ is_match (wildcard ∷ 37 ∷ rest)
percent_in wildcard rest w = λ k name.
    (chosen_true (is_wildcard wildcard) _ (after_octet (is_match rest) wildcard name) w
    ∙ sym (percent (is_match rest) wildcard name w)
    ∙ sym (chosen_true (is_wildcard wildcard) _ (after_octet (is_match (37 ∷ rest)) wildcard name) w)) k

-- patterns that match the same names still do after the same prefix
in_front : (front a b : List ℕ) → is_match a ≡ is_match b → is_match (front ++ a) ≡ is_match (front ++ b)
in_front [] a b e = e
in_front (octet ∷ front) a b e = λ k name. cond (is_wildcard octet) (after_wildcard (in_front front a b e k) octet name) (after_octet (in_front front a b e k) octet name)

record EndsWild (made : List ℕ) : Type 0 where
  front : List ℕ
  last : ℕ
  wild : is_wildcard last ≡ true
  split : made ≡ front ++ last ∷ []
  set : (octet : ℕ) → slice_set made (length made - 1) octet ≡ front ++ octet ∷ []

ends : (made : List ℕ) → ends_with_wildcard made ≡ true → EndsWild made
ends [] h = absurd cc
ends (a ∷ []) h = record { front = []; last = a; wild = h; split = refl; set = λ octet. refl }
ends (a ∷ b ∷ made) h =
    let e = ends (b ∷ made) h in
    let n : suc (suc (length made)) - 1 ≡ suc (suc (length made) - 1) = omega arith in
    record {
      front = a ∷ e.front;
      last = e.last;
      wild = e.wild;
      split = ap (λ xs. a ∷ xs) e.split;
      set = λ octet. ap (λ k. slice_set (a ∷ b ∷ made) k octet) n ∙ ap (λ xs. a ∷ xs) (e.set octet);
    }

percent_if_not_star : (octet : ℕ) → is_wildcard octet ≡ true → (octet == 42) ≡ false → octet ≡ 37
percent_if_not_star octet w n = elim (wildcard_cases octet w) [ inl e ↦ absurd (eqb-false octet 42 n e) | inr e ↦ e ]

pub pushed_octet_appended : (octet : ℕ) (made new : List ℕ) → new ≡ made ++ octet ∷ [] → IsPatternAppended octet made new
pushed_octet_appended octet made new e rest name = ap (λ xs. is_match xs name) (ap (λ xs. xs ++ rest) e ∙ append_assoc made (octet ∷ []) rest)

pub star_appended : (made new : List ℕ) → ends_with_wildcard made ≡ true → new ≡ slice_set made (length made - 1) 42 → IsPatternAppended 42 made new
star_appended made new h e rest name =
    let w = ends made h in
    ap (λ xs. is_match xs name) (ap (λ xs. xs ++ rest) (e ∙ w.set 42) ∙ append_assoc w.front (42 ∷ []) rest)
    ∙ (λ k. in_front w.front (42 ∷ rest) (w.last ∷ 42 ∷ rest) (star_in w.last rest w.wild) k name)
    ∙ ap (λ xs. is_match xs name) (sym (ap (λ xs. xs ++ 42 ∷ rest) w.split ∙ append_assoc w.front (w.last ∷ []) (42 ∷ rest)))

pub percent_left_out : (octet : ℕ) (made : List ℕ) → ends_with_wildcard made ≡ true → is_wildcard octet ≡ true → (octet == 42) ≡ false → IsPatternAppended octet made made
percent_left_out octet made h v n rest name =
    let w = ends made h in
    let e : octet ≡ 37 = percent_if_not_star octet v n in
    ap (λ xs. is_match xs name) (ap (λ xs. xs ++ rest) w.split ∙ append_assoc w.front (w.last ∷ []) rest)
    ∙ (λ k. in_front w.front (w.last ∷ rest) (w.last ∷ 37 ∷ rest) (percent_in w.last rest w.wild) k name)
    ∙ ap (λ xs. is_match xs name) (sym (ap (λ xs. xs ++ 37 ∷ rest) w.split ∙ append_assoc w.front (w.last ∷ []) (37 ∷ rest)))
    ∙ ap (λ o. is_match (made ++ o ∷ rest) name) (sym e)

pub wild_at : (made : List ℕ) (d : ℕ) → 0 < length made → is_wildcard (get_or made (length made - 1) d) ≡ ends_with_wildcard made
wild_at [] d h = absurd (omega arith)
wild_at (a ∷ []) d h = refl
wild_at (a ∷ b ∷ made) d h =
    let n : suc (suc (length made)) - 1 ≡ suc (suc (length made) - 1) = omega arith in
    ap (λ k. is_wildcard (get_or (a ∷ b ∷ made) k d)) n ∙ wild_at (b ∷ made) d (omega arith)
