use Rattle.std.proofs.Common.{◌≡◌, ℕ, ◌+◌, ◌<◌, Bool, true, List, [], ◌∷◌, IsTrue, false, ◌||◌, ◌&&◌, ◌↔◌, ap, sym, ◌∙◌, arith, refl, get_or, drop, length, suc, drop-cons, add-one}
use Rattle.std.proofs.lemmas.Bool.{and_parts, and_from}
use Rattle.std.proofs.lemmas.Bool.Decides.{nat_tests, same_from_decides}
use Rattle.std.proofs.lemmas.Cmp.{nat_list_cmp_total}
use Rattle.std.proofs.lemmas.Slice.Eq.{bytes_eq-Decides}
use Rattle.std.specs.Char.{to_ascii_lowercase}
use Rattle.std.specs.List.{list_all}
use Rattle.std.specs.Str.{bytes_eq}
use Rattle.std.specs.Ordering.{is_lt, match_ordering, ordering_reverse}
use Rattle.std.specs.declared.cmp.Ordering.{Ordering}
use Rattle.std.specs.declared.cmp.Ordering.TheVariants.{Less, Equal, Greater}
use Rattle.imap_types.specs.Ascending.{octet_order, IsBefore, AreAscending}
use Rattle.imap_types.specs.Keywords.{to_lower_case, is_lower_case, has_keyword, with_word, are_ascending, are_keywords, AreKeywords}

lower_again : (c : ℕ) → to_ascii_lowercase (to_ascii_lowercase c) ≡ to_ascii_lowercase c
lower_again c = grind (arith, nat_tests)

lowered_again : (cs : List ℕ) → to_lower_case (to_lower_case cs) ≡ to_lower_case cs
lowered_again [] = refl
lowered_again (c ∷ cs) = λ k. lower_again c k ∷ lowered_again cs k

is_lowered-lowered : (cs : List ℕ) → is_lower_case (to_lower_case cs) ≡ true
is_lowered-lowered cs = (bytes_eq-Decides _ _).1 (lowered_again cs)

all_step : (p : List ℕ → Bool) (w v : List ℕ) (vs rest : List (List ℕ)) (o : Ordering) → p w ≡ true → list_all p (v ∷ vs) ≡ true → list_all p rest ≡ true → list_all p (match_ordering o (w ∷ v ∷ vs) (v ∷ vs) (v ∷ rest)) ≡ true
all_step p w v vs rest Less h i j = and_from _ _ h i
all_step p w v vs rest Equal h i j = i
all_step p w v vs rest Greater h i j = and_from _ _ (and_parts _ _ i).0 j

all_with : (p : List ℕ → Bool) (w : List ℕ) (vs : List (List ℕ)) → p w ≡ true → list_all p vs ≡ true → list_all p (with_word w vs) ≡ true
all_with p w [] h i = and_from _ _ h refl
all_with p w (v ∷ vs) h i = all_step p w v vs (with_word w vs) (octet_order w v) h i (all_with p w vs h (and_parts _ _ i).1)

before_of_greater : (w v : List ℕ) → octet_order w v ≡ Greater → IsBefore v w
before_of_greater w v e = nat_list_cmp_total.antisymm v w ∙ ap ordering_reverse e

chain_step : (a w v : List ℕ) (vs rest : List (List ℕ)) (o : Ordering) → octet_order w v ≡ o → IsBefore a w → AreAscending (a ∷ v ∷ vs) → (IsBefore v w → AreAscending (v ∷ rest)) → AreAscending (a ∷ match_ordering o (w ∷ v ∷ vs) (v ∷ vs) (v ∷ rest))
chain_step a w v vs rest Less e b h t = (b, (e, h.1))
chain_step a w v vs rest Equal e b h t = h
chain_step a w v vs rest Greater e b h t = (h.0, t (before_of_greater w v e))

chained : (a w : List ℕ) (vs : List (List ℕ)) → IsBefore a w → AreAscending (a ∷ vs) → AreAscending (a ∷ with_word w vs)
chained a w [] b h = (b, tt)
chained a w (v ∷ vs) b h = chain_step a w v vs (with_word w vs) (octet_order w v) refl b h (λ k. chained v w vs k h.1)

first_step : (w v : List ℕ) (vs rest : List (List ℕ)) (o : Ordering) → octet_order w v ≡ o → AreAscending (v ∷ vs) → (IsBefore v w → AreAscending (v ∷ rest)) → AreAscending (match_ordering o (w ∷ v ∷ vs) (v ∷ vs) (v ∷ rest))
first_step w v vs rest Less e h t = (e, h)
first_step w v vs rest Equal e h t = h
first_step w v vs rest Greater e h t = t (before_of_greater w v e)

ascending_with : (w : List ℕ) (vs : List (List ℕ)) → AreAscending vs → AreAscending (with_word w vs)
ascending_with w [] h = tt
ascending_with w (v ∷ vs) h = first_step w v vs (with_word w vs) (octet_order w v) refl h (λ k. chained v w vs k h)

-- keywords with one inserted are keywords
pub keywords_with : (w : List ℕ) (vs : List (List ℕ)) → AreKeywords vs → AreKeywords (with_word (to_lower_case w) vs)
keywords_with w vs h = (all_with is_lower_case (to_lower_case w) vs (is_lowered-lowered w) h.0, ascending_with (to_lower_case w) vs h.1)

-- the first of the words that are left
pub drop_head : (ws : List (List ℕ)) (i : ℕ) (w : List ℕ) → i < length ws → w ≡ get_or ws i w → drop i ws ≡ w ∷ drop (i + 1) ws
drop_head ws i w l e = drop-cons ws i w l ∙ ap (λ v. v ∷ drop (suc i) ws) (sym e) ∙ ap (λ j. w ∷ drop j ws) (sym (add-one i))

-- a word that is the keyword
pub has_keyword_drop_same : (k w : List ℕ) (ws : List (List ℕ)) (i : ℕ) (b : Bool) → i < length ws → w ≡ get_or ws i w → IsTrue b ↔ (to_lower_case w ≡ to_lower_case k) → b ≡ true → has_keyword k (drop i ws) ≡ has_keyword k ws → true ≡ has_keyword k ws
has_keyword_drop_same k w ws i b l e t h inv =
    let f : bytes_eq (to_lower_case w) (to_lower_case k) ≡ true = (bytes_eq-Decides _ _).1 (t.0 h) in
    let g : has_keyword k (w ∷ drop (i + 1) ws) ≡ true = ap (λ c. c || has_keyword k (drop (i + 1) ws)) f in
    sym (sym inv ∙ ap (has_keyword k) (drop_head ws i w l e) ∙ g)

-- a word that isn't the keyword
pub has_keyword_drop_other : (k w : List ℕ) (ws : List (List ℕ)) (i : ℕ) (b : Bool) → i < length ws → w ≡ get_or ws i w → IsTrue b ↔ (to_lower_case w ≡ to_lower_case k) → b ≡ false → has_keyword k (drop i ws) ≡ has_keyword k ws → has_keyword k (drop (i + 1) ws) ≡ has_keyword k ws
has_keyword_drop_other k w ws i b l e t h inv =
    let f : bytes_eq (to_lower_case w) (to_lower_case k) ≡ false = same_from_decides _ _ (bytes_eq-Decides (to_lower_case w) (to_lower_case k)) t ∙ h in
    let g : has_keyword k (w ∷ drop (i + 1) ws) ≡ has_keyword k (drop (i + 1) ws) = ap (λ c. c || has_keyword k (drop (i + 1) ws)) f in
    sym (sym inv ∙ ap (has_keyword k) (drop_head ws i w l e) ∙ g)

ascending_step : (o : Ordering) (x : Bool) → (is_lt o && x) ≡ true → (o ≡ Less) × (x ≡ true)
ascending_step Less x h = (refl, h)
ascending_step Equal x h = cc
ascending_step Greater x h = cc

ascending_from_test : (ws : List (List ℕ)) → are_ascending ws ≡ true → AreAscending ws
ascending_from_test [] h = tt
ascending_from_test (a ∷ []) h = tt
ascending_from_test (a ∷ b ∷ rest) h = let p = ascending_step (octet_order a b) _ h in (p.0, ascending_from_test (b ∷ rest) p.1)

pub keywords_from_test : (ws : List (List ℕ)) → are_keywords ws ≡ true → AreKeywords ws
keywords_from_test ws h = let p = and_parts _ _ h in (p.0, ascending_from_test ws p.1)

test_from_ascending : (ws : List (List ℕ)) → AreAscending ws → are_ascending ws ≡ true
test_from_ascending [] h = refl
test_from_ascending (a ∷ []) h = refl
test_from_ascending (a ∷ b ∷ rest) h = ap (λ o. is_lt o && are_ascending (b ∷ rest)) h.0 ∙ test_from_ascending (b ∷ rest) h.1

pub test_from_keywords : (ws : List (List ℕ)) → AreKeywords ws → are_keywords ws ≡ true
test_from_keywords ws h = and_from _ _ h.0 (test_from_ascending ws h.1)
