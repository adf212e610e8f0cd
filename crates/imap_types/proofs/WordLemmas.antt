use Rattle.std.proofs.Common.{◌≡◌, ◌⊎◌, inl, inr, ℕ, ◌+◌, add-one, ◌<◌, zero, suc, Bool, true, false, ◌||◌, List, [], ◌∷◌, length, take, get_or, refl, sym, ap, ◌∙◌, subst, arith}
use Rattle.std.proofs.Math.Seq.{take-suc}
use Rattle.std.proofs.lemmas.Bool.{and_parts, and_from, false≢true, or_cases, or_left, or_right}
use Rattle.std.proofs.lemmas.Cmp.{nat_list_cmp_total, tied_itself}
use Rattle.std.proofs.lemmas.List.Sums.{fold-append}
use Rattle.std.proofs.lemmas.Slice.Eq.{bytes_eq-Decides}
use Rattle.std.specs.FinMap.{nat_cmp-IsAntisymmetric, slice_cmp-IsAntisymmetric}
use Rattle.std.specs.List.{fold, list_all, list_any}
use Rattle.std.specs.Ordering.{match_ordering, ordering_reverse}
use Rattle.std.specs.Str.{bytes_eq}
use Rattle.std.specs.declared.cmp.Ordering.{Ordering}
use Rattle.std.specs.declared.cmp.Ordering.TheVariants.{Less, Equal, Greater}
use Rattle.imap_types.specs.Ascending.{AreAscending, IsBefore, octet_order}
use Rattle.imap_types.specs.Keywords.{AreKeywords, is_lower_case, to_lower_case, with_word}
use Rattle.imap_types.specs.Members.{has_word}

-- ---- what holds of a word when words are inserted

same_word : (w v : List ℕ) → octet_order w v ≡ Equal → w ≡ v
same_word w v e = slice_cmp-IsAntisymmetric nat_cmp-IsAntisymmetric w v e

or-none : (a : Bool) → (a || false) ≡ a
or-none true = refl
or-none false = refl

or-twice : (a b : Bool) → (a || (a || b)) ≡ (a || b)
or-twice true b = refl
or-twice false b = refl

or-turned : (a b c : Bool) → (b || (a || c)) ≡ (a || (b || c))
or-turned true true c = refl
or-turned true false c = refl
or-turned false b c = refl

or-moved : (a s r : Bool) → ((a || s) || r) ≡ (s || (a || r))
or-moved true true r = refl
or-moved true false r = refl
or-moved false s r = refl

any_step : (p : List ℕ → Bool) (w v : List ℕ) (vs rest : List (List ℕ)) (o : Ordering) → octet_order w v ≡ o → list_any p rest ≡ (p w || list_any p vs) → list_any p (match_ordering o (w ∷ v ∷ vs) (v ∷ vs) (v ∷ rest)) ≡ (p w || (p v || list_any p vs))
any_step p w v vs rest Less e h = refl
any_step p w v vs rest Equal e h = sym (ap (λ (u : List ℕ). p u || (p v || list_any p vs)) (same_word w v e) ∙ or-twice (p v) (list_any p vs))
any_step p w v vs rest Greater e h = ap (λ (b : Bool). p v || b) h ∙ or-turned (p w) (p v) (list_any p vs)

-- a test holds of some word of a list with one inserted exactly when it holds of that word or of
-- another
any_with : (p : List ℕ → Bool) (w : List ℕ) (vs : List (List ℕ)) → list_any p (with_word w vs) ≡ (p w || list_any p vs)
any_with p w [] = refl
any_with p w (v ∷ vs) = any_step p w v vs (with_word w vs) (octet_order w v) refl (any_with p w vs)

-- a test holds of some word of a list with many inserted exactly when it holds of an inserted word
-- or of another
pub any_folded : (p : List ℕ → Bool) (start words : List (List ℕ)) → list_any p (fold (λ done word. with_word word done) start words) ≡ (list_any p start || list_any p words)
any_folded p start [] = sym (or-none (list_any p start))
any_folded p start (w ∷ ws) = any_folded p (with_word w start) ws ∙ ap (λ (b : Bool). b || list_any p ws) (any_with p w start) ∙ or-moved (p w) (list_any p start) (list_any p ws)

-- ---- inserted words ascend

before_of_greater : (w v : List ℕ) → octet_order w v ≡ Greater → IsBefore v w
before_of_greater w v e = nat_list_cmp_total.antisymm v w ∙ ap ordering_reverse e

chain_step : (a w v : List ℕ) (vs rest : List (List ℕ)) (o : Ordering) → octet_order w v ≡ o → IsBefore a w → AreAscending (a ∷ v ∷ vs) → (IsBefore v w → AreAscending (v ∷ rest)) → AreAscending (a ∷ match_ordering o (w ∷ v ∷ vs) (v ∷ vs) (v ∷ rest))
chain_step a w v vs rest Less e b h t = (b, (e, h.1))
chain_step a w v vs rest Equal e b h t = h
chain_step a w v vs rest Greater e b h t = (h.0, t (before_of_greater w v e))

chained : (a w : List ℕ) (vs : List (List ℕ)) → IsBefore a w → AreAscending (a ∷ vs) → AreAscending (a ∷ with_word w vs)
chained a w [] b h = (b, tt)
chained a w (v ∷ vs) b h = chain_step a w v vs (with_word w vs) (octet_order w v) refl b h (λ k. chained v w vs k h.1)

first_step : (w v : List ℕ) (vs rest : List (List ℕ)) (o : Ordering) → octet_order w v ≡ o → AreAscending (v ∷ vs) → (IsBefore v w → AreAscending (v ∷ rest)) → AreAscending (match_ordering o (w ∷ v ∷ vs) (v ∷ vs) (v ∷ rest))
first_step w v vs rest Less e h t = (e, h)
first_step w v vs rest Equal e h t = h
first_step w v vs rest Greater e h t = t (before_of_greater w v e)

ascending_with : (w : List ℕ) (vs : List (List ℕ)) → AreAscending vs → AreAscending (with_word w vs)
ascending_with w [] h = tt
ascending_with w (v ∷ vs) h = first_step w v vs (with_word w vs) (octet_order w v) refl h (λ k. chained v w vs k h)

pub ascending_folded : (start words : List (List ℕ)) → AreAscending start → AreAscending (fold (λ done word. with_word word done) start words)
ascending_folded start [] h = h
ascending_folded start (w ∷ ws) h = ascending_folded (with_word w start) ws (ascending_with w start h)

-- ---- ascending words with the same members are the same

-- each of the words is one of the others
abbrev pub IsWithin : List (List ℕ) → List (List ℕ) → Type 0
IsWithin xs ys = (z : List ℕ) → has_word xs z ≡ true → has_word ys z ≡ true

pub has_word_cases : (z x : List ℕ) (xs : List (List ℕ)) → has_word (x ∷ xs) z ≡ true → (z ≡ x) ⊎ (has_word xs z ≡ true)
has_word_cases z x xs h = elim (or_cases (bytes_eq z x) (has_word xs z) h) [ inl e ↦ inl ((bytes_eq-Decides z x).0 e) | inr t ↦ inr t ]

pub has_word_first : (x : List ℕ) (xs : List (List ℕ)) → has_word (x ∷ xs) x ≡ true
has_word_first x xs = or_left (bytes_eq x x) (has_word xs x) ((bytes_eq-Decides x x).1 refl)

pub has_word_rest : (z x : List ℕ) (xs : List (List ℕ)) → has_word xs z ≡ true → has_word (x ∷ xs) z ≡ true
has_word_rest z x xs i = or_right (bytes_eq z x) (has_word xs z) i

first_before : (x z : List ℕ) (xs : List (List ℕ)) → AreAscending (x ∷ xs) → has_word xs z ≡ true → IsBefore x z
first_before x z [] h i = absurd (false≢true i)
first_before x z (y ∷ xs) h i =
    elim (has_word_cases z y xs i) [
      | inl e ↦ subst (IsBefore x) (sym e) h.0
      | inr t ↦ nat_list_cmp_total.trans x y z h.0 (first_before y z xs h.1 t)
    ]

not_itself : (x : List ℕ) → IsBefore x x → ⊥
not_itself x e = let k : Less ≡ Equal = sym e ∙ tied_itself nat_list_cmp_total x in cc

ascending_rest : (x : List ℕ) (xs : List (List ℕ)) → AreAscending (x ∷ xs) → AreAscending xs
ascending_rest x [] h = tt
ascending_rest x (y ∷ xs) h = h.1

tail_within : (x y : List ℕ) (xs ys : List (List ℕ)) → x ≡ y → AreAscending (x ∷ xs) → IsWithin (x ∷ xs) (y ∷ ys) → IsWithin xs ys
tail_within x y xs ys e h f z i =
    elim (has_word_cases z y ys (f z (has_word_rest z x xs i))) [
      | inl k ↦ absurd (not_itself x (subst (IsBefore x) (k ∙ sym e) (first_before x z xs h i)))
      | inr t ↦ t
    ]

heads_same : (x y : List ℕ) (xs ys : List (List ℕ)) → AreAscending (x ∷ xs) → AreAscending (y ∷ ys) → has_word (y ∷ ys) x ≡ true → has_word (x ∷ xs) y ≡ true → x ≡ y
heads_same x y xs ys h k i j =
    elim (has_word_cases x y ys i) [
      | inl e ↦ e
      | inr t ↦ elim (has_word_cases y x xs j) [
        | inl e ↦ sym e
        | inr u ↦ absurd (not_itself x (nat_list_cmp_total.trans x y x (first_before x y xs h u) (first_before y x ys k t)))
      ]
    ]

pub one_ascending : (xs ys : List (List ℕ)) → AreAscending xs → AreAscending ys → IsWithin xs ys → IsWithin ys xs → xs ≡ ys
one_ascending [] [] h k f g = refl
one_ascending [] (y ∷ ys) h k f g = absurd (false≢true (g y (has_word_first y ys)))
one_ascending (x ∷ xs) [] h k f g = absurd (false≢true (f x (has_word_first x xs)))
one_ascending (x ∷ xs) (y ∷ ys) h k f g =
    let head : x ≡ y = heads_same x y xs ys h k (f x (has_word_first x xs)) (g y (has_word_first y ys)) in
    let tail : xs ≡ ys = one_ascending xs ys (ascending_rest x xs h) (ascending_rest y ys k) (tail_within x y xs ys head h f) (tail_within y x ys xs (sym head) k g) in
    λ i. head i ∷ tail i

-- ---- tests of every word

-- what holds of all words holds of each
pub each_word_of_all : (p : List ℕ → Bool) (xs : List (List ℕ)) (z : List ℕ) → list_all p xs ≡ true → has_word xs z ≡ true → p z ≡ true
each_word_of_all p [] z h i = absurd (false≢true i)
each_word_of_all p (x ∷ xs) z h i =
    let both = and_parts (p x) (list_all p xs) h in
    elim (has_word_cases z x xs i) [
      | inl e ↦ ap p e ∙ both.0
      | inr t ↦ each_word_of_all p xs z both.1 t
    ]

-- what holds of each word holds of all
pub all_by : (p : List ℕ → Bool) (xs : List (List ℕ)) → ((z : List ℕ) → has_word xs z ≡ true → p z ≡ true) → list_all p xs ≡ true
all_by p [] f = refl
all_by p (x ∷ xs) f = and_from (p x) (list_all p xs) (f x (has_word_first x xs)) (all_by p xs (λ z i. f z (has_word_rest z x xs i)))

-- ---- keywords added to others, one after another

-- a keyword is in lower case
lowered_at : (words : List (List ℕ)) (i : ℕ) (d : List ℕ) → list_all is_lower_case words ≡ true → i < length words → to_lower_case (get_or words i d) ≡ get_or words i d
lowered_at [] i d h l = absurd (omega arith)
lowered_at (word ∷ words) zero d h l = (bytes_eq-Decides (to_lower_case word) word).0 (and_parts (is_lower_case word) (list_all is_lower_case words) h).0
lowered_at (word ∷ words) (suc i) d h l = lowered_at words i d (and_parts (is_lower_case word) (list_all is_lower_case words) h).1 (omega arith)

-- one further keyword
pub union_step : (more : List (List ℕ)) (start old new : List (List ℕ)) (i : ℕ) (word : List ℕ) → AreKeywords more → i < length more → word ≡ get_or more i word
    → old ≡ fold (λ done word. with_word word done) start (take i more) → new ≡ with_word (to_lower_case word) old → new ≡ fold (λ done word. with_word word done) start (take (i + 1) more)
union_step more start old new i word k l e o n =
    let low : to_lower_case word ≡ get_or more i word = ap to_lower_case e ∙ lowered_at more i word k.0 l in
    n ∙ (λ j. with_word (low j) (o j))
    ∙ sym (fold-append (λ done word. with_word word done) start (take i more) (get_or more i word ∷ []))
    ∙ ap (fold (λ done word. with_word word done) start) (sym (take-suc more i word l) ∙ ap (λ j. take j more) (sym (add-one i)))
