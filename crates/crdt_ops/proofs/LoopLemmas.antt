use Rattle.std.proofs.Common.{◌≡◌, ◌↔◌, ℕ, zero, suc, ◌+◌, ◌-◌, ◌<◌, ◌≤◌, Bool, true, false, ◌&&◌, List, [], ◌∷◌, ◌++◌, map, Option, Some, None, length, take, drop, get_or, refl, sym, ap, ◌∙◌, subst, append_assoc, arith, add-one}
use Rattle.std.specs.List.{flat_map}
use Rattle.std.proofs.lemmas.Bool.{false≢true}
use Rattle.std.proofs.lemmas.List.{append-nil, map-append}
use Rattle.std.proofs.lemmas.List.Concat.{flat_map-append}
use Rattle.tags_clocks.specs.declared.id.OpId.{OpId}
use Rattle.crdt_ops.specs.SortedSets.{IsAscending, IsBelowFirst, id_order}
use Rattle.crdt_ops.specs.Reading.{◌>>=◌, all_read, are_ascending, prepend_all, is_word_below}
use Rattle.crdt_ops.specs.Text.{join_by_commas}
use Rattle.crdt_ops.proofs.PartLemmas.{all_taken}

-- The state of a loop after some elements of a list.

-- a further element
pub take_append_next : {X : Type 0} (xs : List X) (i : ℕ) (x : X) → i < length xs → x ≡ get_or xs i x → take i xs ++ x ∷ [] ≡ take (i + 1) xs
take_append_next xs i x l e =
    ap (λ y. take i xs ++ y ∷ []) e ∙ sym (next_taken xs i x l) ∙ ap (λ n. take n xs) (sym (add-one i))
  where
    next_taken : {X : Type 0} (xs : List X) (i : ℕ) (d : X) → i < length xs → take (suc i) xs ≡ take i xs ++ get_or xs i d ∷ []
    next_taken [] i d l = absurd (omega arith)
    next_taken (x ∷ xs) zero d l = refl
    next_taken (x ∷ xs) (suc i) d l = ap (λ ys. x ∷ ys) (next_taken xs i d (omega arith))

pub fields_append : (front words : List (List ℕ)) (i : ℕ) (word : List ℕ) → i < length words → word ≡ get_or words i word → (front ++ take i words) ++ word ∷ [] ≡ front ++ take (i + 1) words
fields_append front words i word l e = append_assoc front (take i words) (word ∷ []) ∙ ap (λ xs. front ++ xs) (take_append_next words i word l e)

-- a further text after a comma (44)
pub listed_append : {X : Type 0} (text : X → List ℕ) (xs : List X) (i : ℕ) (x : X) (before old mid new : List ℕ) → i < length xs → x ≡ get_or xs i x → old ≡ before ++ flat_map (λ next. 44 ∷ next) (map text (take i xs)) → mid ≡ old ++ 44 ∷ [] → new ≡ mid ++ text x → new ≡ before ++ flat_map (λ next. 44 ∷ next) (map text (take (i + 1) xs))
listed_append text xs i x before old mid new l e o m n =
    let join_by_commas = flat_map (λ next. 44 ∷ next) (map text (take i xs)) in
    n ∙ ap (λ ys. ys ++ text x) (m ∙ ap (λ ys. ys ++ 44 ∷ []) o)
    ∙ append_assoc (before ++ join_by_commas) (44 ∷ []) (text x)
    ∙ append_assoc before join_by_commas (44 ∷ text x)
    ∙ ap (λ ys. before ++ ys) (
    ap (λ ys. join_by_commas ++ ys) (sym (append-nil (44 ∷ text x)))
    ∙ sym (flat_map-append (λ next. 44 ∷ next) (map text (take i xs)) (text x ∷ []))
    ∙ ap (flat_map (λ next. 44 ∷ next)) (sym (map-append text (take i xs) (x ∷ [])) ∙ ap (map text) (take_append_next xs i x l e))
    )

-- one further part, and the value read from it
pub all_more : {X : Type 0} (read : List ℕ → Option X) (parts : List (List ℕ)) (i : ℕ) (item part : List ℕ) (x : X) (old new : List X) → i < length parts → item ≡ get_or parts i item → part ≡ item → read part ≡ Some x → new ≡ old ++ x ∷ [] → prepend_all old (all_read read (drop i parts)) ≡ all_read read parts → prepend_all new (all_read read (drop (i + 1) parts)) ≡ all_read read parts
all_more read parts i item part x old new l e s r n h =
    let more = all_read read (drop (suc i) parts) in
    let first : all_read read (drop i parts) ≡ prepend_all (x ∷ []) more =
    ap (all_read read) (next_left parts i item l ∙ ap (λ p. p ∷ drop (suc i) parts) (sym (s ∙ e)))
    ∙ ap (λ o. o >>= (λ y. prepend_all (y ∷ []) more)) r in
    ap (λ k. prepend_all new (all_read read (drop k parts))) (add-one i)
    ∙ ap (λ ys. prepend_all ys more) n
    ∙ sym (prepend_all_twice old x more)
    ∙ ap (prepend_all old) (sym first)
    ∙ h
  where
    next_left : {X : Type 0} (xs : List X) (i : ℕ) (d : X) → i < length xs → drop i xs ≡ get_or xs i d ∷ drop (suc i) xs
    next_left [] i d l = absurd (omega arith)
    next_left (x ∷ xs) zero d l = refl
    next_left (x ∷ xs) (suc i) d l = next_left xs i d (omega arith)

    prepend_all_twice : {X : Type 0} (old : List X) (x : X) (more : Option (List X)) → prepend_all old (prepend_all (x ∷ []) more) ≡ prepend_all (old ++ x ∷ []) more
    prepend_all_twice old x None = refl
    prepend_all_twice old x (Some ys) = ap (λ zs. Some zs) (sym (append_assoc old (x ∷ []) ys))

pub all_ends : {X : Type 0} (read : List ℕ → Option X) (parts : List (List ℕ)) (i : ℕ) (items : List X) → length parts ≤ i → prepend_all items (all_read read (drop i parts)) ≡ all_read read parts → all_read read parts ≡ Some items
all_ends read parts i items l h =
    sym h ∙ ap (λ ps. prepend_all items (all_read read ps)) (none_left parts i l) ∙ ap (λ ys. Some ys) (append-nil items)
  where
    none_left : {X : Type 0} (xs : List X) (n : ℕ) → length xs ≤ n → drop n xs ≡ []
    none_left [] zero h = refl
    none_left [] (suc n) h = refl
    none_left (x ∷ xs) zero h = absurd (omega arith)
    none_left (x ∷ xs) (suc n) h = none_left xs n (omega arith)

-- the first of the remaining elements, and the others
tail_is : {X : Type 0} (x : X) (rest : List X) → take (length (x ∷ rest) - 1) (drop 1 (x ∷ rest)) ≡ rest
tail_is x rest = all_taken rest (length (x ∷ rest) - 1) (omega arith)

first_of : (rest : List OpId) (first : OpId) → 1 ≤ length rest → first ≡ get_or rest 0 first → IsAscending id_order rest ↔ (IsBelowFirst id_order first (take (length rest - 1) (drop 1 rest)) × IsAscending id_order (take (length rest - 1) (drop 1 rest)))
first_of [] first l e = absurd (omega arith)
first_of (x ∷ rest) first l e =
    let t = tail_is x rest in (
      λ h. subst (λ (xs : List OpId). IsBelowFirst id_order first xs × IsAscending id_order xs) (sym t) (subst (λ y. IsBelowFirst id_order y rest) (sym e) h.0, h.1),
      λ h. let k = subst (λ (xs : List OpId). IsBelowFirst id_order first xs × IsAscending id_order xs) t h in (subst (λ y. IsBelowFirst id_order y rest) e k.0, k.1),
    )

pub ids_ascend_step : (rest ids : List OpId) (first : OpId) → 1 ≤ length rest → first ≡ get_or rest 0 first → IsBelowFirst id_order first (take (length rest - 1) (drop 1 rest)) → IsAscending id_order rest ↔ IsAscending id_order ids → IsAscending id_order (take (length rest - 1) (drop 1 rest)) ↔ IsAscending id_order ids
ids_ascend_step rest ids first l e s a =
    let f = first_of rest first l e in (λ h. a.0 (f.1 (s, h)), λ h. (f.0 (a.1 h)).1)

pub ids_stop : (rest ids : List OpId) (first : OpId) → 1 ≤ length rest → first ≡ get_or rest 0 first → (IsBelowFirst id_order first (take (length rest - 1) (drop 1 rest)) → false ≡ true) → IsAscending id_order rest ↔ IsAscending id_order ids → (false ≡ true) ↔ IsAscending id_order ids
ids_stop rest ids first l e s a =
    let f = first_of rest first l e in (λ k. absurd (false≢true k), λ h. s (f.0 (a.1 h)).0)

pub ids_end : (rest ids : List OpId) → length rest < 1 → IsAscending id_order rest ↔ IsAscending id_order ids → (true ≡ true) ↔ IsAscending id_order ids
ids_end [] ids l a = (λ k. a.0 tt, λ h. refl)
ids_end (x ∷ rest) ids l a = absurd (omega arith)

pub words_ascend_step : (rest words : List (List ℕ)) (first : List ℕ) (b : Bool) → 1 ≤ length rest → first ≡ get_or rest 0 first → b ≡ is_word_below first (take (length rest - 1) (drop 1 rest)) → are_ascending rest ≡ are_ascending words → (b && are_ascending (take (length rest - 1) (drop 1 rest))) ≡ are_ascending words
words_ascend_step [] words first b l e s a = absurd (omega arith)
words_ascend_step (x ∷ rest) words first b l e s a =
    let t = tail_is x rest in
    ap (λ (xs : List (List ℕ)). b && are_ascending xs) t
    ∙ ap (λ b. b && are_ascending rest) (s ∙ (λ k. is_word_below (e k) (t k)))
    ∙ a

pub words_end : (rest words : List (List ℕ)) → length rest < 1 → are_ascending rest ≡ are_ascending words → true ≡ are_ascending words
words_end [] words l a = a
words_end (x ∷ rest) words l a = absurd (omega arith)

pub none_of : {X : Type 0} (xs : List X) → length xs < 1 → xs ≡ []
none_of [] l = refl
none_of (x ∷ xs) l = absurd (omega arith)

-- a list of texts, the first and the others
pub first_listed : {X : Type 0} (text : X → List ℕ) (xs : List X) (x : X) → 1 ≤ length xs → x ≡ get_or xs 0 x → join_by_commas (map text xs) ≡ text x ++ flat_map (λ next. 44 ∷ next) (map text (take (length xs - 1) (drop 1 xs)))
first_listed text [] x l e = absurd (omega arith)
first_listed text (y ∷ xs) x l e = λ k. text (sym e k) ++ flat_map (λ next. 44 ∷ next) (map text (sym (tail_is y xs) k))
