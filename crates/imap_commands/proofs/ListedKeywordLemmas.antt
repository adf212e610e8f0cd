use Rattle.std.proofs.Common.{◌≡◌, ◌↔◌, ◌⊎◌, inl, inr, ℕ, List, [], ◌∷◌, sym, refl, ap, subst, ◌∙◌}
use Rattle.std.specs.declared.cmp.Ordering.{Ordering}
use Rattle.std.specs.declared.cmp.Ordering.TheVariants.{Less, Equal, Greater}
use Rattle.std.specs.List.{fold}
use Rattle.std.specs.Ordering.{match_ordering}
use Rattle.std.proofs.lemmas.Cmp.{nat_list_cmp_total, tied_itself}
use Rattle.std.proofs.lemmas.Map.Lookups.{exact_bytes}
use Rattle.imap_types.specs.Ascending.{AreAscending, IsBefore, octet_order}
use Rattle.imap_types.specs.Keywords.{AreKeywords, to_lower_case, with_word}
use Rattle.imap_types.proofs.KeywordLemmas.{keywords_with}
use Rattle.merge_laws.specs.Orders.{IsIn}
use Rattle.mailbox_rows.specs.ListedMessage.{ListedMessage}
use Rattle.imap_commands.specs.SelectCommand.{AreListedKeywords, BearsKeyword}

-- A set of keywords after these words, or the keywords of these messages, are added in lower case,
-- one after another.
abbrev pub with_keywords : List (List ℕ) → List (List ℕ) → List (List ℕ)
with_keywords words keywords = fold (λ done word. with_word (to_lower_case word) done) keywords words

abbrev pub with_rows : List ListedMessage → List (List ℕ) → List (List ℕ)
with_rows rows keywords = fold (λ done row. fold (λ done word. with_word (to_lower_case word) done) done row.flags.keywords) keywords rows

-- The keywords and those given, which are added unchanged.
abbrev pub united : List (List ℕ) → List (List ℕ) → List (List ℕ)
united given keywords = fold (λ done word. with_word word done) keywords given

-- ---- the keywords after one word is added

has_by : (o : Ordering) (x w v : List ℕ) (vs inserted : List (List ℕ)) → (IsIn x inserted → (w ≡ x) ⊎ IsIn x vs) → IsIn x (match_ordering o (w ∷ v ∷ vs) (v ∷ vs) (v ∷ inserted)) → (w ≡ x) ⊎ IsIn x (v ∷ vs)
has_by Less x w v vs inserted more h = h
has_by Equal x w v vs inserted more h = inr h
has_by Greater x w v vs inserted more h = elim h [ inl e ↦ inr (inl e) | inr t ↦ elim (more t) [ inl e ↦ inl e | inr u ↦ inr (inr u) ] ]

pub text_has : (x w : List ℕ) (vs : List (List ℕ)) → IsIn x (with_word w vs) → (w ≡ x) ⊎ IsIn x vs
text_has x w [] h = h
text_has x w (v ∷ vs) h = has_by (octet_order w v) x w v vs (with_word w vs) (text_has x w vs) h

old_by : (o : Ordering) (x w v : List ℕ) (vs inserted : List (List ℕ)) → (IsIn x vs → IsIn x inserted) → IsIn x (v ∷ vs) → IsIn x (match_ordering o (w ∷ v ∷ vs) (v ∷ vs) (v ∷ inserted))
old_by Less x w v vs inserted more h = inr h
old_by Equal x w v vs inserted more h = h
old_by Greater x w v vs inserted more h = elim h [ inl e ↦ inl e | inr t ↦ inr (more t) ]

pub text_old : (x w : List ℕ) (vs : List (List ℕ)) → IsIn x vs → IsIn x (with_word w vs)
text_old x w [] h = absurd h
text_old x w (v ∷ vs) h = old_by (octet_order w v) x w v vs (with_word w vs) (text_old x w vs) h

new_by : (o : Ordering) (w v : List ℕ) (vs inserted : List (List ℕ)) → octet_order w v ≡ o → IsIn w inserted → IsIn w (match_ordering o (w ∷ v ∷ vs) (v ∷ vs) (v ∷ inserted))
new_by Less w v vs inserted e more = inl refl
new_by Equal w v vs inserted e more = inl (sym (exact_bytes w v e))
new_by Greater w v vs inserted e more = inr more

pub text_new : (w : List ℕ) (vs : List (List ℕ)) → IsIn w (with_word w vs)
text_new w [] = inl refl
text_new w (v ∷ vs) = new_by (octet_order w v) w v vs (with_word w vs) refl (text_new w vs)

-- ---- the keywords after several words are added

abbrev IsSpelled : List (List ℕ) → List ℕ → Type 0
IsSpelled words x = (keyword : List ℕ) × IsIn keyword words × (to_lower_case keyword ≡ x)

words_has : (x : List ℕ) (words vs : List (List ℕ)) → IsIn x (with_keywords words vs) → IsSpelled words x ⊎ IsIn x vs
words_has x [] vs h = inr h
words_has x (w ∷ words) vs h =
    elim (words_has x words (with_word (to_lower_case w) vs) h) [
      | inl s ↦ inl (s.0, inr s.1, s.2)
      | inr t ↦ elim (text_has x (to_lower_case w) vs t) [ inl e ↦ inl (w, inl refl, e) | inr u ↦ inr u ]
    ]

words_old : (x : List ℕ) (words vs : List (List ℕ)) → IsIn x vs → IsIn x (with_keywords words vs)
words_old x [] vs h = h
words_old x (w ∷ words) vs h = words_old x words (with_word (to_lower_case w) vs) (text_old x (to_lower_case w) vs h)

words_new : (x keyword : List ℕ) (words vs : List (List ℕ)) → IsIn keyword words → to_lower_case keyword ≡ x → IsIn x (with_keywords words vs)
words_new x keyword [] vs h e = absurd h
words_new x keyword (w ∷ words) vs h e =
    elim h [
      | inl f ↦ words_old x words (with_word (to_lower_case w) vs) (subst (λ (y : List ℕ). IsIn y (with_word (to_lower_case w) vs)) (ap to_lower_case f ∙ e) (text_new (to_lower_case w) vs))
      | inr t ↦ words_new x keyword words (with_word (to_lower_case w) vs) t e
    ]

words_set : (words vs : List (List ℕ)) → AreKeywords vs → AreKeywords (with_keywords words vs)
words_set [] vs h = h
words_set (w ∷ words) vs h = words_set words (with_word (to_lower_case w) vs) (keywords_with w vs h)

-- ---- the keywords after those of a listing are added

rows_has : (x : List ℕ) (rows : List ListedMessage) (vs : List (List ℕ)) → IsIn x (with_rows rows vs) → BearsKeyword rows x ⊎ IsIn x vs
rows_has x [] vs h = inr h
rows_has x (row ∷ rows) vs h =
    elim (rows_has x rows (with_keywords row.flags.keywords vs) h) [
      | inl b ↦ inl (b.0, inr b.1, b.2)
      | inr t ↦ elim (words_has x row.flags.keywords vs t) [ inl s ↦ inl (row, inl refl, s) | inr u ↦ inr u ]
    ]

rows_old : (x : List ℕ) (rows : List ListedMessage) (vs : List (List ℕ)) → IsIn x vs → IsIn x (with_rows rows vs)
rows_old x [] vs h = h
rows_old x (row ∷ rows) vs h = rows_old x rows (with_keywords row.flags.keywords vs) (words_old x row.flags.keywords vs h)

rows_new : (x : List ℕ) (rows : List ListedMessage) (vs : List (List ℕ)) → BearsKeyword rows x → IsIn x (with_rows rows vs)
rows_new x [] vs b = absurd b.1
rows_new x (row ∷ rows) vs b =
    elim b.1 [
      | inl e ↦
          let in_row : IsIn b.2.0 row.flags.keywords = subst (λ (r : ListedMessage). IsIn b.2.0 r.flags.keywords) (sym e) b.2.1 in
          rows_old x rows (with_keywords row.flags.keywords vs) (words_new x b.2.0 row.flags.keywords vs in_row b.2.2)
      | inr t ↦ rows_new x rows (with_keywords row.flags.keywords vs) (b.0, t, b.2)
    ]

rows_set : (rows : List ListedMessage) (vs : List (List ℕ)) → AreKeywords vs → AreKeywords (with_rows rows vs)
rows_set [] vs h = h
rows_set (row ∷ rows) vs h = rows_set rows (with_keywords row.flags.keywords vs) (words_set row.flags.keywords vs h)

none_in : (x : List ℕ) (rows : List ListedMessage) → BearsKeyword rows x ⊎ IsIn x [] → BearsKeyword rows x
none_in x rows h = elim h [ inl b ↦ b | inr t ↦ absurd t ]

pub borne : (rows : List ListedMessage) → AreListedKeywords rows (with_rows rows [])
borne rows = record {
  set = rows_set rows [] (refl, tt);
  exactly = λ word. (λ h. none_in word rows (rows_has word rows [] h), rows_new word rows []);
}

-- ---- two ascending lists of the same words are equal

not_before_itself : (a : List ℕ) → IsBefore a a → ⊥
not_before_itself a h = let e : octet_order a a ≡ Equal = tied_itself nat_list_cmp_total a in let q : Equal ≡ Less = sym e ∙ h in cc

before_before : (a b c : List ℕ) → IsBefore a b → IsBefore b c → IsBefore a c
before_before a b c h k = nat_list_cmp_total.trans a b c h k

tail_ascending : (x : List ℕ) (xs : List (List ℕ)) → AreAscending (x ∷ xs) → AreAscending xs
tail_ascending x [] h = tt
tail_ascending x (y ∷ xs) h = h.1

first_before : (x z : List ℕ) (xs : List (List ℕ)) → AreAscending (x ∷ xs) → IsIn z xs → IsBefore x z
first_before x z [] h i = absurd i
first_before x z (y ∷ xs) h i =
    elim i [
      | inl e ↦ subst (λ (w : List ℕ). IsBefore x w) e h.0
      | inr t ↦ before_before x y z h.0 (first_before y z xs h.1 t)
    ]

same_texts : (xs ys : List (List ℕ)) → AreAscending xs → AreAscending ys → ((z : List ℕ) → IsIn z xs ↔ IsIn z ys) → xs ≡ ys
same_texts [] [] h k s = refl
same_texts [] (y ∷ ys) h k s = absurd ((s y).1 (inl refl))
same_texts (x ∷ xs) [] h k s = absurd ((s x).0 (inl refl))
same_texts (x ∷ xs) (y ∷ ys) h k s =
    let heads : x ≡ y =
    elim ((s x).0 (inl refl)) [
      | inl e ↦ sym e
      | inr t ↦ elim ((s y).1 (inl refl)) [
        | inl e ↦ e
        | inr u ↦ absurd (not_before_itself x (before_before x y x (first_before x y xs h u) (first_before y x ys k t)))
      ]
    ] in
    let tails : (z : List ℕ) → IsIn z xs ↔ IsIn z ys = λ z. (
      λ t. elim ((s z).0 (inr t)) [
        | inl e ↦ absurd (not_before_itself x (subst (λ (w : List ℕ). IsBefore x w) (sym (heads ∙ e)) (first_before x z xs h t)))
        | inr u ↦ u
      ],
      λ t. elim ((s z).1 (inr t)) [
        | inl e ↦ absurd (not_before_itself y (subst (λ (w : List ℕ). IsBefore y w) (sym (sym heads ∙ e)) (first_before y z ys k t)))
        | inr u ↦ u
      ],
    ) in
    λ i. heads i ∷ same_texts xs ys (tail_ascending x xs h) (tail_ascending y ys k) tails i

pub one_set : (rows : List ListedMessage) (these those : List (List ℕ)) → AreListedKeywords rows these → AreListedKeywords rows those → these ≡ those
one_set rows these those h k =
    same_texts these those h.set.1 k.set.1 (λ z. (λ i. (k.exactly z).1 ((h.exactly z).0 i), λ i. (h.exactly z).1 ((k.exactly z).0 i)))
