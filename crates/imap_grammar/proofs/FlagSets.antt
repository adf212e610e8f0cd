-- Adding flags one after another gives the set of those that are written, and there is only one
-- such set.
use Rattle.std.proofs.Common.{◌≡◌, ◌⊎◌, inl, inr, ℕ, Bool, true, false, ◌||◌, List, [], ◌∷◌, refl, sym, ap, ◌∙◌, subst}
use Rattle.std.proofs.lemmas.Bool.{false≢true, or_cases, or_left, or_right}
use Rattle.std.proofs.lemmas.Cmp.{nat_list_cmp_total, tied_itself}
use Rattle.std.proofs.lemmas.Slice.Eq.{bytes_eq-Decides}
use Rattle.std.specs.FinMap.{nat_cmp-IsAntisymmetric, slice_cmp-IsAntisymmetric}
use Rattle.std.specs.List.{list_any}
use Rattle.std.specs.Ordering.{match_ordering}
use Rattle.std.specs.Str.{bytes_eq}
use Rattle.std.specs.declared.cmp.Ordering.{Ordering}
use Rattle.std.specs.declared.cmp.Ordering.TheVariants.{Less, Equal, Greater}
use Rattle.imap_types.specs.Ascending.{AreAscending, IsBefore, octet_order}
use Rattle.imap_types.specs.Keywords.{AreKeywords, to_lower_case, with_word}
use Rattle.imap_types.specs.declared.flags.Flags.{Flags}
use Rattle.imap_types.proofs.KeywordLemmas.{keywords_with}
use Rattle.imap_syntax.specs.MessageFlags.{AreWritten, is_keyword, is_system}
use Rattle.imap_syntax.specs.declared.flags.Flag.{Flag}
use Rattle.imap_syntax.specs.declared.flags.Flag.TheVariants.{System, Keyword}
use Rattle.imap_syntax.specs.declared.flags.SystemFlag.{SystemFlag}
use Rattle.imap_syntax.specs.declared.flags.SystemFlag.TheVariants.{Answered, Flagged, Deleted, Seen, Draft}
use Rattle.imap_grammar.specs.Reading.{flags_of, no_flags, with_flag}

or_none : (a : Bool) → (a || false) ≡ a
or_none true = refl
or_none false = refl

or_twice : (a b : Bool) → (a || (a || b)) ≡ (a || b)
or_twice true b = refl
or_twice false b = refl

or_turned : (a b c : Bool) → (b || (a || c)) ≡ (a || (b || c))
or_turned true true c = refl
or_turned true false c = refl
or_turned false b c = refl

or_moved : (a s r : Bool) → ((a || s) || r) ≡ (s || (a || r))
or_moved true true r = refl
or_moved true false r = refl
or_moved false s r = refl

-- ---- system flags

abbrev shows : SystemFlag → Flags → Bool
shows Answered flags = flags.answered
shows Flagged flags = flags.flagged
shows Deleted flags = flags.deleted
shows Seen flags = flags.seen
shows Draft flags = flags.draft

shows_of_added : (known : SystemFlag) (one : Flag) (flags : Flags) → shows known (with_flag flags one) ≡ (is_system known one || shows known flags)
shows_of_added Answered (System Answered) flags = refl
shows_of_added Answered (System Flagged) flags = refl
shows_of_added Answered (System Deleted) flags = refl
shows_of_added Answered (System Seen) flags = refl
shows_of_added Answered (System Draft) flags = refl
shows_of_added Answered (Keyword keyword) flags = refl
shows_of_added Flagged (System Answered) flags = refl
shows_of_added Flagged (System Flagged) flags = refl
shows_of_added Flagged (System Deleted) flags = refl
shows_of_added Flagged (System Seen) flags = refl
shows_of_added Flagged (System Draft) flags = refl
shows_of_added Flagged (Keyword keyword) flags = refl
shows_of_added Deleted (System Answered) flags = refl
shows_of_added Deleted (System Flagged) flags = refl
shows_of_added Deleted (System Deleted) flags = refl
shows_of_added Deleted (System Seen) flags = refl
shows_of_added Deleted (System Draft) flags = refl
shows_of_added Deleted (Keyword keyword) flags = refl
shows_of_added Seen (System Answered) flags = refl
shows_of_added Seen (System Flagged) flags = refl
shows_of_added Seen (System Deleted) flags = refl
shows_of_added Seen (System Seen) flags = refl
shows_of_added Seen (System Draft) flags = refl
shows_of_added Seen (Keyword keyword) flags = refl
shows_of_added Draft (System Answered) flags = refl
shows_of_added Draft (System Flagged) flags = refl
shows_of_added Draft (System Deleted) flags = refl
shows_of_added Draft (System Seen) flags = refl
shows_of_added Draft (System Draft) flags = refl
shows_of_added Draft (Keyword keyword) flags = refl

system_all : (known : SystemFlag) (written : List Flag) (flags : Flags) → shows known (flags_of flags written) ≡ (shows known flags || list_any (is_system known) written)
system_all known [] flags = sym (or_none (shows known flags))
system_all known (one ∷ more) flags =
    system_all known more (with_flag flags one)
    ∙ ap (λ (b : Bool). b || list_any (is_system known) more) (shows_of_added known one flags)
    ∙ or_moved (is_system known one) (shows known flags) (list_any (is_system known) more)

-- ---- keywords

abbrev has_word : List (List ℕ) → List ℕ → Bool
has_word words word = list_any (bytes_eq word) words

same_word : (w v : List ℕ) → octet_order w v ≡ Equal → w ≡ v
same_word w v e = slice_cmp-IsAntisymmetric nat_cmp-IsAntisymmetric w v e

has_word_step : (x w v : List ℕ) (vs rest : List (List ℕ)) (o : Ordering) → octet_order w v ≡ o → has_word rest x ≡ (bytes_eq x w || has_word vs x) → has_word (match_ordering o (w ∷ v ∷ vs) (v ∷ vs) (v ∷ rest)) x ≡ (bytes_eq x w || (bytes_eq x v || has_word vs x))
has_word_step x w v vs rest Less e h = refl
has_word_step x w v vs rest Equal e h = sym (ap (λ (u : List ℕ). bytes_eq x u || (bytes_eq x v || has_word vs x)) (same_word w v e) ∙ or_twice (bytes_eq x v) (has_word vs x))
has_word_step x w v vs rest Greater e h = ap (λ (b : Bool). bytes_eq x v || b) h ∙ or_turned (bytes_eq x w) (bytes_eq x v) (has_word vs x)

has_word_with : (x w : List ℕ) (vs : List (List ℕ)) → has_word (with_word w vs) x ≡ (bytes_eq x w || has_word vs x)
has_word_with x w [] = refl
has_word_with x w (v ∷ vs) = has_word_step x w v vs (with_word w vs) (octet_order w v) refl (has_word_with x w vs)

has_word_of_added : (x : List ℕ) (one : Flag) (flags : Flags) → has_word (with_flag flags one).keywords x ≡ (is_keyword x one || has_word flags.keywords x)
has_word_of_added x (System Answered) flags = refl
has_word_of_added x (System Flagged) flags = refl
has_word_of_added x (System Deleted) flags = refl
has_word_of_added x (System Seen) flags = refl
has_word_of_added x (System Draft) flags = refl
has_word_of_added x (Keyword keyword) flags = has_word_with x (to_lower_case keyword) flags.keywords

keyword_all : (x : List ℕ) (written : List Flag) (flags : Flags) → has_word (flags_of flags written).keywords x ≡ (has_word flags.keywords x || list_any (is_keyword x) written)
keyword_all x [] flags = sym (or_none (has_word flags.keywords x))
keyword_all x (one ∷ more) flags =
    keyword_all x more (with_flag flags one)
    ∙ ap (λ (b : Bool). b || list_any (is_keyword x) more) (has_word_of_added x one flags)
    ∙ or_moved (is_keyword x one) (has_word flags.keywords x) (list_any (is_keyword x) more)

keywords_of_added : (one : Flag) (flags : Flags) → AreKeywords flags.keywords → AreKeywords (with_flag flags one).keywords
keywords_of_added (System Answered) flags h = h
keywords_of_added (System Flagged) flags h = h
keywords_of_added (System Deleted) flags h = h
keywords_of_added (System Seen) flags h = h
keywords_of_added (System Draft) flags h = h
keywords_of_added (Keyword keyword) flags h = keywords_with keyword flags.keywords h

set_all : (written : List Flag) (flags : Flags) → AreKeywords flags.keywords → AreKeywords (flags_of flags written).keywords
set_all [] flags h = h
set_all (one ∷ more) flags h = set_all more (with_flag flags one) (keywords_of_added one flags h)

pub written_are : (written : List Flag) → AreWritten written (flags_of no_flags written)
written_are written = record {
  answered = system_all Answered written no_flags;
  flagged = system_all Flagged written no_flags;
  deleted = system_all Deleted written no_flags;
  seen = system_all Seen written no_flags;
  draft = system_all Draft written no_flags;
  set = set_all written no_flags (refl, tt);
  keywords = λ word. keyword_all word written no_flags;
}

-- ---- there is only one such set

abbrev IsWithin : List (List ℕ) → List (List ℕ) → Type 0
IsWithin xs ys = (z : List ℕ) → has_word xs z ≡ true → has_word ys z ≡ true

has_word_cases : (z x : List ℕ) (xs : List (List ℕ)) → has_word (x ∷ xs) z ≡ true → (z ≡ x) ⊎ (has_word xs z ≡ true)
has_word_cases z x xs h = elim (or_cases (bytes_eq z x) (has_word xs z) h) [ inl e ↦ inl ((bytes_eq-Decides z x).0 e) | inr t ↦ inr t ]

has_word_first : (x : List ℕ) (xs : List (List ℕ)) → has_word (x ∷ xs) x ≡ true
has_word_first x xs = or_left (bytes_eq x x) (has_word xs x) ((bytes_eq-Decides x x).1 refl)

has_word_rest : (z x : List ℕ) (xs : List (List ℕ)) → has_word xs z ≡ true → has_word (x ∷ xs) z ≡ true
has_word_rest z x xs i = or_right (bytes_eq z x) (has_word xs z) i

first_before : (x z : List ℕ) (xs : List (List ℕ)) → AreAscending (x ∷ xs) → has_word xs z ≡ true → IsBefore x z
first_before x z [] h i = absurd (false≢true i)
first_before x z (y ∷ xs) h i =
    elim (has_word_cases z y xs i) [
      | inl e ↦ subst (IsBefore x) (sym e) h.0
      | inr t ↦ nat_list_cmp_total.trans x y z h.0 (first_before y z xs h.1 t)
    ]

not_itself : (x : List ℕ) → IsBefore x x → ⊥
not_itself x e = let k : Less ≡ Equal = sym e ∙ tied_itself nat_list_cmp_total x in cc

ascending_rest : (x : List ℕ) (xs : List (List ℕ)) → AreAscending (x ∷ xs) → AreAscending xs
ascending_rest x [] h = tt
ascending_rest x (y ∷ xs) h = h.1

tail_within : (x y : List ℕ) (xs ys : List (List ℕ)) → x ≡ y → AreAscending (x ∷ xs) → IsWithin (x ∷ xs) (y ∷ ys) → IsWithin xs ys
tail_within x y xs ys e h f z i =
    elim (has_word_cases z y ys (f z (has_word_rest z x xs i))) [
      | inl k ↦ absurd (not_itself x (subst (IsBefore x) (k ∙ sym e) (first_before x z xs h i)))
      | inr t ↦ t
    ]

heads_same : (x y : List ℕ) (xs ys : List (List ℕ)) → AreAscending (x ∷ xs) → AreAscending (y ∷ ys) → has_word (y ∷ ys) x ≡ true → has_word (x ∷ xs) y ≡ true → x ≡ y
heads_same x y xs ys h k i j =
    elim (has_word_cases x y ys i) [
      | inl e ↦ e
      | inr t ↦ elim (has_word_cases y x xs j) [
        | inl e ↦ sym e
        | inr u ↦ absurd (not_itself x (nat_list_cmp_total.trans x y x (first_before x y xs h u) (first_before y x ys k t)))
      ]
    ]

one_set : (xs ys : List (List ℕ)) → AreAscending xs → AreAscending ys → IsWithin xs ys → IsWithin ys xs → xs ≡ ys
one_set [] [] h k f g = refl
one_set [] (y ∷ ys) h k f g = absurd (false≢true (g y (has_word_first y ys)))
one_set (x ∷ xs) [] h k f g = absurd (false≢true (f x (has_word_first x xs)))
one_set (x ∷ xs) (y ∷ ys) h k f g =
    let head : x ≡ y = heads_same x y xs ys h k (f x (has_word_first x xs)) (g y (has_word_first y ys)) in
    let tail : xs ≡ ys = one_set xs ys (ascending_rest x xs h) (ascending_rest y ys k) (tail_within x y xs ys head h f) (tail_within y x ys xs (sym head) k g) in
    λ i. head i ∷ tail i

same_flags : (a b : Flags) → a.answered ≡ b.answered → a.flagged ≡ b.flagged → a.deleted ≡ b.deleted → a.seen ≡ b.seen → a.draft ≡ b.draft → a.keywords ≡ b.keywords → a ≡ b
same_flags a b p q r s t k = λ i. record { answered = p i; flagged = q i; deleted = r i; seen = s i; draft = t i; keywords = k i }

one_written : (written : List Flag) (a b : Flags) → AreWritten written a → AreWritten written b → a ≡ b
one_written written a b h k =
    same_flags a b (h.answered ∙ sym k.answered) (h.flagged ∙ sym k.flagged) (h.deleted ∙ sym k.deleted) (h.seen ∙ sym k.seen) (h.draft ∙ sym k.draft)
    (one_set a.keywords b.keywords h.set.1 k.set.1 (λ z i. k.keywords z ∙ sym (h.keywords z) ∙ i) (λ z i. h.keywords z ∙ sym (k.keywords z) ∙ i))

pub written_is : (written : List Flag) (flags : Flags) → AreWritten written flags → flags_of no_flags written ≡ flags
written_is written flags h = one_written written (flags_of no_flags written) flags (written_are written) h
