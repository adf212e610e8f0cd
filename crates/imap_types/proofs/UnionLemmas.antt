use Rattle.std.proofs.Common.{◌≡◌, inl, inr, ℕ, ◌+◌, add-one, ◌<◌, Bool, true, false, ◌||◌, List, [], ◌∷◌, ◌++◌, length, get_or, take, map, refl, sym, ap, ◌∙◌}
use Rattle.std.proofs.Math.Seq.{take-suc}
use Rattle.std.proofs.lemmas.Bool.{and_parts, and_from, false≢true, or_cases, or_left, or_right}
use Rattle.std.proofs.lemmas.Grind.{flat_map-append}
use Rattle.std.proofs.lemmas.List.{append-nil, map-append}
use Rattle.std.proofs.lemmas.List.Folds.{flat_map-map, list_any-append}
use Rattle.std.proofs.lemmas.List.Sums.{fold-append}
use Rattle.std.specs.List.{flat_map, fold, list_all, list_any}
use Rattle.std.specs.Str.{bytes_eq}
use Rattle.imap_types.specs.Ascending.{AreAscending}
use Rattle.imap_types.specs.Keywords.{with_word}
use Rattle.imap_types.specs.declared.flags.Flags.{Flags}
use Rattle.imap_types.specs.Members.{are_within, has_word}
use Rattle.imap_types.specs.Unions.{union_of, united_flags, with_flags}
use Rattle.imap_types.specs.declared.version.Version.{Version}
use Rattle.imap_types.proofs.WordLemmas.{all_by, each_word_of_all, any_folded, ascending_folded, one_ascending}

-- ---- one further version

or-false : (b : Bool) → (b || false) ≡ b
or-false true = refl
or-false false = refl

any_last : (p : Flags → Bool) (fs : List Flags) (f : Flags) → list_any p (fs ++ f ∷ []) ≡ (list_any p fs || p f)
any_last p fs f = list_any-append p fs (f ∷ []) ∙ ap (λ (b : Bool). list_any p fs || b) (or-false (p f))

pub union_of_append : (fs : List Flags) (f : Flags) → union_of (fs ++ f ∷ []) ≡ with_flags (union_of fs) f
union_of_append fs f =
    λ j. record {
      answered = any_last (λ (f : Flags). f.answered) fs f j;
      flagged = any_last (λ (f : Flags). f.flagged) fs f j;
      deleted = any_last (λ (f : Flags). f.deleted) fs f j;
      seen = any_last (λ (f : Flags). f.seen) fs f j;
      draft = any_last (λ (f : Flags). f.draft) fs f j;
      keywords = (
          ap (fold (λ done word. with_word word done) []) (flat_map-append (λ (f : Flags). f.keywords) fs (f ∷ []) ∙ ap (λ words. flat_map (λ (f : Flags). f.keywords) fs ++ words) (append-nil f.keywords))
          ∙ fold-append (λ done word. with_word word done) [] (flat_map (λ (f : Flags). f.keywords) fs) f.keywords
          ) j;
    }

pub united_flags_take : (vs : List Version) (old new : Flags) (i : ℕ) (v : Version) → i < length vs → v ≡ get_or vs i v → old ≡ united_flags (take i vs) → new ≡ with_flags old v.flags → new ≡ united_flags (take (i + 1) vs)
united_flags_take vs old new i v l e o n =
    let flags : Version → Flags = λ v. v.flags in
    n ∙ (λ j. with_flags (o j) (flags (e j))) ∙ sym (union_of_append (map flags (take i vs)) (flags (get_or vs i v)))
    ∙ ap union_of (sym (map-append flags (take i vs) (get_or vs i v ∷ [])) ∙ ap (map flags) (sym (take-suc vs i v l) ∙ ap (λ j. take j vs) (sym (add-one i))))

-- ---- what any of the versions has

pub any_mapped : (p : Flags → Bool) (vs : List Version) → list_any p (map (λ v. v.flags) vs) ≡ list_any (λ v. p v.flags) vs
any_mapped p [] = refl
any_mapped p (v ∷ vs) = ap (λ (b : Bool). p v.flags || b) (any_mapped p vs)

any_flat : (p : List ℕ → Bool) (vs : List Version) → list_any p (flat_map (λ f. f.keywords) (map (λ v. v.flags) vs)) ≡ list_any (λ v. list_any p v.flags.keywords) vs
any_flat p [] = refl
any_flat p (v ∷ vs) =
    list_any-append p v.flags.keywords (flat_map (λ (f : Flags). f.keywords) (map (λ (v : Version). v.flags) vs))
    ∙ ap (λ (b : Bool). list_any p v.flags.keywords || b) (any_flat p vs)

-- a keyword of the union is one of a version's
pub any_united : (p : List ℕ → Bool) (vs : List Version) → list_any p (united_flags vs).keywords ≡ list_any (λ (v : Version). list_any p v.flags.keywords) vs
any_united p vs = any_folded p [] (flat_map (λ (f : Flags). f.keywords) (map (λ (v : Version). v.flags) vs)) ∙ any_flat p vs

ascending_united : (vs : List Version) → AreAscending (united_flags vs).keywords
ascending_united vs = ascending_folded [] (flat_map (λ (f : Flags). f.keywords) (map (λ (v : Version). v.flags) vs)) tt

-- ---- the tests by which keywords are those of the union

-- whether a version has the word
abbrev pub any_version_has_word : List Version → List ℕ → Bool
any_version_has_word vs z = list_any (λ v. has_word v.flags.keywords z) vs

-- whether each version's keywords are among these
abbrev pub all_within : List Version → List (List ℕ) → Bool
all_within vs words = list_all (λ v. are_within v.flags.keywords words) vs

within_each : (vs : List Version) (words : List (List ℕ)) (z : List ℕ) → all_within vs words ≡ true → any_version_has_word vs z ≡ true → has_word words z ≡ true
within_each [] words z h i = absurd (false≢true i)
within_each (v ∷ vs) words z h i =
    let both = and_parts (are_within v.flags.keywords words) (all_within vs words) h in
    elim (or_cases (has_word v.flags.keywords z) (any_version_has_word vs z) i) [
      | inl e ↦ each_word_of_all (has_word words) v.flags.keywords z both.0 e
      | inr t ↦ within_each vs words z both.1 t
    ]

each_within : (vs : List Version) (words : List (List ℕ)) → ((z : List ℕ) → any_version_has_word vs z ≡ true → has_word words z ≡ true) → all_within vs words ≡ true
each_within [] words f = refl
each_within (v ∷ vs) words f =
    and_from (are_within v.flags.keywords words) (all_within vs words)
    (all_by (has_word words) v.flags.keywords (λ z i. f z (or_left (has_word v.flags.keywords z) (any_version_has_word vs z) i)))
    (each_within vs words (λ z i. f z (or_right (has_word v.flags.keywords z) (any_version_has_word vs z) i)))

-- if both tests pass, the keywords are those of the union
pub same_from_tests : (vs : List Version) (words : List (List ℕ)) → AreAscending words → all_within vs words ≡ true → list_all (any_version_has_word vs) words ≡ true → (united_flags vs).keywords ≡ words
same_from_tests vs words a h k =
    one_ascending (united_flags vs).keywords words (ascending_united vs) a
    (λ z i. within_each vs words z h (sym (any_united (bytes_eq z) vs) ∙ i))
    (λ z i. any_united (bytes_eq z) vs ∙ each_word_of_all (any_version_has_word vs) words z k i)

-- both tests pass for the keywords of the union
pub tests_from_same : (vs : List Version) (words : List (List ℕ)) → (united_flags vs).keywords ≡ words → (all_within vs words ≡ true) × (list_all (any_version_has_word vs) words ≡ true)
tests_from_same vs words e = (
  each_within vs words (λ z i. sym (ap (λ ws. has_word ws z) e) ∙ any_united (bytes_eq z) vs ∙ i),
  all_by (any_version_has_word vs) words (λ z i. sym (any_united (bytes_eq z) vs) ∙ ap (λ ws. has_word ws z) e ∙ i),
)

-- ---- the union added to other keywords

-- adding the keywords of all versions to ascending ones, one after another, is adding the union
pub united_added : (vs : List Version) (old : List (List ℕ)) → AreAscending old
    → fold (λ done word. with_word word done) old (flat_map (λ v. v.flags.keywords) vs) ≡ fold (λ done word. with_word word done) old (united_flags vs).keywords
united_added vs old a =
    let words = flat_map (λ (v : Version). v.flags.keywords) vs in
    let same : flat_map (λ (f : Flags). f.keywords) (map (λ (v : Version). v.flags) vs) ≡ words = flat_map-map (λ (f : Flags). f.keywords) (λ (v : Version). v.flags) vs in
    let both : (p : List ℕ → Bool) → list_any p (fold (λ done word. with_word word done) old words) ≡ list_any p (fold (λ done word. with_word word done) old (united_flags vs).keywords) =
    λ p. any_folded p old words ∙ ap (λ ws. list_any p old || list_any p ws) (sym same)
    ∙ sym (any_folded p old (united_flags vs).keywords ∙ ap (λ (b : Bool). list_any p old || b) (any_folded p [] (flat_map (λ (f : Flags). f.keywords) (map (λ (v : Version). v.flags) vs)))) in
    one_ascending _ _ (ascending_folded old words a) (ascending_folded old (united_flags vs).keywords a)
    (λ z i. sym (both (bytes_eq z)) ∙ i)
    (λ z i. both (bytes_eq z) ∙ i)
