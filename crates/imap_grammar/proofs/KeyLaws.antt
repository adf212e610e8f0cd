-- The keys of SEARCH.
use Rattle.std.proofs.Common.{◌≡◌, ℕ, zero, suc, true, false, cond, ◌||◌, codes, List, [], ◌∷◌, ◌++◌, Option, Some, None, ap, sym, ◌∙◌, refl, subst, arith, eqb, inl, inr, length}
use Rattle.std.proofs.lemmas.Bool.{and_parts, eqb-true}
use Rattle.std.proofs.lemmas.Bool.Decides.{nat_tests}
use Rattle.std.specs.Char.{to_ascii_lowercase}
use Rattle.std.specs.List.{list_all}
use Rattle.std.specs.Str.{bytes_eq}
use Rattle.imap_types.specs.DateTimes.{is_digit}
use Rattle.imap_types.specs.Keywords.{to_lower_case}
use Rattle.imap_types.specs.declared.sequence_set.SequenceBound.{SequenceBound}
use Rattle.imap_types.specs.declared.sequence_set.SequenceBound.TheVariants.{Number, Greatest}
use Rattle.imap_types.specs.declared.sequence_set.SequenceRange.{SequenceRange}
use Rattle.imap_syntax.specs.Dates.{date}
use Rattle.imap_syntax.specs.Faults.{begins_with_class}
use Rattle.imap_grammar.specs.KeyReading.{below_at, keys_at, leaf_at, level_at, more_keys_at, numbers_at, or_more, worded_at}
use Rattle.imap_syntax.specs.KeyWords.{key_word, key_words}
use Rattle.imap_syntax.specs.Keys.{all_of, and_all, key_over, key_within, test}
use Rattle.imap_syntax.specs.Languages.{◌⌢◌, exactly, never, sp, word, in_parens, listed}
use Rattle.imap_grammar.specs.Reading.{after, and_more, before, both, date_at, is_nil, listed_at, map_read, more_at, named, named_at, next_at, number_at, run_at, set_at, spaced, text_at, ◌>>=◌}
use Rattle.imap_syntax.specs.Sets.{bound, range, sequence_set}
use Rattle.imap_syntax.specs.Strings.{astring, begins_with, is_in, number_to, run}
use Rattle.imap_syntax.specs.declared.octet_class.OctetClass.TheVariants.{Astring, Atom, Digit, Item}
use Rattle.imap_syntax.specs.declared.flags.SystemFlag.TheVariants as system
use Rattle.imap_syntax.specs.declared.search.DateRelation.TheVariants as order
use Rattle.imap_syntax.specs.declared.search.SearchKeyWord.{SearchKeyWord}
use Rattle.imap_syntax.specs.declared.search.SearchKeyWord.TheVariants as key
use Rattle.imap_syntax.specs.declared.search.SearchStep.{SearchStep}
use Rattle.imap_syntax.specs.declared.search.SearchStep.TheVariants.{Test, Not, Or, And}
use Rattle.imap_syntax.specs.declared.search.SearchTest.{SearchTest}
use Rattle.imap_syntax.specs.declared.search.SearchTest.TheVariants as tests
use Rattle.imap_syntax.specs.declared.search.TextPlace.TheVariants as place
use Rattle.imap_grammar.proofs.DateLaws.{day_reads}
use Rattle.imap_grammar.proofs.ReaderLaws.{IsArgEnd, IsWordEnd, HasPrefix, IsReader, after_sound, bind_some, both_reads, chosen, closes_ends, closes_no_space, exactly_is, joined, map_reads, parts_around, some_is, sp_ends, spaced_reads, stopping}
use Rattle.imap_grammar.proofs.Lists.{listed_reads}
use Rattle.imap_grammar.proofs.SetLaws.{number_reads, set_reads}
use Rattle.imap_grammar.proofs.Spans.{ends_stop, run_reads}
use Rattle.imap_grammar.proofs.Texts.{text_reads}
use Rattle.imap_grammar.proofs.WordLaws.{NoItem, ends_item, named_at_complete, named_at_sound, word_first}

-- A key's word is found among those of all keys, has only octets of words, and can't be taken for a
-- set of numbers, nor for anything that may precede keys.
abbrev IsKeyWord : SearchKeyWord → Type 0
IsKeyWord w =
    (named key_word key_words (key_word w) ≡ Some w)
    × (list_all (is_in Item) (to_lower_case (key_word w)) ≡ true)
    × (is_nil (to_lower_case (key_word w)) ≡ false)
    × (begins_with_class Digit (to_lower_case (key_word w)) ≡ false)
    × (bytes_eq (to_lower_case (key_word w)) (to_lower_case (codes "RETURN")) ≡ false)
    × (bytes_eq (to_lower_case (key_word w)) (to_lower_case (codes "CHARSET")) ≡ false)

is_key_word : (w : SearchKeyWord) → IsKeyWord w
is_key_word key.All = (refl, refl, refl, refl, refl, refl)
is_key_word (key.System system.Answered true) = (refl, refl, refl, refl, refl, refl)
is_key_word (key.System system.Answered false) = (refl, refl, refl, refl, refl, refl)
is_key_word (key.System system.Flagged true) = (refl, refl, refl, refl, refl, refl)
is_key_word (key.System system.Flagged false) = (refl, refl, refl, refl, refl, refl)
is_key_word (key.System system.Deleted true) = (refl, refl, refl, refl, refl, refl)
is_key_word (key.System system.Deleted false) = (refl, refl, refl, refl, refl, refl)
is_key_word (key.System system.Seen true) = (refl, refl, refl, refl, refl, refl)
is_key_word (key.System system.Seen false) = (refl, refl, refl, refl, refl, refl)
is_key_word (key.System system.Draft true) = (refl, refl, refl, refl, refl, refl)
is_key_word (key.System system.Draft false) = (refl, refl, refl, refl, refl, refl)
is_key_word (key.Keyword true) = (refl, refl, refl, refl, refl, refl)
is_key_word (key.Keyword false) = (refl, refl, refl, refl, refl, refl)
is_key_word (key.Place place.Bcc) = (refl, refl, refl, refl, refl, refl)
is_key_word (key.Place place.Cc) = (refl, refl, refl, refl, refl, refl)
is_key_word (key.Place place.From) = (refl, refl, refl, refl, refl, refl)
is_key_word (key.Place place.Subject) = (refl, refl, refl, refl, refl, refl)
is_key_word (key.Place place.To) = (refl, refl, refl, refl, refl, refl)
is_key_word (key.Place place.Body) = (refl, refl, refl, refl, refl, refl)
is_key_word (key.Place place.Text) = (refl, refl, refl, refl, refl, refl)
is_key_word key.Header = (refl, refl, refl, refl, refl, refl)
is_key_word (key.Dated order.Before) = (refl, refl, refl, refl, refl, refl)
is_key_word (key.Dated order.On) = (refl, refl, refl, refl, refl, refl)
is_key_word (key.Dated order.Since) = (refl, refl, refl, refl, refl, refl)
is_key_word key.Larger = (refl, refl, refl, refl, refl, refl)
is_key_word key.Smaller = (refl, refl, refl, refl, refl, refl)
is_key_word key.ModSeq = (refl, refl, refl, refl, refl, refl)
is_key_word key.Uid = (refl, refl, refl, refl, refl, refl)
is_key_word key.Not = (refl, refl, refl, refl, refl, refl)
is_key_word key.Or = (refl, refl, refl, refl, refl, refl)

pub key_named : (w : SearchKeyWord) → named key_word key_words (key_word w) ≡ Some w
key_named w = (is_key_word w).0

pub key_letters : (w : SearchKeyWord) → list_all (is_in Item) (to_lower_case (key_word w)) ≡ true
key_letters w = (is_key_word w).1

pub key_some : (w : SearchKeyWord) → is_nil (to_lower_case (key_word w)) ≡ false
key_some w = (is_key_word w).2

pub key_no_digit : (w : SearchKeyWord) → begins_with_class Digit (to_lower_case (key_word w)) ≡ false
key_no_digit w = (is_key_word w).3

pub key_no_return : (w : SearchKeyWord) → bytes_eq (to_lower_case (key_word w)) (to_lower_case (codes "RETURN")) ≡ false
key_no_return w = (is_key_word w).4

pub key_no_charset : (w : SearchKeyWord) → bytes_eq (to_lower_case (key_word w)) (to_lower_case (codes "CHARSET")) ≡ false
key_no_charset w = (is_key_word w).5

sizes_reads : IsReader (spaced (number_at 9223372036854775807)) (λ value. sp ⌢ number_to 9223372036854775807 value) IsWordEnd
sizes_reads = spaced_reads (stopping (number_reads 9223372036854775807) IsWordEnd (ends_stop Digit))

texts_reads : IsReader (spaced (text_at Astring)) (λ value. sp ⌢ astring value) IsWordEnd
texts_reads = spaced_reads (text_reads Astring)

header_reads : IsReader (spaced (both (text_at Astring) (spaced (text_at Astring)))) (λ p. sp ⌢ astring p.0 ⌢ sp ⌢ astring p.1) IsWordEnd
header_reads = spaced_reads (both_reads (text_reads Astring) (spaced_reads (text_reads Astring)) (λ octets rest value f s. sp_ends (astring value) octets rest f))

keyword_reads : IsReader (spaced (run_at Atom)) (λ value. sp ⌢ run Atom value) IsWordEnd
keyword_reads = spaced_reads (run_reads Atom)

dates_reads : IsReader (spaced date_at) (λ value. sp ⌢ date value) IsWordEnd
dates_reads = spaced_reads day_reads

sets_reads : IsReader (spaced set_at) (λ value. sp ⌢ sequence_set value) IsWordEnd
sets_reads = spaced_reads set_reads

-- ---- Tests.

test_by : {A : Type 0} {read : List ℕ → Option (A × List ℕ)} {form : A → List ℕ → Type 0} (reads : IsReader read form IsWordEnd) (make : A → SearchTest) (w : SearchKeyWord)
    → ((value : A) (text : List ℕ) → (word (key_word w) ⌢ form value) text → test (make value) text) → (octets mid : List ℕ) (x : SearchTest × List ℕ) → HasPrefix (word (key_word w)) octets mid → map_read make read mid ≡ Some x → HasPrefix (test x.0) octets x.1
test_by {A} {read} {form} reads make w forward octets mid x f h =
    let a = bind_some (read mid) _ x h in
    let j = joined (word (key_word w)) (form a.0.0) octets mid a.0.1 f (reads.sound mid a.0 a.1) in
    subst (λ (y : SearchTest × List ℕ). HasPrefix (test y.0) octets y.1) (some_is (make a.0.0, a.0.1) x a.2) (j.0, forward a.0.0 j.0 j.1, j.2)

leaf_sound : (w : SearchKeyWord) (octets mid : List ℕ) (x : SearchTest × List ℕ) → HasPrefix (word (key_word w)) octets mid → leaf_at w mid ≡ Some x → HasPrefix (test x.0) octets x.1
leaf_sound key.All octets mid x f h = subst (λ (y : SearchTest × List ℕ). HasPrefix (test y.0) octets y.1) (some_is (tests.All, mid) x h) f
leaf_sound (key.System flag is_set) octets mid x f h = subst (λ (y : SearchTest × List ℕ). HasPrefix (test y.0) octets y.1) (some_is (tests.System flag is_set, mid) x h) f
leaf_sound (key.Keyword is_set) octets mid x f h = test_by keyword_reads (λ keyword. tests.Keyword keyword is_set) (key.Keyword is_set) (λ value text t. t) octets mid x f h
leaf_sound (key.Place text_part) octets mid x f h = test_by texts_reads (tests.Holds text_part) (key.Place text_part) (λ value text t. t) octets mid x f h
leaf_sound key.Header octets mid x f h = test_by header_reads (λ parts. tests.Header parts.0 parts.1) key.Header (λ value text t. t) octets mid x f h
leaf_sound (key.Dated which) octets mid x f h = test_by dates_reads (tests.Dated which) (key.Dated which) (λ value text t. t) octets mid x f h
leaf_sound key.Larger octets mid x f h = test_by sizes_reads tests.Larger key.Larger (λ value text t. t) octets mid x f h
leaf_sound key.Smaller octets mid x f h = test_by sizes_reads tests.Smaller key.Smaller (λ value text t. t) octets mid x f h
leaf_sound key.ModSeq octets mid x f h = test_by sizes_reads tests.ModSeq key.ModSeq (λ value text t. t) octets mid x f h
leaf_sound key.Uid octets mid x f h = test_by sets_reads tests.Uids key.Uid (λ value text t. t) octets mid x f h
leaf_sound key.Not octets mid x f h = absurd cc
leaf_sound key.Or octets mid x f h = absurd cc

digit_same : (b : ℕ) → is_digit (to_ascii_lowercase b) ≡ is_digit b
digit_same b = grind (arith, nat_tests)

no_digit : (token text octets rest : List ℕ) → begins_with_class Digit (to_lower_case token) ≡ false → is_nil (to_lower_case token) ≡ false → word token text → octets ≡ text ++ rest → begins_with_class Digit octets ≡ false
no_digit token [] octets rest h n w e = absurd (let k : true ≡ false = ap is_nil w ∙ n in cc)
no_digit token (b ∷ text) octets rest h n w e = ap (begins_with_class Digit) e ∙ sym (digit_same b) ∙ ap (begins_with_class Digit) w ∙ h

digit_no_paren : (b : ℕ) → is_digit b ≡ true → eqb b 40 ≡ false
digit_no_paren b h = grind (arith, nat_tests)

nz_first : (digits text octets rest : List ℕ) → run Digit digits text → octets ≡ text ++ rest → (begins_with 40 octets ≡ false) × ((begins_with_class Digit octets || begins_with 42 octets) ≡ true)
nz_first [] text octets rest r e = absurd (r.0 refl)
nz_first (b ∷ bs) text octets rest r e =
    let is : octets ≡ (b ∷ bs) ++ rest = e ∙ ap (λ xs. xs ++ rest) r.2 in
    let d : is_digit b ≡ true = (and_parts (is_digit b) (list_all (is_in Digit) bs) r.1).0 in
    (ap (begins_with 40) is ∙ digit_no_paren b d, ap (λ o. begins_with_class Digit o || begins_with 42 o) is ∙ ap (λ c. c || (eqb b 42)) d)

bound_first : (low : SequenceBound) (octets rest : List ℕ) → HasPrefix (bound low) octets rest → (begins_with 40 octets ≡ false) × ((begins_with_class Digit octets || begins_with 42 octets) ≡ true)
bound_first (Number n) octets rest f = nz_first f.1.0.0 f.0 octets rest f.1.0.1 f.2
bound_first Greatest octets rest f = let e = exactly_is (42 ∷ []) octets rest f in (ap (begins_with 40) e, ap (λ o. begins_with_class Digit o || begins_with 42 o) e)

range_first : (this : SequenceRange) (octets rest : List ℕ) → HasPrefix (range this) octets rest → (begins_with 40 octets ≡ false) × ((begins_with_class Digit octets || begins_with 42 octets) ≡ true)
range_first this octets rest f = elim f.1 [
  | inl two ↦ let p = parts_around (bound this.first) _ octets rest (f.0, two, f.2) in bound_first this.first octets p.0 p.1
  | inr one ↦ bound_first this.first octets rest (f.0, one.0, f.2)
]

pub set_first : (set : List SequenceRange) (octets rest : List ℕ) → HasPrefix (sequence_set set) octets rest → (begins_with 40 octets ≡ false) × ((begins_with_class Digit octets || begins_with 42 octets) ≡ true)
set_first [] octets rest f = absurd f.1
set_first (r ∷ rs) octets rest f = let p = parts_around (range r) _ octets rest f in range_first r octets p.0 p.1

-- ---- Keys separated by spaces are a list.

module _ (inner : List ℕ → Option (List SearchStep × List ℕ)) where
  abbrev and_front : List SearchStep → Option (List (List SearchStep) × List ℕ) → Option (List SearchStep × List ℕ)
  and_front steps m = m >>= λ o. Some (and_all steps o.0, o.1)

  abbrev put_first : List SearchStep → Option (List (List SearchStep) × List ℕ) → Option (List (List SearchStep) × List ℕ)
  put_first key m = m >>= λ o. Some (key ∷ o.0, o.1)

  abbrev all_front : Option (List (List SearchStep) × List ℕ) → Option (List SearchStep × List ℕ)
  all_front m = m >>= λ o. Some (all_of o.0, o.1)

  joined_more : (steps key : List SearchStep) (m : Option (List (List SearchStep) × List ℕ)) → and_front (steps ++ key ++ And ∷ []) m ≡ and_front steps (put_first key m)
  joined_more steps key None = refl
  joined_more steps key (Some o) = refl

  abbrev stepped : ℕ → List ℕ → Option (Option (List SearchStep × List ℕ)) → Option (List (List SearchStep) × List ℕ)
  stepped n octets r = r >>= λ next. and_more (more_at n 32 inner) octets next

  abbrev or_stepped : ℕ → List SearchStep → List ℕ → Option (Option (List SearchStep × List ℕ)) → Option (List SearchStep × List ℕ)
  or_stepped n steps octets r = r >>= λ next. or_more (more_keys_at n inner) steps octets next

  more_step : (n : ℕ) (steps : List SearchStep) (octets : List ℕ) (r : Option (Option (List SearchStep × List ℕ)))
      → ((s : List SearchStep) (o : List ℕ) → more_keys_at n inner s o ≡ and_front s (more_at n 32 inner o)) → or_stepped n steps octets r ≡ and_front steps (stepped n octets r)
  more_step n steps octets None same = refl
  more_step n steps octets (Some None) same = refl
  more_step n steps octets (Some (Some x)) same = same (steps ++ x.0 ++ And ∷ []) x.1 ∙ joined_more steps x.0 (more_at n 32 inner x.1)

  more_same : (n : ℕ) (steps : List SearchStep) (octets : List ℕ) → more_keys_at n inner steps octets ≡ and_front steps (more_at n 32 inner octets)
  more_same zero steps octets = refl
  more_same (suc n) steps octets = more_step n steps octets (next_at 32 inner octets) (λ s o. more_same n s o)

  first_more : (key : List SearchStep) (m : Option (List (List SearchStep) × List ℕ)) → and_front key m ≡ all_front (put_first key m)
  first_more key None = refl
  first_more key (Some o) = refl

  abbrev first_keys : ℕ → Option (List SearchStep × List ℕ) → Option (List SearchStep × List ℕ)
  first_keys n r = r >>= λ first. more_keys_at n inner first.0 first.1

  abbrev first_list : ℕ → Option (List SearchStep × List ℕ) → Option (List (List SearchStep) × List ℕ)
  first_list n r = r >>= λ first. more_at n 32 inner first.1 >>= λ others. Some (first.0 ∷ others.0, others.1)

  keys_first : (n : ℕ) (r : Option (List SearchStep × List ℕ)) → first_keys n r ≡ all_front (first_list n r)
  keys_first n None = refl
  keys_first n (Some x) = more_same n x.0 x.1 ∙ first_more x.0 (more_at n 32 inner x.1)

  keys_same : (octets : List ℕ) → keys_at inner octets ≡ map_read all_of (listed_at 32 inner) octets
  keys_same octets = keys_first (length octets) (inner octets)

module _ {inner : List ℕ → Option (List SearchStep × List ℕ)} {form : List SearchStep → List ℕ → Type 0} (reads : IsReader inner form IsWordEnd) where
  list_reads : IsReader (listed_at 32 inner) (listed sp form) IsArgEnd
  list_reads = listed_reads 32 reads IsArgEnd closes_no_space closes_ends (λ octets. refl)

  abbrev pub keys_form : List SearchStep → List ℕ → Type 0
  keys_form steps text = (keys : List (List SearchStep)) × listed sp form keys text × (all_of keys ≡ steps)

  pub all_reads : IsReader (keys_at inner) keys_form IsArgEnd
  all_reads =
      let m : IsReader (map_read all_of (listed_at 32 inner)) keys_form IsArgEnd = map_reads list_reads all_of keys_form (λ value text h. (value, h, refl)) (λ it text h. (h.0, h.1, h.2)) in
      record { sound = λ octets x h. m.sound octets x (sym (keys_same inner octets) ∙ h); complete = λ octets rest value f s. keys_same inner octets ∙ m.complete octets rest value f s }

  not_reads : IsReader (map_read (λ steps. steps ++ Not ∷ []) (spaced inner)) (λ steps text. (operand : List SearchStep) × (sp ⌢ form operand) text × (operand ++ Not ∷ [] ≡ steps)) IsWordEnd
  not_reads = map_reads (spaced_reads reads) (λ steps. steps ++ Not ∷ []) _ (λ value text h. (value, h, refl)) (λ it text h. (h.0, h.1, h.2))

  two_reads : IsReader (spaced (both inner (spaced inner))) (λ p. sp ⌢ form p.0 ⌢ sp ⌢ form p.1) IsWordEnd
  two_reads = spaced_reads (both_reads reads (spaced_reads reads) (λ octets rest value f s. sp_ends (form value) octets rest f))

  -- ---- What is read.

  worded_sound : (w : SearchKeyWord) (octets mid : List ℕ) (x : List SearchStep × List ℕ) → HasPrefix (word (key_word w)) octets mid → map_read (λ test. Test test ∷ []) (leaf_at w) mid ≡ Some x → HasPrefix (key_over form x.0) octets x.1
  worded_sound w octets mid x f h =
      let a = bind_some (leaf_at w mid) _ x h in
      let t = leaf_sound w octets mid a.0 f a.1 in
      subst (λ (y : List SearchStep × List ℕ). HasPrefix (key_over form y.0) octets y.1) (some_is (Test a.0.0 ∷ [], a.0.1) x a.2) (t.0, inl (a.0.0, t.1, refl), t.2)

  not_sound : (octets mid : List ℕ) (x : List SearchStep × List ℕ) → HasPrefix (word (key_word key.Not)) octets mid → worded_at inner key.Not mid ≡ Some x → HasPrefix (key_over form x.0) octets x.1
  not_sound octets mid x f h =
      let a = bind_some (spaced inner mid) _ x h in
      let j = joined (word (key_word key.Not)) (sp ⌢ form a.0.0) octets mid a.0.1 f ((spaced_reads reads).sound mid a.0 a.1) in
      subst (λ (y : List SearchStep × List ℕ). HasPrefix (key_over form y.0) octets y.1) (some_is (a.0.0 ++ Not ∷ [], a.0.1) x a.2) (j.0, inr (inl (a.0.0, j.1, refl)), j.2)

  or_sound : (octets mid : List ℕ) (x : List SearchStep × List ℕ) → HasPrefix (word (key_word key.Or)) octets mid → worded_at inner key.Or mid ≡ Some x → HasPrefix (key_over form x.0) octets x.1
  or_sound octets mid x f h =
      let a = bind_some (spaced (both inner (spaced inner)) mid) _ x h in
      let j = joined (word (key_word key.Or)) (sp ⌢ form a.0.0.0 ⌢ sp ⌢ form a.0.0.1) octets mid a.0.1 f (two_reads.sound mid a.0 a.1) in
      subst (λ (y : List SearchStep × List ℕ). HasPrefix (key_over form y.0) octets y.1) (some_is (a.0.0.0 ++ a.0.0.1 ++ Or ∷ [], a.0.1) x a.2) (j.0, inr (inr (inl (a.0.0.0, a.0.0.1, j.1, refl))), j.2)

  any_sound : (w : SearchKeyWord) (octets mid : List ℕ) (x : List SearchStep × List ℕ) → HasPrefix (word (key_word w)) octets mid → worded_at inner w mid ≡ Some x → HasPrefix (key_over form x.0) octets x.1
  any_sound key.Not octets mid x f h = not_sound octets mid x f h
  any_sound key.Or octets mid x f h = or_sound octets mid x f h
  any_sound key.All octets mid x f h = worded_sound key.All octets mid x f h
  any_sound (key.System flag is_set) octets mid x f h = worded_sound (key.System flag is_set) octets mid x f h
  any_sound (key.Keyword is_set) octets mid x f h = worded_sound (key.Keyword is_set) octets mid x f h
  any_sound (key.Place text_part) octets mid x f h = worded_sound (key.Place text_part) octets mid x f h
  any_sound key.Header octets mid x f h = worded_sound key.Header octets mid x f h
  any_sound (key.Dated which) octets mid x f h = worded_sound (key.Dated which) octets mid x f h
  any_sound key.Larger octets mid x f h = worded_sound key.Larger octets mid x f h
  any_sound key.Smaller octets mid x f h = worded_sound key.Smaller octets mid x f h
  any_sound key.ModSeq octets mid x f h = worded_sound key.ModSeq octets mid x f h
  any_sound key.Uid octets mid x f h = worded_sound key.Uid octets mid x f h

  level_sound : (octets : List ℕ) (x : List SearchStep × List ℕ) → level_at inner octets ≡ Some x → HasPrefix (key_over form x.0) octets x.1
  level_sound [] x h = cc
  level_sound (b ∷ bs) x h =
      elim (chosen (eqb b 40) (before (keys_at inner) (after (41 ∷ [])) bs) (cond (is_in Digit b || (eqb b 42)) (numbers_at (b ∷ bs)) (named_at key_word key_words (b ∷ bs) >>= λ parsed. worded_at inner parsed.0 parsed.1)) (Some x) h) [
        | inl t ↦
            let a = bind_some (listed_at 32 inner bs >>= λ o. Some (all_of o.0, o.1)) _ x (ap (λ r. r >>= λ first. after (41 ∷ []) first.1 >>= λ rest. Some (first.0, rest)) (sym (keys_same inner bs)) ∙ t.1) in
            let l = bind_some (listed_at 32 inner bs) _ a.0 a.1 in
            let c = bind_some (after (41 ∷ []) a.0.1) _ x a.2 in
            let e : (all_of l.0.0, l.0.1) ≡ a.0 = some_is (all_of l.0.0, l.0.1) a.0 l.2 in
            let close : HasPrefix (exactly (41 ∷ [])) l.0.1 c.0 = subst (λ (y : List SearchStep × List ℕ). HasPrefix (exactly (41 ∷ [])) y.1 c.0) (sym e) (after_sound (41 ∷ []) a.0.1 c.0 c.1) in
            let j = joined (exactly (40 ∷ [])) _ (b ∷ bs) bs c.0 (40 ∷ [], refl, ap (λ c. c ∷ bs) (eqb-true b 40 t.0)) (joined (listed sp form l.0.0) (exactly (41 ∷ [])) bs l.0.1 c.0 (list_reads.sound bs l.0 l.1) close) in
            subst (λ (y : List SearchStep × List ℕ). HasPrefix (key_over form y.0) (b ∷ bs) y.1) (some_is (a.0.0, c.0) x c.2) (j.0, inr (inr (inr (l.0.0, j.1, ap (λ (y : List SearchStep × List ℕ). y.0) e))), j.2)
        | inr n ↦ elim (chosen (is_in Digit b || (eqb b 42)) (numbers_at (b ∷ bs)) (named_at key_word key_words (b ∷ bs) >>= λ parsed. worded_at inner parsed.0 parsed.1) (Some x) n.1) [
          | inl t ↦
              let a = bind_some (set_at (b ∷ bs)) _ x t.1 in
              let f = set_reads.sound (b ∷ bs) a.0 a.1 in
              subst (λ (y : List SearchStep × List ℕ). HasPrefix (key_over form y.0) (b ∷ bs) y.1) (some_is (Test (tests.Numbers a.0.0) ∷ [], a.0.1) x a.2) (f.0, inl (tests.Numbers a.0.0, f.1, refl), f.2)
          | inr m ↦
              let a = bind_some (named_at key_word key_words (b ∷ bs)) _ x m.1 in
              any_sound a.0.0 (b ∷ bs) a.0.1 x (named_at_sound key_word key_words (b ∷ bs) a.0 a.1) a.2
        ]
      ]

  -- ---- What is spelled.

  abbrev wrap : Option (SearchTest × List ℕ) → Option (List SearchStep × List ℕ)
  wrap r = r >>= λ first. Some (Test first.0 ∷ [], first.1)

  abbrev by_word : List ℕ → Option (List SearchStep × List ℕ)
  by_word octets = named_at key_word key_words octets >>= λ parsed. worded_at inner parsed.0 parsed.1

  no_forms : (octets : List ℕ) → begins_with 40 octets ≡ false → begins_with_class Digit octets ≡ false → begins_with 42 octets ≡ false → level_at inner octets ≡ by_word octets
  no_forms [] h i j = refl
  no_forms (b ∷ bs) h i j =
      ap (λ c. cond c (before (keys_at inner) (after (41 ∷ [])) bs) (cond (is_in Digit b || (eqb b 42)) (numbers_at (b ∷ bs)) (by_word (b ∷ bs)))) h
      ∙ ap (λ c. cond (c || (eqb b 42)) (numbers_at (b ∷ bs)) (by_word (b ∷ bs))) i
      ∙ ap (λ c. cond c (numbers_at (b ∷ bs)) (by_word (b ∷ bs))) j

  word_level : (w : SearchKeyWord) (octets mid : List ℕ) → HasPrefix (word (key_word w)) octets mid → NoItem mid → level_at inner octets ≡ worded_at inner w mid
  word_level w octets mid f s =
      no_forms octets (word_first (key_word w) octets mid 40 (key_letters w) (key_some w) refl f) (no_digit (key_word w) f.0 octets mid (key_no_digit w) (key_some w) f.1 f.2) (word_first (key_word w) octets mid 42 (key_letters w) (key_some w) refl f)
      ∙ ap (λ r. r >>= λ parsed. worded_at inner parsed.0 parsed.1) (named_at_complete key_word key_words w octets mid (key_named w) (key_letters w) f s)

  digits_level : (octets : List ℕ) → begins_with 40 octets ≡ false → (begins_with_class Digit octets || begins_with 42 octets) ≡ true → level_at inner octets ≡ numbers_at octets
  digits_level [] h i = cc
  digits_level (b ∷ bs) h i =
      ap (λ c. cond c (before (keys_at inner) (after (41 ∷ [])) bs) (cond (is_in Digit b || (eqb b 42)) (numbers_at (b ∷ bs)) (by_word (b ∷ bs)))) h
      ∙ ap (λ c. cond c (numbers_at (b ∷ bs)) (by_word (b ∷ bs))) i

  test_from : {A : Type 0} {read : List ℕ → Option (A × List ℕ)} {part : A → List ℕ → Type 0} (parts : IsReader read part IsWordEnd) (make : A → SearchTest) (w : SearchKeyWord) → ((o : List ℕ) → worded_at inner w o ≡ wrap (map_read make read o))
      → ((value : A) (o rest : List ℕ) → HasPrefix (part value) o rest → IsWordEnd o) → (value : A) (octets rest : List ℕ) → HasPrefix (word (key_word w) ⌢ part value) octets rest → IsWordEnd rest → level_at inner octets ≡ Some (Test (make value) ∷ [], rest)
  test_from {A} {read} {part} parts make w same ends value octets rest f s =
      let p = parts_around (word (key_word w)) (part value) octets rest f in
      word_level w octets p.0 p.1 (ends_item p.0 (ends value p.0 rest p.2)) ∙ same p.0 ∙ ap (λ r. wrap (r >>= λ first. Some (make first.0, first.1))) (parts.complete p.0 rest value p.2 s)

  test_complete : (t : SearchTest) (octets rest : List ℕ) → HasPrefix (test t) octets rest → IsWordEnd rest → level_at inner octets ≡ Some (Test t ∷ [], rest)
  test_complete tests.All octets rest f s = word_level key.All octets rest f (ends_item rest s)
  test_complete (tests.System flag is_set) octets rest f s = word_level (key.System flag is_set) octets rest f (ends_item rest s)
  test_complete (tests.Keyword keyword is_set) octets rest f s = test_from keyword_reads (λ keyword. tests.Keyword keyword is_set) (key.Keyword is_set) (λ o. refl) (λ value o rest f. sp_ends (run Atom value) o rest f) keyword octets rest f s
  test_complete (tests.Holds text_part text) octets rest f s = test_from texts_reads (tests.Holds text_part) (key.Place text_part) (λ o. refl) (λ value o rest f. sp_ends (astring value) o rest f) text octets rest f s
  test_complete (tests.Header name text) octets rest f s = test_from header_reads (λ parts. tests.Header parts.0 parts.1) key.Header (λ o. refl) (λ value o rest f. sp_ends _ o rest f) (name, text) octets rest f s
  test_complete (tests.Dated which day) octets rest f s = test_from dates_reads (tests.Dated which) (key.Dated which) (λ o. refl) (λ value o rest f. sp_ends (date value) o rest f) day octets rest f s
  test_complete (tests.Larger size) octets rest f s = test_from sizes_reads tests.Larger key.Larger (λ o. refl) (λ value o rest f. sp_ends _ o rest f) size octets rest f s
  test_complete (tests.Smaller size) octets rest f s = test_from sizes_reads tests.Smaller key.Smaller (λ o. refl) (λ value o rest f. sp_ends _ o rest f) size octets rest f s
  test_complete (tests.ModSeq value) octets rest f s = test_from sizes_reads tests.ModSeq key.ModSeq (λ o. refl) (λ value o rest f. sp_ends _ o rest f) value octets rest f s
  test_complete (tests.Uids uids) octets rest f s = test_from sets_reads tests.Uids key.Uid (λ o. refl) (λ value o rest f. sp_ends (sequence_set value) o rest f) uids octets rest f s
  test_complete (tests.Numbers numbers) octets rest f s =
      let n = set_first numbers octets rest f in
      digits_level octets n.0 n.1 ∙ ap (λ r. r >>= λ first. Some (Test (tests.Numbers first.0) ∷ [], first.1)) (set_reads.complete octets rest numbers f s)

  not_complete : (operand : List SearchStep) (octets rest : List ℕ) → HasPrefix (word (key_word key.Not) ⌢ sp ⌢ form operand) octets rest → IsWordEnd rest → level_at inner octets ≡ Some (operand ++ Not ∷ [], rest)
  not_complete operand octets rest f s =
      let p = parts_around (word (key_word key.Not)) (sp ⌢ form operand) octets rest f in
      word_level key.Not octets p.0 p.1 (ends_item p.0 (sp_ends (form operand) p.0 rest p.2)) ∙ ap (λ r. r >>= λ first. Some (first.0 ++ Not ∷ [], first.1)) ((spaced_reads reads).complete p.0 rest operand p.2 s)

  or_complete : (this that : List SearchStep) (octets rest : List ℕ) → HasPrefix (word (key_word key.Or) ⌢ sp ⌢ form this ⌢ sp ⌢ form that) octets rest → IsWordEnd rest → level_at inner octets ≡ Some (this ++ that ++ Or ∷ [], rest)
  or_complete this that octets rest f s =
      let p = parts_around (word (key_word key.Or)) (sp ⌢ form this ⌢ sp ⌢ form that) octets rest f in
      word_level key.Or octets p.0 p.1 (ends_item p.0 (sp_ends _ p.0 rest p.2)) ∙ ap (λ r. r >>= λ first. Some (first.0.0 ++ first.0.1 ++ Or ∷ [], first.1)) (two_reads.complete p.0 rest (this, that) p.2 s)

  group_complete : (keys : List (List SearchStep)) (octets rest : List ℕ) → HasPrefix (in_parens (listed sp form keys)) octets rest → level_at inner octets ≡ Some (all_of keys, rest)
  group_complete keys octets rest f =
      let p = parts_around (exactly (40 ∷ [])) _ octets rest f in
      let q = parts_around (listed sp form keys) (exactly (41 ∷ [])) p.0 rest p.2 in
      let close : q.0 ≡ 41 ∷ rest = exactly_is (41 ∷ []) q.0 rest q.2 in
      let list : listed_at 32 inner p.0 ≡ Some (keys, q.0) = list_reads.complete p.0 q.0 keys q.1 (subst IsArgEnd (sym close) refl) in
      ap (level_at inner) (exactly_is (40 ∷ []) octets p.0 p.1)
      ∙ ap (λ r. r >>= λ first. after (41 ∷ []) first.1 >>= λ rest. Some (first.0, rest)) (keys_same inner p.0 ∙ ap (λ r. r >>= λ o. Some (all_of o.0, o.1)) list)
      ∙ ap (λ o. after (41 ∷ []) o >>= λ rest. Some (all_of keys, rest)) close

  level_complete : (steps : List SearchStep) (octets rest : List ℕ) → HasPrefix (key_over form steps) octets rest → IsWordEnd rest → level_at inner octets ≡ Some (steps, rest)
  level_complete steps octets rest f s = elim f.1 [
    | inl t ↦ test_complete t.0 octets rest (f.0, t.1, f.2) s ∙ ap (λ v. Some (v, rest)) t.2
    | inr a ↦ elim a [
      | inl n ↦ not_complete n.0 octets rest (f.0, n.1, f.2) s ∙ ap (λ v. Some (v, rest)) n.2
      | inr b ↦ elim b [
        | inl o ↦ or_complete o.0 o.1 octets rest (f.0, o.2, f.2) s ∙ ap (λ v. Some (v, rest)) o.3
        | inr g ↦ group_complete g.0 octets rest (f.0, g.1, f.2) ∙ ap (λ v. Some (v, rest)) g.2
      ]
    ]
  ]

  pub level_reads : IsReader (level_at inner) (key_over form) IsWordEnd
  level_reads = record { sound = level_sound; complete = λ octets rest value f s. level_complete value octets rest f s }

none_reads : IsReader (below_at 0) (λ steps. never) IsWordEnd
unfolding below_at
none_reads = record { sound = λ octets x h. absurd cc; complete = λ octets rest value f s. absurd f.1 }

pub within_reads : (n : ℕ) → IsReader (below_at (suc n)) (key_within n) IsWordEnd
unfolding below_at key_within
within_reads zero = level_reads none_reads
within_reads (suc n) = level_reads (within_reads n)
