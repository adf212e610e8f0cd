-- The arguments of SEARCH.
use Rattle.std.proofs.Common.{zero, suc, ◌≡◌, ◌⊎◌, ℕ, Bool, true, false, cond, ◌&&◌, ◌||◌, codes, List, [], ◌∷◌, Some, None, ap, sym, ◌∙◌, refl, subst, arith, eqb, inl, inr}
use Rattle.std.proofs.lemmas.Bool.{cases_Bool}
use Rattle.std.proofs.lemmas.Bool.Decides.{nat_tests}
use Rattle.std.proofs.lemmas.Slice.Eq.{bytes_eq-Decides}
use Rattle.std.specs.Char.{to_ascii_lowercase}
use Rattle.std.specs.List.{list_all}
use Rattle.std.specs.Str.{bytes_eq}
use Rattle.imap_types.specs.Keywords.{to_lower_case}
use Rattle.imap_syntax.specs.Faults.{begins_with_class}
use Rattle.imap_grammar.specs.KeyReading.{below_at, charset_at, charset_name_at, is_charset, keys_at, maybe_options_at, returned_at, returned_group_at, search_parts_at}
use Rattle.imap_syntax.specs.KeyWords.{key_word, option_word, search_options}
use Rattle.imap_syntax.proofs.KeyLemmas.{search-key}
use Rattle.imap_syntax.specs.SearchKeys.{IsKey}
use Rattle.imap_syntax.specs.Keys.{charset, key_over, key_within, return_options, search_keys, search_option, test}
use Rattle.imap_syntax.specs.Languages.{◌⌢◌, exactly, sp, word, in_parens, listed, each_after, maybe_listed}
use Rattle.imap_grammar.specs.Reading.{after, is_nil, listed_at, named, named_at, parens_at, spaced, span, text_at, ◌>>=◌}
use Rattle.imap_syntax.specs.Strings.{astring, begins_with, is_in}
use Rattle.imap_syntax.specs.declared.octet_class.OctetClass.TheVariants.{Astring, Digit, Item}
use Rattle.imap_syntax.specs.declared.search.SearchKeyWord.{SearchKeyWord}
use Rattle.imap_syntax.specs.declared.search.SearchKeyWord.TheVariants as key
use Rattle.imap_syntax.specs.declared.search.SearchOption.{SearchOption}
use Rattle.imap_syntax.specs.declared.search.SearchOption.TheVariants as option
use Rattle.imap_syntax.specs.declared.search.SearchStep.{SearchStep}
use Rattle.imap_syntax.specs.declared.search.SearchTest.{SearchTest}
use Rattle.imap_syntax.specs.declared.search.SearchTest.TheVariants as tests
use Rattle.imap_grammar.proofs.ReaderLaws.{IsArgEnd, IsWordEnd, HasPrefix, IsReader, BeginsWithClosingParen, after_complete, after_sound, bind_some, both_reads, chosen, closes_ends, closes_no_space, enclosed_reads, exactly_is, joined, parts_around, closing_paren_closes, some_is, sp_ends, spaced_reads, stopping}
use Rattle.imap_grammar.proofs.KeyLaws.{all_reads, key_letters, key_no_charset, key_no_return, set_first, within_reads}
use Rattle.imap_grammar.proofs.Lists.{listed_reads}
use Rattle.imap_grammar.proofs.Spans.{span_parts}
use Rattle.imap_grammar.proofs.Texts.{text_reads}
use Rattle.imap_grammar.proofs.WordLaws.{NoItem, ends_item, item_span, table_reads, word_first}

-- ---- Options.

option_named : (w : SearchOption) → named option_word search_options (option_word w) ≡ Some w
option_named option.Min = refl
option_named option.Max = refl
option_named option.All = refl
option_named option.Count = refl

option_letters : (w : SearchOption) → list_all (is_in Item) (to_lower_case (option_word w)) ≡ true
option_letters option.Min = refl
option_letters option.Max = refl
option_letters option.All = refl
option_letters option.Count = refl

option_some : (w : SearchOption) → is_nil (to_lower_case (option_word w)) ≡ false
option_some option.Min = refl
option_some option.Max = refl
option_some option.All = refl
option_some option.Count = refl

options_reads : IsReader (listed_at 32 (named_at option_word search_options)) (listed sp search_option) IsArgEnd
options_reads = listed_reads 32 (stopping (table_reads option_word search_options option_named option_letters) IsWordEnd ends_item) IsArgEnd closes_no_space closes_ends (λ octets. refl)

maybe_from : (values : List SearchOption) (octets rest : List ℕ) → HasPrefix (listed sp search_option values) octets rest → HasPrefix (maybe_listed sp search_option values) octets rest
maybe_from [] octets rest f = absurd f.1
maybe_from (v ∷ vs) octets rest f = f

maybe_sound : (octets : List ℕ) (x : List SearchOption × List ℕ) → maybe_options_at octets ≡ Some x → HasPrefix (maybe_listed sp search_option x.0) octets x.1
maybe_sound [] x h = cc
maybe_sound (b ∷ bs) x h =
    elim (chosen (eqb b 41) (Some ([], b ∷ bs)) (listed_at 32 (named_at option_word search_options) (b ∷ bs)) (Some x) h) [
      | inl t ↦ subst (λ (y : List SearchOption × List ℕ). HasPrefix (maybe_listed sp search_option y.0) (b ∷ bs) y.1) (some_is ([], b ∷ bs) x t.1) ([], refl, refl)
      | inr n ↦ maybe_from x.0 (b ∷ bs) x.1 (options_reads.sound (b ∷ bs) x n.1)
    ]

shut_none : (rest : List ℕ) → begins_with 41 rest ≡ true → maybe_options_at rest ≡ Some ([], rest)
shut_none [] h = cc
shut_none (b ∷ bs) h = ap (λ c. cond c (Some ([], b ∷ bs)) (listed_at 32 (named_at option_word search_options) (b ∷ bs))) h

shut_some : (octets : List ℕ) → begins_with 41 octets ≡ false → maybe_options_at octets ≡ listed_at 32 (named_at option_word search_options) octets
shut_some [] h = refl
shut_some (b ∷ bs) h = ap (λ c. cond c (Some ([], b ∷ bs)) (listed_at 32 (named_at option_word search_options) (b ∷ bs))) h

maybe_complete : (values : List SearchOption) (octets rest : List ℕ) → HasPrefix (maybe_listed sp search_option values) octets rest → BeginsWithClosingParen rest → maybe_options_at octets ≡ Some (values, rest)
maybe_complete [] octets rest f s = ap maybe_options_at (exactly_is [] octets rest f) ∙ shut_none rest s
maybe_complete (v ∷ vs) octets rest f s =
    let p = parts_around (search_option v) _ octets rest f in
    shut_some octets (word_first (option_word v) octets p.0 41 (option_letters v) (option_some v) refl p.1) ∙ options_reads.complete octets rest (v ∷ vs) f (closing_paren_closes rest s)

group_reads : (end : List ℕ → Type 0) → IsReader (spaced (parens_at maybe_options_at)) (λ values. sp ⌢ in_parens (maybe_listed sp search_option values)) end
group_reads end = spaced_reads (enclosed_reads 40 41 (record { sound = maybe_sound; complete = λ octets rest values f s. maybe_complete values octets rest f s }) end)

-- ---- Words other than the one looked for.

abbrev Other : List ℕ → List ℕ → Type 0
Other token octets = bytes_eq (to_lower_case (span (is_in Item) octets).0) (to_lower_case token) ≡ false

word_other : (token own octets mid : List ℕ) → list_all (is_in Item) (to_lower_case own) ≡ true → bytes_eq (to_lower_case own) (to_lower_case token) ≡ false → HasPrefix (word own) octets mid → NoItem mid → Other token octets
word_other token own octets mid h o f s =
    ap (λ (y : List ℕ × List ℕ). bytes_eq (to_lower_case y.0) (to_lower_case token)) (item_span own octets mid h f s) ∙ ap (λ t. bytes_eq t (to_lower_case token)) f.1 ∙ o

module _ (token : List ℕ) (others : (w : SearchKeyWord) → bytes_eq (to_lower_case (key_word w)) (to_lower_case token) ≡ false) (empty : bytes_eq [] (to_lower_case token) ≡ false)
    (digits : (b : ℕ) (bs : List ℕ) → (is_in Digit b || (eqb b 42)) ≡ true → bytes_eq (to_lower_case (b ∷ bs)) (to_lower_case token) ≡ false) where
  plain_other : (w : SearchKeyWord) (octets rest : List ℕ) → HasPrefix (word (key_word w)) octets rest → IsWordEnd rest → Other token octets
  plain_other w octets rest f s = word_other token (key_word w) octets rest (key_letters w) (others w) f (ends_item rest s)

  part_other : (w : SearchKeyWord) (Q : List ℕ → Type 0) (octets rest : List ℕ) → HasPrefix (word (key_word w) ⌢ sp ⌢ Q) octets rest → Other token octets
  part_other w Q octets rest f =
      let p = parts_around (word (key_word w)) (sp ⌢ Q) octets rest f in
      plain_other w octets p.0 p.1 (sp_ends Q p.0 rest p.2)

  digits_other : (octets : List ℕ) → (begins_with_class Digit octets || begins_with 42 octets) ≡ true → Other token octets
  digits_other [] h = cc
  digits_other (b ∷ bs) h = elim (cases_Bool (is_in Item b)) [
    | inl t ↦ rw t (digits b (span (is_in Item) bs).0 h)
    | inr f ↦ rw f empty
  ]

  test_other : (t : SearchTest) (octets rest : List ℕ) → HasPrefix (test t) octets rest → IsWordEnd rest → Other token octets
  test_other tests.All octets rest f s = plain_other key.All octets rest f s
  test_other (tests.System flag is_set) octets rest f s = plain_other (key.System flag is_set) octets rest f s
  test_other (tests.Keyword keyword is_set) octets rest f s = part_other (key.Keyword is_set) _ octets rest f
  test_other (tests.Holds place text) octets rest f s = part_other (key.Place place) _ octets rest f
  test_other (tests.Header name text) octets rest f s = part_other key.Header _ octets rest f
  test_other (tests.Dated order day) octets rest f s = part_other (key.Dated order) _ octets rest f
  test_other (tests.Larger size) octets rest f s = part_other key.Larger _ octets rest f
  test_other (tests.Smaller size) octets rest f s = part_other key.Smaller _ octets rest f
  test_other (tests.ModSeq value) octets rest f s = part_other key.ModSeq _ octets rest f
  test_other (tests.Uids uids) octets rest f s = part_other key.Uid _ octets rest f
  test_other (tests.Numbers numbers) octets rest f s = digits_other octets (set_first numbers octets rest f).1

  key_other : (inner : List SearchStep → List ℕ → Type 0) (steps : List SearchStep) (octets rest : List ℕ) → HasPrefix (key_over inner steps) octets rest → IsWordEnd rest → Other token octets
  key_other inner steps octets rest f s = elim f.1 [
    | inl t ↦ test_other t.0 octets rest (f.0, t.1, f.2) s
    | inr a ↦ elim a [
      | inl n ↦ part_other key.Not _ octets rest (f.0, n.1, f.2)
      | inr b ↦ elim b [
        | inl o ↦ part_other key.Or _ octets rest (f.0, o.2, f.2)
        | inr g ↦
            let p = parts_around (exactly (40 ∷ [])) _ octets rest (f.0, g.1, f.2) in
            ap (λ o. bytes_eq (to_lower_case (span (is_in Item) o).0) (to_lower_case token)) (exactly_is (40 ∷ []) octets p.0 p.1) ∙ empty
      ]
    ]
  ]

  within_other : (n : ℕ) (steps : List SearchStep) (octets rest : List ℕ) → HasPrefix (key_within n steps) octets rest → IsWordEnd rest → Other token octets
  unfolding key_within
  within_other zero steps octets rest f s = key_other _ steps octets rest f s
  within_other (suc n) steps octets rest f s = key_other _ steps octets rest f s

  tail_ends : (n : ℕ) (keys : List (List SearchStep)) (octets rest : List ℕ) → HasPrefix (each_after sp (key_within n) keys) octets rest → IsArgEnd rest → IsWordEnd octets
  tail_ends n [] octets rest f s = subst IsWordEnd (sym (exactly_is [] octets rest f)) (closes_ends rest s)
  tail_ends n (k ∷ ks) octets rest f s = sp_ends _ octets rest f

  list_other : (n : ℕ) (keys : List (List SearchStep)) (octets rest : List ℕ) → HasPrefix (listed sp (key_within n) keys) octets rest → IsArgEnd rest → Other token octets
  list_other n [] octets rest f s = absurd f.1
  list_other n (k ∷ ks) octets rest f s =
      let p = parts_around (key_within n k) _ octets rest f in
      within_other n k octets p.0 p.1 (tail_ends n ks p.0 rest p.2 s)

  keys_other : (steps : List SearchStep) (octets rest : List ℕ) → HasPrefix (search_keys steps) octets rest → IsArgEnd rest → Other token octets
  keys_other steps octets rest f s = list_other 64 f.1.0 octets rest (f.0, f.1.1, f.2) s

no_r : (b : ℕ) → (is_in Digit b || (eqb b 42)) ≡ true → eqb (to_ascii_lowercase b) 114 ≡ false
no_r b h = grind (arith, nat_tests)

no_c : (b : ℕ) → (is_in Digit b || (eqb b 42)) ≡ true → eqb (to_ascii_lowercase b) 99 ≡ false
no_c b h = grind (arith, nat_tests)

keys_no_return : (steps : List SearchStep) (octets rest : List ℕ) → HasPrefix (search_keys steps) octets rest → IsArgEnd rest → Other (codes "RETURN") octets
keys_no_return = keys_other (codes "RETURN") key_no_return refl (λ b bs h. ap (λ c. c && bytes_eq (to_lower_case bs) (codes "eturn")) (no_r b h))

keys_no_charset : (steps : List SearchStep) (octets rest : List ℕ) → HasPrefix (search_keys steps) octets rest → IsArgEnd rest → Other (codes "CHARSET") octets
keys_no_charset = keys_other (codes "CHARSET") key_no_charset refl (λ b bs h. ap (λ c. c && bytes_eq (to_lower_case bs) (codes "harset")) (no_c b h))

-- ---- RETURN.

returned_sound : (octets : List ℕ) (x : List SearchOption × List ℕ) → returned_at octets ≡ Some x → HasPrefix (return_options x.0) octets x.1
returned_sound octets x h =
    let cut = span (is_in Item) octets in
    elim (chosen (bytes_eq (to_lower_case cut.0) (to_lower_case (codes "RETURN"))) (returned_group_at cut.1) (Some ([], octets)) (Some x) h) [
      | inl t ↦
          let a = bind_some (spaced (parens_at maybe_options_at) cut.1) _ x t.1 in
          let s = bind_some (after (32 ∷ []) a.0.1) _ x a.2 in
          let e = some_is (a.0.0, s.0) x s.2 in
          let front : HasPrefix (word (codes "RETURN")) octets cut.1 = (cut.0, (bytes_eq-Decides _ _).0 t.0, span_parts (is_in Item) octets) in
          let g = (group_reads (λ r. Unit {0})).sound cut.1 a.0 a.1 in
          let p = parts_around sp (in_parens (maybe_listed sp search_option a.0.0)) cut.1 a.0.1 g in
          let j = joined (word (codes "RETURN")) _ octets cut.1 s.0 front
          (joined sp _ cut.1 p.0 s.0 p.1 (joined (in_parens (maybe_listed sp search_option a.0.0)) sp p.0 a.0.1 s.0 p.2 (after_sound (32 ∷ []) a.0.1 s.0 s.1))) in
          subst (λ (y : List SearchOption × List ℕ). HasPrefix (return_options y.0) octets y.1) e (j.0, inr j.1, j.2)
      | inr n ↦ subst (λ (y : List SearchOption × List ℕ). HasPrefix (return_options y.0) octets y.1) (some_is ([], octets) x n.1) ([], inl (refl, refl), refl)
    ]

returned_complete : (values : List SearchOption) (octets rest : List ℕ) → HasPrefix (return_options values) octets rest → Other (codes "RETURN") rest → returned_at octets ≡ Some (values, rest)
returned_complete values octets rest f s = elim f.1 [
  | inl e ↦
      ap returned_at (exactly_is [] octets rest (f.0, e.0, f.2))
      ∙ ap (λ c. cond c (returned_group_at (span (is_in Item) rest).1) (Some ([], rest))) s ∙ ap (λ v. Some (v, rest)) e.1
  | inr r ↦
      let p = parts_around (word (codes "RETURN")) _ octets rest (f.0, r, f.2) in
      let q = parts_around sp _ p.0 rest p.2 in
      let t = parts_around (in_parens (maybe_listed sp search_option values)) sp q.0 rest q.2 in
      let group = joined sp (in_parens (maybe_listed sp search_option values)) p.0 q.0 t.0 q.1 t.1 in
      let cut : span (is_in Item) octets ≡ (p.1.0, p.0) = item_span (codes "RETURN") octets p.0 refl p.1 (ends_item p.0 (sp_ends _ p.0 rest p.2)) in
      ap (λ (y : List ℕ × List ℕ). cond (bytes_eq (to_lower_case y.0) (to_lower_case (codes "RETURN"))) (returned_group_at y.1) (Some ([], octets))) cut
      ∙ ap (λ c. cond c (returned_group_at p.0) (Some ([], octets))) ((bytes_eq-Decides _ _).1 p.1.1)
      ∙ ap (λ r. r >>= λ first. after (32 ∷ []) first.1 >>= λ rest. Some (first.0, rest)) ((group_reads (λ r. Unit {0})).complete p.0 t.0 values group tt)
      ∙ ap (λ r. r >>= λ rest. Some (values, rest)) (after_complete (32 ∷ []) t.0 rest t.2)
]

returned_reads : IsReader returned_at return_options (Other (codes "RETURN"))
returned_reads = record { sound = returned_sound; complete = λ octets rest values f s. returned_complete values octets rest f s }

-- ---- CHARSET.

known_from : (name : List ℕ) → is_charset name ≡ true → word (codes "UTF-8") name ⊎ word (codes "US-ASCII") name
known_from name h = elim (cases_Bool (bytes_eq (to_lower_case name) (to_lower_case (codes "UTF-8")))) [
  | inl t ↦ inl ((bytes_eq-Decides _ _).0 t)
  | inr f ↦ inr ((bytes_eq-Decides _ _).0 (sym (ap (λ c. c || bytes_eq (to_lower_case name) (to_lower_case (codes "US-ASCII"))) f) ∙ h))
]

or_right : (a : Bool) → (a || true) ≡ true
or_right true = refl
or_right false = refl

known_to : (name : List ℕ) → word (codes "UTF-8") name ⊎ word (codes "US-ASCII") name → is_charset name ≡ true
known_to name h = elim h [
  | inl u ↦ ap (λ c. c || bytes_eq (to_lower_case name) (to_lower_case (codes "US-ASCII"))) ((bytes_eq-Decides _ _).1 u)
  | inr a ↦ ap (λ c. bytes_eq (to_lower_case name) (to_lower_case (codes "UTF-8")) || c) ((bytes_eq-Decides _ _).1 a) ∙ or_right _
]

charset_sound : (octets rest : List ℕ) → charset_at octets ≡ Some rest → HasPrefix charset octets rest
charset_sound octets rest h =
    let cut = span (is_in Item) octets in
    elim (chosen (bytes_eq (to_lower_case cut.0) (to_lower_case (codes "CHARSET"))) (charset_name_at cut.1) (Some octets) (Some rest) h) [
      | inl t ↦
          let n = bind_some (spaced (text_at Astring) cut.1) _ rest t.1 in
          elim (chosen (is_charset n.0.0) (after (32 ∷ []) n.0.1) None (Some rest) n.2) [
            | inl k ↦
                let front : HasPrefix (word (codes "CHARSET")) octets cut.1 = (cut.0, (bytes_eq-Decides _ _).0 t.0, span_parts (is_in Item) octets) in
                let g = (spaced_reads (text_reads Astring)).sound cut.1 n.0 n.1 in
                let p = parts_around sp (astring n.0.0) cut.1 n.0.1 g in
                let last : HasPrefix sp n.0.1 rest = after_sound (32 ∷ []) n.0.1 rest k.1 in
                let j = joined (word (codes "CHARSET")) _ octets cut.1 rest front (joined sp _ cut.1 p.0 rest p.1 (joined (astring n.0.0) sp p.0 n.0.1 rest p.2 last)) in
                (j.0, inr (n.0.0, j.1, known_from n.0.0 k.0), j.2)
            | inr k ↦ absurd cc
          ]
      | inr n ↦ ([], inl refl, some_is octets rest n.1)
    ]

charset_complete : (octets rest : List ℕ) → HasPrefix charset octets rest → Other (codes "CHARSET") rest → charset_at octets ≡ Some rest
charset_complete octets rest f s = elim f.1 [
  | inl e ↦ ap charset_at (exactly_is [] octets rest (f.0, e, f.2)) ∙ ap (λ c. cond c (charset_name_at (span (is_in Item) rest).1) (Some rest)) s
  | inr r ↦
      let name : List ℕ = r.0 in
      let p = parts_around (word (codes "CHARSET")) _ octets rest (f.0, r.1, f.2) in
      let q = parts_around sp _ p.0 rest p.2 in
      let t = parts_around (astring name) sp q.0 rest q.2 in
      let named_text = joined sp (astring name) p.0 q.0 t.0 q.1 t.1 in
      let space : t.0 ≡ 32 ∷ rest = exactly_is (32 ∷ []) t.0 rest t.2 in
      let cut : span (is_in Item) octets ≡ (p.1.0, p.0) = item_span (codes "CHARSET") octets p.0 refl p.1 (ends_item p.0 (sp_ends _ p.0 rest p.2)) in
      ap (λ (y : List ℕ × List ℕ). cond (bytes_eq (to_lower_case y.0) (to_lower_case (codes "CHARSET"))) (charset_name_at y.1) (Some octets)) cut
      ∙ ap (λ c. cond c (charset_name_at p.0) (Some octets)) ((bytes_eq-Decides _ _).1 p.1.1)
      ∙ ap (λ r. r >>= λ name. cond (is_charset name.0) (after (32 ∷ []) name.1) None) ((spaced_reads (text_reads Astring)).complete p.0 t.0 name named_text (subst IsWordEnd (sym space) refl))
      ∙ ap (λ c. cond c (after (32 ∷ []) t.0) None) (known_to name r.2)
      ∙ after_complete (32 ∷ []) t.0 rest t.2
]

-- the steps that are read are those of a key
pub keys_are : (octets : List ℕ) (x : List SearchStep × List ℕ) → keys_at (below_at 65) octets ≡ Some x → IsKey x.0
keys_are octets x h = let f = (all_reads (within_reads 64)).sound octets x h in search-key x.0 f.0 f.1

program_reads : IsReader (λ octets. charset_at octets >>= keys_at (below_at 65)) (λ steps. charset ⌢ search_keys steps) IsArgEnd
program_reads = record {
  sound = λ octets x h.
      let a = bind_some (charset_at octets) _ x h in
      joined charset (search_keys x.0) octets a.0 x.1 (charset_sound octets a.0 a.1) ((all_reads (within_reads 64)).sound a.0 x a.2);
  complete = λ octets rest steps f s.
      let p = parts_around charset (search_keys steps) octets rest f in
      ap (λ r. r >>= keys_at (below_at 65)) (charset_complete octets p.0 p.1 (keys_no_charset steps p.0 rest p.2 s)) ∙ (all_reads (within_reads 64)).complete p.0 rest steps p.2 s;
}

program_no_return : (steps : List SearchStep) (octets rest : List ℕ) → HasPrefix (charset ⌢ search_keys steps) octets rest → IsArgEnd rest → Other (codes "RETURN") octets
program_no_return steps octets rest f s =
    let p = parts_around charset (search_keys steps) octets rest f in
    elim p.1.1 [
      | inl e ↦ subst (Other (codes "RETURN")) (sym (exactly_is [] octets p.0 (p.1.0, e, p.1.2))) (keys_no_return steps p.0 rest p.2 s)
      | inr r ↦
          let q = parts_around (word (codes "CHARSET")) _ octets p.0 (p.1.0, r.1, p.1.2) in
          word_other (codes "RETURN") (codes "CHARSET") octets q.0 refl refl q.1 (ends_item q.0 (sp_ends _ q.0 p.0 q.2))
    ]

pub search_parts : IsReader search_parts_at (λ p. sp ⌢ return_options p.0 ⌢ charset ⌢ search_keys p.1) IsArgEnd
search_parts = spaced_reads (both_reads returned_reads program_reads (λ octets rest steps f s. program_no_return steps octets rest f s))
