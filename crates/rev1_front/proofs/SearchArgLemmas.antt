-- The arguments of SEARCH of IMAP4rev1, with RETURN and CHARSET, are read as arguments of the profile.
use Rattle.std.proofs.Common.{◌≡◌, ◌⊎◌, inl, inr, ℕ, zero, suc, ◌+◌, ◌-◌, Bool, true, false, cond, ◌&&◌, ◌||◌, not, List, [], ◌∷◌, ◌++◌, codes, length, take, drop, eqb, Option, Some, None, refl, sym, ap, ◌∙◌, subst, append_assoc, append-nil, length-append, arith}
use Rattle.std.proofs.lemmas.Bool.{and_from, and_parts}
use Rattle.std.proofs.lemmas.Bool.Decides.{nat_tests}
use Rattle.std.proofs.lemmas.List.{drop_at, length-map, map-append, take-map}
use Rattle.std.proofs.Math.Seq.{drop-append_seam, take-append_seam}
use Rattle.std.proofs.lemmas.Slice.Eq.{bytes_eq-Decides}
use Rattle.std.specs.Char.{to_ascii_lowercase}
use Rattle.std.specs.List.{list_all}
use Rattle.std.specs.Str.{bytes_eq}
use Rattle.imap_types.specs.DateTimes.{is_digit}
use Rattle.imap_types.specs.Keywords.{is_atom_octet, to_lower_case}
use Rattle.imap_syntax.specs.KeyWords.{key_word as profile_word, option_word}
use Rattle.imap_syntax.specs.Keys.{charset, key_over, key_within, return_options, search_keys, search_option, test}
use Rattle.imap_syntax.specs.Languages.{◌⌢◌, each_after, in_parens, listed, maybe_listed, sp, word}
use Rattle.imap_syntax.specs.Strings.{astring, is_in}
use Rattle.imap_syntax.specs.declared.flags.SystemFlag.TheVariants as system
use Rattle.imap_syntax.specs.declared.octet_class.OctetClass.TheVariants.{Astring, Atom, Digit}
use Rattle.imap_syntax.specs.declared.search.DateRelation.{DateRelation}
use Rattle.imap_syntax.specs.declared.search.DateRelation.TheVariants as order
use Rattle.imap_syntax.specs.declared.search.SearchKeyWord.{SearchKeyWord}
use Rattle.imap_syntax.specs.declared.search.SearchKeyWord.TheVariants as key
use Rattle.imap_syntax.specs.declared.search.SearchOption.{SearchOption}
use Rattle.imap_syntax.specs.declared.search.SearchOption.TheVariants as option
use Rattle.imap_syntax.specs.declared.search.SearchStep.{SearchStep}
use Rattle.imap_syntax.specs.declared.search.SearchTest.{SearchTest}
use Rattle.imap_syntax.specs.declared.search.SearchTest.TheVariants as tests
use Rattle.imap_syntax.specs.declared.search.TextPlace.TheVariants as place
use Rattle.imap_grammar.specs.Reading.{span}
use Rattle.imap_grammar.proofs.WordLaws.{word_atoms}
use Rattle.mail_text.specs.TextSearch.{is_prefix}
use Rattle.rev1_front.specs.Rev1Keys.{HaveUids, front_key, rev1_arguments, rev1_key_within, sent_word}
use Rattle.rev1_front.specs.SearchReading.{after_line, asks_return, charset_len, charset_name, closed_len, is_charset, known_len, paren_len, profile_keys, program_read, returned_len, search_read, token_len, with_front}
use Rattle.rev1_front.specs.declared.search_days.SentDay.{SentDay}
use Rattle.rev1_front.proofs.Rev1KeyLemmas.{keys_stay, keys_taken}
use Rattle.rev1_front.proofs.TokenReads.{token_is}
use Rattle.rev1_front.proofs.WordTokens.{all_pattern, class_text, lower_digit, no_letter, plain_escape, set_begins}

-- ---- What keys can't begin with.

abbrev BeginsOther : List ℕ → List ℕ → Type 0
BeginsOther token text = (rest : List ℕ) → is_prefix token (text ++ rest) ≡ false

abbrev pub Neither : List ℕ → Type 0
Neither text = BeginsOther (codes "RETURN ") text × BeginsOther (codes "CHARSET ") text

prefix_lower : (token text rest : List ℕ) → is_prefix token (text ++ rest) ≡ bytes_eq (take (length token) (to_lower_case text ++ to_lower_case rest)) (to_lower_case token)
prefix_lower token text rest =
    ap (λ l. bytes_eq l (to_lower_case token))
    (sym (take-map to_ascii_lowercase (length token) (text ++ rest)) ∙ ap (take (length token)) (map-append to_ascii_lowercase text rest))

abbrev IsOther : List ℕ → List ℕ → Type 0
IsOther token letters = (lower : List ℕ) → bytes_eq (take (length token) (to_lower_case letters ++ lower)) (to_lower_case token) ≡ false

abbrev IsNeither : List ℕ → Type 0
IsNeither letters = IsOther (codes "RETURN ") letters × IsOther (codes "CHARSET ") letters

word_other : (token letters text : List ℕ) → IsOther token letters → word letters text → BeginsOther token text
word_other token letters text o w rest =
    prefix_lower token text rest ∙ ap (λ l. bytes_eq (take (length token) (l ++ to_lower_case rest)) (to_lower_case token)) w ∙ o (to_lower_case rest)

front_other : (token text front back : List ℕ) → text ≡ front ++ back → BeginsOther token front → BeginsOther token text
front_other token text front back e o rest = ap (λ t. is_prefix token (t ++ rest)) e ∙ ap (is_prefix token) (append_assoc front back rest) ∙ o (back ++ rest)

word_neither : (letters text : List ℕ) → IsNeither letters → word letters text → Neither text
word_neither letters text o w = (word_other (codes "RETURN ") letters text o.0 w, word_other (codes "CHARSET ") letters text o.1 w)

front_neither : (text front back : List ℕ) → text ≡ front ++ back → Neither front → Neither text
front_neither text front back e o = (front_other (codes "RETURN ") text front back e o.0, front_other (codes "CHARSET ") text front back e o.1)

first_neither : (letters : List ℕ) (Q : List ℕ → Type 0) (text : List ℕ) → IsNeither letters → (word letters ⌢ Q) text → Neither text
first_neither letters Q text o h = front_neither text h.0 h.1 h.4 (word_neither letters h.0 o h.2)

number_neither : (b : ℕ) (bs text : List ℕ) → text ≡ b ∷ bs → (is_digit b || eqb b 42) ≡ true → Neither text
number_neither b bs text e h =
    let r : eqb (to_ascii_lowercase b) 114 ≡ false = no_letter (to_ascii_lowercase b) 114 (lower_digit b h) (omega arith) in
    let c : eqb (to_ascii_lowercase b) 99 ≡ false = no_letter (to_ascii_lowercase b) 99 (lower_digit b h) (omega arith) in (
      λ rest. ap (λ t. is_prefix (codes "RETURN ") (t ++ rest)) e ∙ ap (λ q. q && bytes_eq (to_lower_case (take 6 (bs ++ rest))) (to_lower_case (codes "ETURN "))) r,
      λ rest. ap (λ t. is_prefix (codes "CHARSET ") (t ++ rest)) e ∙ ap (λ q. q && bytes_eq (to_lower_case (take 7 (bs ++ rest))) (to_lower_case (codes "HARSET "))) c,
    )

word_is_neither : (w : SearchKeyWord) → IsNeither (profile_word w)
word_is_neither key.All = (λ lower. refl, λ lower. refl)
word_is_neither (key.System system.Answered true) = (λ lower. refl, λ lower. refl)
word_is_neither (key.System system.Answered false) = (λ lower. refl, λ lower. refl)
word_is_neither (key.System system.Flagged true) = (λ lower. refl, λ lower. refl)
word_is_neither (key.System system.Flagged false) = (λ lower. refl, λ lower. refl)
word_is_neither (key.System system.Deleted true) = (λ lower. refl, λ lower. refl)
word_is_neither (key.System system.Deleted false) = (λ lower. refl, λ lower. refl)
word_is_neither (key.System system.Seen true) = (λ lower. refl, λ lower. refl)
word_is_neither (key.System system.Seen false) = (λ lower. refl, λ lower. refl)
word_is_neither (key.System system.Draft true) = (λ lower. refl, λ lower. refl)
word_is_neither (key.System system.Draft false) = (λ lower. refl, λ lower. refl)
word_is_neither (key.Keyword true) = (λ lower. refl, λ lower. refl)
word_is_neither (key.Keyword false) = (λ lower. refl, λ lower. refl)
word_is_neither (key.Place place.Bcc) = (λ lower. refl, λ lower. refl)
word_is_neither (key.Place place.Cc) = (λ lower. refl, λ lower. refl)
word_is_neither (key.Place place.From) = (λ lower. refl, λ lower. refl)
word_is_neither (key.Place place.Subject) = (λ lower. refl, λ lower. refl)
word_is_neither (key.Place place.To) = (λ lower. refl, λ lower. refl)
word_is_neither (key.Place place.Body) = (λ lower. refl, λ lower. refl)
word_is_neither (key.Place place.Text) = (λ lower. refl, λ lower. refl)
word_is_neither key.Header = (λ lower. refl, λ lower. refl)
word_is_neither (key.Dated order.Before) = (λ lower. refl, λ lower. refl)
word_is_neither (key.Dated order.On) = (λ lower. refl, λ lower. refl)
word_is_neither (key.Dated order.Since) = (λ lower. refl, λ lower. refl)
word_is_neither key.Larger = (λ lower. refl, λ lower. refl)
word_is_neither key.Smaller = (λ lower. refl, λ lower. refl)
word_is_neither key.ModSeq = (λ lower. refl, λ lower. refl)
word_is_neither key.Uid = (λ lower. refl, λ lower. refl)
word_is_neither key.Not = (λ lower. refl, λ lower. refl)
word_is_neither key.Or = (λ lower. refl, λ lower. refl)

test_neither : (this : SearchTest) (text : List ℕ) → test this text → Neither text
test_neither tests.All text h = word_neither (profile_word key.All) text (word_is_neither key.All) h
test_neither (tests.System flag is_set) text h = word_neither (profile_word (key.System flag is_set)) text (word_is_neither (key.System flag is_set)) h
test_neither (tests.Keyword keyword is_set) text h = first_neither (profile_word (key.Keyword is_set)) _ text (word_is_neither (key.Keyword is_set)) h
test_neither (tests.Holds this string) text h = first_neither (profile_word (key.Place this)) _ text (word_is_neither (key.Place this)) h
test_neither (tests.Header name string) text h = first_neither (profile_word key.Header) _ text (word_is_neither key.Header) h
test_neither (tests.Dated relation day) text h = first_neither (profile_word (key.Dated relation)) _ text (word_is_neither (key.Dated relation)) h
test_neither (tests.Larger size) text h = first_neither (profile_word key.Larger) _ text (word_is_neither key.Larger) h
test_neither (tests.Smaller size) text h = first_neither (profile_word key.Smaller) _ text (word_is_neither key.Smaller) h
test_neither (tests.ModSeq value) text h = first_neither (profile_word key.ModSeq) _ text (word_is_neither key.ModSeq) h
test_neither (tests.Uids uids) text h = first_neither (profile_word key.Uid) _ text (word_is_neither key.Uid) h
test_neither (tests.Numbers numbers) text h = let b = set_begins numbers text h in number_neither b.0 b.1 text b.2 b.3

key_neither : (inner : List SearchStep → List ℕ → Type 0) (steps : List SearchStep) (text : List ℕ) → key_over inner steps text → Neither text
key_neither inner steps text h = elim h [
  | inl t ↦ test_neither t.0 text t.1
  | inr a ↦ elim a [
    | inl n ↦ first_neither (profile_word key.Not) _ text (word_is_neither key.Not) n.1
    | inr b ↦ elim b [
      | inl o ↦ first_neither (profile_word key.Or) _ text (word_is_neither key.Or) o.2
      | inr g ↦
          let p = g.1 in
          let e : text ≡ 40 ∷ p.1 = p.4 ∙ ap (λ xs. xs ++ p.1) p.2 in
          (λ rest. ap (λ t. is_prefix (codes "RETURN ") (t ++ rest)) e, λ rest. ap (λ t. is_prefix (codes "CHARSET ") (t ++ rest)) e)
    ]
  ]
]

sent_neither : (relation : DateRelation) → IsNeither (sent_word relation)
sent_neither order.Before = (λ lower. refl, λ lower. refl)
sent_neither order.On = (λ lower. refl, λ lower. refl)
sent_neither order.Since = (λ lower. refl, λ lower. refl)

rev1_key_neither : (days : List SentDay) (steps : List SearchStep) (text : List ℕ) → front_key days steps text → Neither text
rev1_key_neither days steps text h = elim h [
  | inl o ↦ word_neither (codes "OLD") text (λ lower. refl, λ lower. refl) o.0
  | inr a ↦ elim a [
    | inl w ↦ elim w.0 [
      | inl new ↦ word_neither (codes "NEW") text (λ lower. refl, λ lower. refl) new
      | inr recent ↦ word_neither (codes "RECENT") text (λ lower. refl, λ lower. refl) recent
    ]
    | inr b ↦ elim b [
      | inl m ↦ first_neither (codes "MODSEQ") _ text (λ lower. refl, λ lower. refl) m.1
      | inr d ↦ first_neither (sent_word d.0) _ text (sent_neither d.0) d.2
    ]
  ]
]

within_neither : (days : List SentDay) (n : ℕ) (steps : List SearchStep) (text : List ℕ) → rev1_key_within days n steps text → Neither text
unfolding rev1_key_within
within_neither days zero steps text h = elim h [ inl f ↦ rev1_key_neither days steps text f | inr k ↦ key_neither _ steps text k ]
within_neither days (suc n) steps text h = elim h [ inl f ↦ rev1_key_neither days steps text f | inr k ↦ key_neither _ steps text k ]

profile_neither : (n : ℕ) (steps : List SearchStep) (text : List ℕ) → key_within n steps text → Neither text
unfolding key_within
profile_neither zero steps text h = key_neither _ steps text h
profile_neither (suc n) steps text h = key_neither _ steps text h

list_neither : (form : List SearchStep → List ℕ → Type 0) → ((steps : List SearchStep) (text : List ℕ) → form steps text → Neither text) → (keys : List (List SearchStep)) (text : List ℕ) → listed sp form keys text → Neither text
list_neither form one [] text h = absurd h
list_neither form one (k ∷ ks) text h = front_neither text h.0 h.1 h.4 (one k h.0 h.2)

-- ---- CHARSET.

-- octets up to one that stops them
abbrev cut_by : Bool → ℕ → List ℕ → List ℕ × List ℕ → List ℕ × List ℕ
cut_by passes octet octets later = cond passes (octet ∷ later.0, later.1) ([], octet ∷ octets)

span_to : (p : ℕ → Bool) (front : List ℕ) (c : ℕ) (back : List ℕ) → list_all p front ≡ true → p c ≡ false → span p (front ++ c ∷ back) ≡ (front, c ∷ back)
span_to p [] c back h k = ap (λ b. cut_by b c back (span p back)) k
span_to p (x ∷ xs) c back h k =
    let q = and_parts (p x) (list_all p xs) h in
    ap (λ b. cut_by b x (xs ++ c ∷ back) (span p (xs ++ c ∷ back))) q.0
    ∙ ap (λ (y : List ℕ × List ℕ). cut_by true x (xs ++ c ∷ back) y) (span_to p xs c back q.1 k)

all_both : (p : ℕ → Bool) (xs ys : List ℕ) → list_all p xs ≡ true → list_all p ys ≡ true → list_all p (xs ++ ys) ≡ true
all_both p [] ys h k = k
all_both p (x ∷ xs) ys h k = let q = and_parts (p x) (list_all p xs) h in and_from _ _ q.0 (all_both p xs ys q.1 k)

all_joined : (p : ℕ → Bool) (text xs ys : List ℕ) → text ≡ xs ++ ys → list_all p xs ≡ true → list_all p ys ≡ true → list_all p text ≡ true
all_joined p text xs ys e h k = ap (list_all p) e ∙ all_both p xs ys h k

-- octets of words are none that stop
abbrev no_lf : ℕ → Bool
no_lf octet = not (eqb octet 10)

abbrev no_paren : ℕ → Bool
no_paren octet = not (eqb octet 41)

digit_lf : (b : ℕ) → is_digit b ≡ true → no_lf b ≡ true
digit_lf b h = grind (arith, nat_tests)

digits_lf : (bs : List ℕ) → list_all (is_in Digit) bs ≡ true → list_all no_lf bs ≡ true
digits_lf [] h = refl
digits_lf (b ∷ bs) h = let p = and_parts (is_digit b) (list_all (is_in Digit) bs) h in and_from _ _ (digit_lf b p.0) (digits_lf bs p.1)

atom_paren : (b : ℕ) → is_atom_octet b ≡ true → no_paren b ≡ true
atom_paren b h = grind (arith, nat_tests)

atoms_paren : (bs : List ℕ) → list_all is_atom_octet bs ≡ true → list_all no_paren bs ≡ true
atoms_paren [] h = refl
atoms_paren (b ∷ bs) h = let p = and_parts (is_atom_octet b) (list_all is_atom_octet bs) h in and_from _ _ (atom_paren b p.0) (atoms_paren bs p.1)

-- ---- CHARSET.

-- an astring of atom octets names them
name_lf : (front back : List ℕ) → list_all no_lf front ≡ true → after_line (front ++ 10 ∷ back) ≡ back
name_lf front back h = ap (λ (y : List ℕ × List ℕ). drop 1 y.1) (span_to no_lf front 10 back h refl)

length_less : (xs : List ℕ) (c : ℕ) → take (length (xs ++ c ∷ []) - 1) (xs ++ c ∷ []) ≡ xs
length_less xs c =
    let n : length (xs ++ c ∷ []) - 1 ≡ length xs = omega (arith, length-append xs (c ∷ [])) in
    ap (λ k. take k (xs ++ c ∷ [])) n ∙ take-append_seam xs (c ∷ [])

atom_plain : (b : ℕ) → is_atom_octet b ≡ true → (eqb b 34 ≡ false) × (eqb b 123 ≡ false)
atom_plain b h = (atom_quote b h, atom_brace b h)
  where
    atom_quote : (b : ℕ) → is_atom_octet b ≡ true → eqb b 34 ≡ false
    atom_quote b h = grind (arith, nat_tests)

    atom_brace : (b : ℕ) → is_atom_octet b ≡ true → eqb b 123 ≡ false
    atom_brace b h = grind (arith, nat_tests)

plain_name : (text : List ℕ) → list_all is_atom_octet text ≡ true → charset_name text ≡ text
plain_name [] h = refl
plain_name (b ∷ bs) h =
    let p = and_parts (is_atom_octet b) (list_all is_atom_octet bs) h in
    let q = atom_plain b p.0 in
    ap (λ c. cond c (take (length bs - 1) bs) (cond (eqb b 123) (after_line bs) (b ∷ bs))) q.0 ∙ ap (λ c. cond c (after_line bs) (b ∷ bs)) q.1

name_read : (name text : List ℕ) → list_all is_atom_octet name ≡ true → astring name text → charset_name text ≡ name
name_read name text atoms h = elim h [
  | inl r ↦ ap charset_name r.2 ∙ plain_name name atoms
  | inr q ↦ elim q [
    | inl s ↦
        let e : text ≡ 34 ∷ (name ++ 34 ∷ []) = s.1 ∙ ap (λ xs. 34 ∷ (xs ++ 34 ∷ [])) (plain_escape name (all_pattern Atom name atoms)) in
        ap charset_name e ∙ length_less name 34
    | inr l ↦
        let a = l.3 in
        let b = a.3 in
        let c = b.3 in
        let tail : b.1 ≡ 125 ∷ 13 ∷ 10 ∷ name = c.4 ∙ ap (λ xs. xs ++ c.1) c.2 ∙ ap (λ xs. 125 ∷ 13 ∷ 10 ∷ xs) c.3 in
        let plus : list_all no_lf b.0 ≡ true = elim b.2 [ inl p ↦ ap (list_all no_lf) p | inr n ↦ ap (list_all no_lf) n ] in
        let digits : list_all no_lf a.0 ≡ true = ap (list_all no_lf) a.2.1.2 ∙ digits_lf a.2.0 a.2.1.1 in
        let front : list_all no_lf (a.0 ++ (b.0 ++ (125 ∷ 13 ∷ []))) ≡ true = all_both no_lf a.0 (b.0 ++ (125 ∷ 13 ∷ [])) digits (all_both no_lf b.0 (125 ∷ 13 ∷ []) plus refl) in
        let whole : text ≡ 123 ∷ ((a.0 ++ (b.0 ++ (125 ∷ 13 ∷ []))) ++ 10 ∷ name) =
        l.4 ∙ ap (λ xs. xs ++ l.1) l.2
        ∙ ap (λ xs. 123 ∷ xs) (a.4 ∙ ap (λ xs. a.0 ++ xs) (b.4 ∙ ap (λ xs. b.0 ++ xs) tail ∙ sym (append_assoc b.0 (125 ∷ 13 ∷ []) (10 ∷ name))) ∙ sym (append_assoc a.0 (b.0 ++ (125 ∷ 13 ∷ [])) (10 ∷ name))) in
        ap charset_name whole ∙ name_lf (a.0 ++ (b.0 ++ (125 ∷ 13 ∷ []))) name front
  ]
]

or_true : (b : Bool) → (b || true) ≡ true
or_true true = refl
or_true false = refl

-- a charset that is known
known_name : (name : List ℕ) → word (codes "UTF-8") name ⊎ word (codes "US-ASCII") name → (list_all is_atom_octet name ≡ true) × (is_charset name ≡ true)
known_name name h = elim h [
  | inl u ↦ (word_atoms (codes "UTF-8") name refl u, ap (λ b. b || bytes_eq (to_lower_case name) (to_lower_case (codes "US-ASCII"))) ((bytes_eq-Decides (to_lower_case name) (to_lower_case (codes "UTF-8"))).1 u))
  | inr a ↦ (word_atoms (codes "US-ASCII") name refl a, ap (λ b. bytes_eq (to_lower_case name) (to_lower_case (codes "UTF-8")) || b) ((bytes_eq-Decides (to_lower_case name) (to_lower_case (codes "US-ASCII"))).1 a) ∙ or_true (bytes_eq (to_lower_case name) (to_lower_case (codes "UTF-8"))))
]

-- the length of a word
word_len : (letters text : List ℕ) → word letters text → length text ≡ length letters
word_len letters text h = sym (length-map text to_ascii_lowercase) ∙ ap length h ∙ length-map letters to_ascii_lowercase

abbrev pair_with : Bool → List ℕ → List ℕ × Bool
pair_with asks text = (text, asks)

-- the options of RETURN have no parenthesis
option_atoms : (this : SearchOption) → list_all is_atom_octet (to_lower_case (option_word this)) ≡ true
option_atoms option.Min = refl
option_atoms option.Max = refl
option_atoms option.All = refl
option_atoms option.Count = refl

option_paren : (this : SearchOption) (text : List ℕ) → search_option this text → list_all no_paren text ≡ true
option_paren this text w = atoms_paren text (word_atoms (option_word this) text (option_atoms this) w)

more_paren : (values : List SearchOption) (text : List ℕ) → each_after sp search_option values text → list_all no_paren text ≡ true
more_paren [] text h = ap (list_all no_paren) h
more_paren (v ∷ vs) text h =
    let t = h.3 in
    all_joined no_paren text h.0 h.1 h.4 (ap (list_all no_paren) h.2) (all_joined no_paren h.1 t.0 t.1 t.4 (option_paren v t.0 t.2) (more_paren vs t.1 t.3))

options_paren : (values : List SearchOption) (text : List ℕ) → maybe_listed sp search_option values text → list_all no_paren text ≡ true
options_paren [] text h = ap (list_all no_paren) h
options_paren (v ∷ vs) text h = all_joined no_paren text h.0 h.1 h.4 (option_paren v h.0 h.2) (more_paren vs h.1 h.3)

-- keys after the options, without CHARSET and with it
module _ (days : List SentDay) (keys out : List ℕ) (asks : Bool) (clear : Neither keys) (read : profile_keys days (codes " " ++ (keys ++ codes "\r\n")) ≡ (codes " " ++ (out ++ codes "\r\n"), asks)) where
  abbrev program_of : List ℕ → List ℕ
  program_of front = 32 ∷ (front ++ (keys ++ codes "\r\n"))

  abbrev taken_of : List ℕ → List ℕ → List ℕ × Bool
  taken_of returned front = (returned ++ (32 ∷ (front ++ (out ++ codes "\r\n"))), asks)

  no_charset : (returned : List ℕ) → program_read days returned (program_of []) (charset_len (program_of [])) ≡ Some (taken_of returned [])
  no_charset returned =
      let n : charset_len (32 ∷ (keys ++ codes "\r\n")) ≡ Some 0 = ap (λ b. cond b (known_len (drop 9 (32 ∷ (keys ++ codes "\r\n")))) (Some 0)) (clear.1 (codes "\r\n")) in
      ap (program_read days returned (32 ∷ (keys ++ codes "\r\n"))) n
      ∙ ap (λ (k : List ℕ × Bool). Some (with_front (returned ++ []) k)) read
      ∙ ap (λ xs. Some (with_front xs (32 ∷ (out ++ codes "\r\n"), asks))) (append-nil returned)

  with_charset : (returned front name : List ℕ) → (h : (word (codes "CHARSET") ⌢ sp ⌢ astring name ⌢ sp) front) → word (codes "UTF-8") name ⊎ word (codes "US-ASCII") name
      → program_read days returned (program_of front) (charset_len (program_of front)) ≡ Some (taken_of returned front)
  with_charset returned front name h is =
      let t = h.3 in
      let u = t.3 in
      let known = known_name name is in
      let front_is : front ≡ h.0 ++ (32 ∷ (u.0 ++ (32 ∷ []))) = h.4 ∙ ap (λ xs. h.0 ++ xs) (t.4 ∙ ap (λ xs. xs ++ t.1) t.2 ∙ ap (λ xs. 32 ∷ xs) (u.4 ∙ ap (λ xs. u.0 ++ xs) u.3)) in
      let spread : (more : List ℕ) → (h.0 ++ (32 ∷ (u.0 ++ (32 ∷ [])))) ++ more ≡ h.0 ++ (32 ∷ (u.0 ++ (32 ∷ more))) = λ more.
      append_assoc h.0 (32 ∷ (u.0 ++ (32 ∷ []))) more ∙ ap (λ xs. h.0 ++ (32 ∷ xs)) (append_assoc u.0 (32 ∷ []) more) in
      let whole : program_of front ≡ 32 ∷ (h.0 ++ (32 ∷ (u.0 ++ (32 ∷ (keys ++ 13 ∷ 10 ∷ []))))) = ap (λ xs. 32 ∷ (xs ++ (keys ++ 13 ∷ 10 ∷ []))) front_is ∙ ap (λ xs. 32 ∷ xs) (spread (keys ++ 13 ∷ 10 ∷ [])) in
      let begun : is_prefix (codes "CHARSET ") (h.0 ++ (32 ∷ (u.0 ++ (32 ∷ (keys ++ 13 ∷ 10 ∷ []))))) ≡ true =
      prefix_lower (codes "CHARSET ") h.0 (32 ∷ (u.0 ++ (32 ∷ (keys ++ 13 ∷ 10 ∷ []))))
      ∙ ap (λ l. bytes_eq (take 8 (l ++ to_lower_case (32 ∷ (u.0 ++ (32 ∷ (keys ++ 13 ∷ 10 ∷ [])))))) (to_lower_case (codes "CHARSET "))) h.2 in
      let size : length (h.0 ++ 32 ∷ []) ≡ 8 = length-append h.0 (32 ∷ []) ∙ ap (λ n. n + 1) (word_len (codes "CHARSET") h.0 h.2) in
      let after : drop 8 (h.0 ++ (32 ∷ (u.0 ++ (32 ∷ (keys ++ 13 ∷ 10 ∷ []))))) ≡ u.0 ++ (32 ∷ (keys ++ 13 ∷ 10 ∷ [])) =
      ap (drop 8) (sym (append_assoc h.0 (32 ∷ []) (u.0 ++ (32 ∷ (keys ++ 13 ∷ 10 ∷ []))))) ∙ drop_at (h.0 ++ 32 ∷ []) (u.0 ++ (32 ∷ (keys ++ 13 ∷ 10 ∷ []))) 8 size in
      let token : token_len (u.0 ++ (32 ∷ (keys ++ 13 ∷ 10 ∷ []))) ≡ length u.0 = token_is u.0 (32 ∷ (keys ++ 13 ∷ 10 ∷ [])) name (class_text Astring name u.0 u.2) refl in
      let test : is_charset (charset_name u.0) ≡ true = ap is_charset (name_read name u.0 known.0 u.2) ∙ known.1 in
      let len : charset_len (32 ∷ (h.0 ++ (32 ∷ (u.0 ++ (32 ∷ (keys ++ 13 ∷ 10 ∷ [])))))) ≡ Some (9 + length u.0) =
      ap (λ b. cond b (known_len (drop 8 (h.0 ++ (32 ∷ (u.0 ++ (32 ∷ (keys ++ 13 ∷ 10 ∷ []))))))) (Some 0)) begun
      ∙ ap known_len after
      ∙ ap (λ n. cond (is_charset (charset_name (take n (u.0 ++ (32 ∷ (keys ++ 13 ∷ 10 ∷ [])))))) (Some (9 + n)) None) token
      ∙ ap (λ (xs : List ℕ). cond (is_charset (charset_name xs)) (Some (9 + length u.0)) None) (take-append_seam u.0 (32 ∷ (keys ++ 13 ∷ 10 ∷ [])))
      ∙ ap (λ b. cond b (Some (9 + length u.0)) None) test in
      let parts : 32 ∷ (h.0 ++ (32 ∷ (u.0 ++ (32 ∷ (keys ++ 13 ∷ 10 ∷ []))))) ≡ (32 ∷ (h.0 ++ (32 ∷ u.0))) ++ (32 ∷ (keys ++ 13 ∷ 10 ∷ [])) =
      ap (λ xs. 32 ∷ xs) (sym (append_assoc h.0 (32 ∷ u.0) (32 ∷ (keys ++ 13 ∷ 10 ∷ [])))) in
      let total : length (32 ∷ (h.0 ++ (32 ∷ u.0))) ≡ 9 + length u.0 = let s : length h.0 ≡ 7 = word_len (codes "CHARSET") h.0 h.2 in omega (arith, length-append h.0 (32 ∷ u.0)) in
      let taken : take (9 + length u.0) (32 ∷ (h.0 ++ (32 ∷ (u.0 ++ (32 ∷ (keys ++ 13 ∷ 10 ∷ [])))))) ≡ 32 ∷ (h.0 ++ (32 ∷ u.0)) =
      ap (λ n. take n (32 ∷ (h.0 ++ (32 ∷ (u.0 ++ (32 ∷ (keys ++ 13 ∷ 10 ∷ []))))))) (sym total) ∙ ap (take (length (32 ∷ (h.0 ++ (32 ∷ u.0))))) parts ∙ take-append_seam (32 ∷ (h.0 ++ (32 ∷ u.0))) (32 ∷ (keys ++ 13 ∷ 10 ∷ [])) in
      let left : drop (9 + length u.0) (32 ∷ (h.0 ++ (32 ∷ (u.0 ++ (32 ∷ (keys ++ 13 ∷ 10 ∷ [])))))) ≡ 32 ∷ (keys ++ 13 ∷ 10 ∷ []) =
      ap (λ n. drop n (32 ∷ (h.0 ++ (32 ∷ (u.0 ++ (32 ∷ (keys ++ 13 ∷ 10 ∷ []))))))) (sym total) ∙ ap (drop (length (32 ∷ (h.0 ++ (32 ∷ u.0))))) parts ∙ drop-append_seam (32 ∷ (h.0 ++ (32 ∷ u.0))) (32 ∷ (keys ++ 13 ∷ 10 ∷ [])) in
      let back : (32 ∷ (h.0 ++ (32 ∷ u.0))) ++ (32 ∷ (out ++ 13 ∷ 10 ∷ [])) ≡ 32 ∷ (front ++ (out ++ 13 ∷ 10 ∷ [])) =
      ap (λ xs. 32 ∷ xs) (append_assoc h.0 (32 ∷ u.0) (32 ∷ (out ++ 13 ∷ 10 ∷ [])) ∙ sym (spread (out ++ 13 ∷ 10 ∷ [])) ∙ ap (λ xs. xs ++ (out ++ 13 ∷ 10 ∷ [])) (sym front_is)) in
      ap (λ xs. program_read days returned xs (charset_len xs)) whole
      ∙ ap (program_read days returned (32 ∷ (h.0 ++ (32 ∷ (u.0 ++ (32 ∷ (keys ++ 13 ∷ 10 ∷ []))))))) len
      ∙ ap (λ (xs : List ℕ). Some (with_front (returned ++ xs) (profile_keys days (drop (9 + length u.0) (32 ∷ (h.0 ++ (32 ∷ (u.0 ++ (32 ∷ (keys ++ 13 ∷ 10 ∷ [])))))))))) taken
      ∙ ap (λ (xs : List ℕ). Some (with_front (returned ++ (32 ∷ (h.0 ++ (32 ∷ u.0)))) (profile_keys days xs))) left
      ∙ ap (λ (y : List ℕ × Bool). Some (with_front (returned ++ (32 ∷ (h.0 ++ (32 ∷ u.0)))) y)) read
      ∙ ap (λ (xs : List ℕ). Some (pair_with asks xs)) (append_assoc returned (32 ∷ (h.0 ++ (32 ∷ u.0))) (32 ∷ (out ++ 13 ∷ 10 ∷ [])) ∙ ap (λ xs. returned ++ xs) back)

  program_is : (returned front : List ℕ) → charset front → program_read days returned (program_of front) (charset_len (program_of front)) ≡ Some (taken_of returned front)
  program_is returned front h = elim h [
    | inl n ↦ subst (λ (f : List ℕ). program_read days returned (program_of f) (charset_len (program_of f)) ≡ Some (taken_of returned f)) (sym n) (no_charset returned)
    | inr c ↦ with_charset returned front c.0 c.1 c.2
  ]

  -- ---- RETURN.

  -- nothing is before CHARSET and keys
  program_neither : (front : List ℕ) → charset front → is_prefix (codes "RETURN ") (front ++ (keys ++ codes "\r\n")) ≡ false
  program_neither front h = elim h [
    | inl n ↦ ap (λ f. is_prefix (codes "RETURN ") (f ++ (keys ++ codes "\r\n"))) n ∙ clear.0 (codes "\r\n")
    | inr c ↦ front_other (codes "RETURN ") front c.1.0 c.1.1 c.1.4 (word_other (codes "RETURN ") (codes "CHARSET") c.1.0 (λ lower. refl) c.1.2) (keys ++ codes "\r\n")
  ]

  abbrev search_of : List ℕ → List ℕ → List ℕ
  search_of options front = 32 ∷ (options ++ (front ++ (keys ++ codes "\r\n")))

  abbrev searched : List ℕ → List ℕ → List ℕ × Bool
  searched options front = (32 ∷ (options ++ (front ++ (out ++ codes "\r\n"))), asks)

  no_return : (front : List ℕ) → charset front → search_read days (search_of [] front) ≡ Some (searched [] front)
  no_return front h =
      let n : returned_len (program_of front) ≡ 0 = ap (λ b. cond b (paren_len (program_of front)) 0) (program_neither front h) in
      ap (λ k. program_read days (take k (program_of front)) (drop k (program_of front)) (charset_len (drop k (program_of front)))) n ∙ program_is [] front h

  cut_read : (all returned program : List ℕ) → all ≡ returned ++ program → returned_len all ≡ length returned → search_read days all ≡ program_read days returned program (charset_len program)
  cut_read all returned program e n =
      ap (λ k. program_read days (take k all) (drop k all) (charset_len (drop k all))) n
      ∙ ap (λ xs. program_read days (take (length returned) xs) (drop (length returned) xs) (charset_len (drop (length returned) xs))) e
      ∙ ap (λ xs. program_read days xs (drop (length returned) (returned ++ program)) (charset_len (drop (length returned) (returned ++ program)))) (take-append_seam returned program)
      ∙ ap (λ xs. program_read days returned xs (charset_len xs)) (drop-append_seam returned program)

  with_return : (options front : List ℕ) (values : List SearchOption) → charset front → (word (codes "RETURN") ⌢ sp ⌢ in_parens (maybe_listed sp search_option values) ⌢ sp) options → search_read days (search_of options front) ≡ Some (searched options front)
  with_return options front values h r =
      let t = r.3 in
      let u = t.3 in
      let g = u.2 in
      let i = g.3 in
      let rest : List ℕ = front ++ (keys ++ 13 ∷ 10 ∷ []) in
      let group : u.0 ≡ 40 ∷ (i.0 ++ 41 ∷ []) = g.4 ∙ ap (λ xs. xs ++ g.1) g.2 ∙ ap (λ xs. 40 ∷ xs) (i.4 ∙ ap (λ xs. i.0 ++ xs) i.3) in
      let options_is : options ≡ r.0 ++ (32 ∷ (40 ∷ (i.0 ++ 41 ∷ 32 ∷ []))) =
      r.4 ∙ ap (λ xs. r.0 ++ xs) (t.4 ∙ ap (λ xs. xs ++ t.1) t.2 ∙ ap (λ xs. 32 ∷ xs) (u.4 ∙ ap (λ xs. u.0 ++ xs) u.3 ∙ ap (λ xs. xs ++ 32 ∷ []) group ∙ ap (λ xs. 40 ∷ xs) (append_assoc i.0 (41 ∷ []) (32 ∷ [])))) in
      let spread : (more : List ℕ) → 32 ∷ (options ++ more) ≡ (32 ∷ (r.0 ++ (32 ∷ (40 ∷ i.0)))) ++ (41 ∷ 32 ∷ more) = λ more.
      ap (λ xs. 32 ∷ xs) (ap (λ xs. xs ++ more) options_is ∙ append_assoc r.0 (32 ∷ (40 ∷ (i.0 ++ 41 ∷ 32 ∷ []))) more ∙ ap (λ xs. r.0 ++ (32 ∷ (40 ∷ xs))) (append_assoc i.0 (41 ∷ 32 ∷ []) more) ∙ sym (append_assoc r.0 (32 ∷ (40 ∷ i.0)) (41 ∷ 32 ∷ more))) in
      let begun : asks_return ((32 ∷ (r.0 ++ (32 ∷ (40 ∷ i.0)))) ++ (41 ∷ 32 ∷ rest)) ≡ true =
      ap (is_prefix (codes "RETURN ")) (append_assoc r.0 (32 ∷ (40 ∷ i.0)) (41 ∷ 32 ∷ rest))
      ∙ prefix_lower (codes "RETURN ") r.0 (32 ∷ (40 ∷ (i.0 ++ (41 ∷ 32 ∷ rest))))
      ∙ ap (λ l. bytes_eq (take 7 (l ++ to_lower_case (32 ∷ (40 ∷ (i.0 ++ (41 ∷ 32 ∷ rest)))))) (to_lower_case (codes "RETURN "))) r.2 in
      let clean : list_all no_paren (32 ∷ (r.0 ++ (32 ∷ (40 ∷ i.0)))) ≡ true =
      all_both no_paren r.0 (32 ∷ (40 ∷ i.0)) (atoms_paren r.0 (word_atoms (codes "RETURN") r.0 refl r.2)) (options_paren values i.0 i.2) in
      let len : returned_len ((32 ∷ (r.0 ++ (32 ∷ (40 ∷ i.0)))) ++ (41 ∷ 32 ∷ rest)) ≡ suc (length (32 ∷ (r.0 ++ (32 ∷ (40 ∷ i.0))))) =
      ap (λ b. cond b (paren_len ((32 ∷ (r.0 ++ (32 ∷ (40 ∷ i.0)))) ++ (41 ∷ 32 ∷ rest))) 0) begun
      ∙ ap closed_len (span_to no_paren (32 ∷ (r.0 ++ (32 ∷ (40 ∷ i.0)))) 41 (32 ∷ rest) clean refl) in
      let size : suc (length (32 ∷ (r.0 ++ (32 ∷ (40 ∷ i.0))))) ≡ length ((32 ∷ (r.0 ++ (32 ∷ (40 ∷ i.0)))) ++ 41 ∷ []) = omega (arith, length-append (32 ∷ (r.0 ++ (32 ∷ (40 ∷ i.0)))) (41 ∷ [])) in
      let closed : (more : List ℕ) → (32 ∷ (r.0 ++ (32 ∷ (40 ∷ i.0)))) ++ (41 ∷ more) ≡ ((32 ∷ (r.0 ++ (32 ∷ (40 ∷ i.0)))) ++ 41 ∷ []) ++ more = λ more. sym (append_assoc (32 ∷ (r.0 ++ (32 ∷ (40 ∷ i.0)))) (41 ∷ []) more) in
      ap (search_read days) (spread rest)
      ∙ cut_read ((32 ∷ (r.0 ++ (32 ∷ (40 ∷ i.0)))) ++ (41 ∷ 32 ∷ rest)) ((32 ∷ (r.0 ++ (32 ∷ (40 ∷ i.0)))) ++ 41 ∷ []) (32 ∷ rest) (closed (32 ∷ rest)) (len ∙ size)
      ∙ program_is ((32 ∷ (r.0 ++ (32 ∷ (40 ∷ i.0)))) ++ 41 ∷ []) front h
      ∙ ap (λ xs. Some (pair_with asks xs)) (sym (spread (front ++ (out ++ 13 ∷ 10 ∷ [])) ∙ closed (32 ∷ (front ++ (out ++ 13 ∷ 10 ∷ [])))))

  search_is : (options front : List ℕ) (values : List SearchOption) → return_options values options → charset front → search_read days (search_of options front) ≡ Some (searched options front)
  search_is options front values r h = elim r [
    | inl n ↦ subst (λ (o : List ℕ). search_read days (search_of o front) ≡ Some (searched o front)) (sym n.0) (no_return front h)
    | inr p ↦ with_return options front values h p
  ]

-- ---- All arguments.

abbrev ends_of : List ℕ → Bool → Option (List ℕ × Bool)
ends_of text asks = Some (text ++ codes "\r\n", asks)

-- what is read of arguments whose keys are read so
arguments_read : (days : List SentDay) (options front keys out : List ℕ) (asks : Bool) (values : List SearchOption) → Neither keys → profile_keys days (codes " " ++ (keys ++ codes "\r\n")) ≡ (codes " " ++ (out ++ codes "\r\n"), asks)
    → return_options values options → charset front → search_read days ((32 ∷ (options ++ (front ++ keys))) ++ codes "\r\n") ≡ ends_of (32 ∷ (options ++ (front ++ out))) asks
arguments_read days options front keys out asks values clear read r h =
    let spread : (xs : List ℕ) → (32 ∷ (options ++ (front ++ xs))) ++ 13 ∷ 10 ∷ [] ≡ 32 ∷ (options ++ (front ++ (xs ++ 13 ∷ 10 ∷ []))) = λ xs.
    ap (λ ys. 32 ∷ ys) (append_assoc options (front ++ xs) (13 ∷ 10 ∷ []) ∙ ap (λ ys. options ++ ys) (append_assoc front xs (13 ∷ 10 ∷ []))) in
    ap (search_read days) (spread keys) ∙ search_is days keys out asks clear read options front values r h ∙ ap (λ ys. Some (pair_with asks ys)) (sym (spread out))

module _ (days : List SentDay) (values : List SearchOption) (steps : List SearchStep) (text : List ℕ) where
  pub search_taken : HaveUids days → rev1_arguments days values steps text
      → (inner : List ℕ) × (asks : Bool) × (search_read days (text ++ codes "\r\n") ≡ ends_of inner asks) × (sp ⌢ return_options values ⌢ charset ⌢ search_keys steps) inner
  search_taken uids h =
      let t = h.3 in
      let u = t.3 in
      let k = keys_taken days uids steps u.1 u.3 in
      let clear = list_neither (rev1_key_within days 63) (within_neither days 63) u.3.0 u.1 u.3.1 in
      let e : text ≡ 32 ∷ (t.0 ++ (u.0 ++ u.1)) = h.4 ∙ ap (λ xs. xs ++ h.1) h.2 ∙ ap (λ xs. 32 ∷ xs) (t.4 ∙ ap (λ xs. t.0 ++ xs) u.4) in (
        32 ∷ (t.0 ++ (u.0 ++ k.0)),
        k.1,
        ap (λ xs. search_read days (xs ++ 13 ∷ 10 ∷ [])) e ∙ arguments_read days t.0 u.0 u.1 k.0 k.1 values clear k.2 t.2 u.2,
        (32 ∷ [], t.0 ++ (u.0 ++ k.0), refl, (t.0, u.0 ++ k.0, t.2, (u.0, k.0, u.2, k.3, refl), refl), refl),
      )

  -- arguments of the profile stay
  pub search_stays : (sp ⌢ return_options values ⌢ charset ⌢ search_keys steps) text → search_read days (text ++ codes "\r\n") ≡ ends_of text false
  search_stays h =
      let t = h.3 in
      let u = t.3 in
      let clear = list_neither (key_within 64) (profile_neither 64) u.3.0 u.1 u.3.1 in
      let e : text ≡ 32 ∷ (t.0 ++ (u.0 ++ u.1)) = h.4 ∙ ap (λ xs. xs ++ h.1) h.2 ∙ ap (λ xs. 32 ∷ xs) (t.4 ∙ ap (λ xs. t.0 ++ xs) u.4) in
      ap (λ xs. search_read days (xs ++ 13 ∷ 10 ∷ [])) e ∙ arguments_read days t.0 u.0 u.1 u.1 false values clear (keys_stay days steps u.1 u.3) t.2 u.2 ∙ ap (λ xs. ends_of xs false) (sym e)
