use Rattle.std.proofs.Common.{◌≡◌, ℕ, zero, suc, ◌+◌, ◌-◌, ◌*◌, ◌/◌, ◌%◌, ◌<◌, ◌≤◌, ◌^◌, Bool, true, false, ◌&&◌, not, eqb, cond, List, [], ◌∷◌, ◌++◌, length, map, flat_map, take, drop, min, max, codes, Option, None, Some, refl, ap, sym, subst, inl, inr, ◌∙◌, append_assoc, arith}
use Rattle.std.proofs.lemmas.Bool.{and_parts, cases_Bool, eqb-true, eq-eqb, false≢true, le-leb}
use Rattle.std.proofs.lemmas.Bool.Decides.{nat_tests}
use Rattle.std.proofs.Math.Seq.{take-append_seam, drop-append_seam}
use Rattle.std.proofs.lemmas.List.{length-append}
use Rattle.std.proofs.lemmas.Fmt.{decimal_by_steps, decimal_nonempty}
use Rattle.std.specs.Fmt.{decimal}
use Rattle.std.specs.List.{list_all}
use Rattle.imap_types.specs.DateTimes.{is_digit}
use Rattle.imap_types.specs.Keywords.{is_astring_octet}
use Rattle.imap_print.specs.Appending.{spaced}
use Rattle.imap_print.specs.Reading.{◌>>=◌, after, octets_at, field_at, is_in, lead, literal_at, number_from, numbers_of_set, or_else, quoted_from, run_at, run_after_first, runs_at, runs_after, set_at, capped_at_32_bits, span, string_at, string_after_quote, with_prefix, with_octet}
use Rattle.imap_answers.specs.Strings.{escaped_octet, field_text, has_line_octet, is_plain, literal_text, name_text, quoted_string, run_text, separated_by, set_text}
use Rattle.imap_answers.specs.Printable.{IsSet}
use Rattle.imap_types.proofs.NumbersLemmas.{greatest-runs, numbers_in-runs_of, runs_of-are_runs, test_from_runs}
use Rattle.imap_types.specs.Numbers.{AreRunsFrom, are_runs_from, greatest, numbers_in, runs_of}
use Rattle.imap_types.specs.declared.number_set.Run.{Run}
use Rattle.imap_types.specs.Names.{fold_inbox, inbox, is_inbox}
use Rattle.imap_print.specs.declared.scanner.ScanClass.{ScanClass}
use Rattle.imap_print.specs.declared.scanner.ScanClass.TheVariants.{Astring}

-- a prefix is skipped
pub after-round_trip : (ps rest : List ℕ) → after ps (ps ++ rest) ≡ Some rest
after-round_trip [] rest = refl
after-round_trip (p ∷ ps) rest = rw (eq-eqb p p refl) (after-round_trip ps rest)

-- the skipped octets are the prefix
pub after-takes : (ps bs rest : List ℕ) → after ps bs ≡ Some rest → bs ≡ ps ++ rest
after-takes [] bs rest h = cc
after-takes (p ∷ ps) [] rest h = cc
after-takes (p ∷ ps) (b ∷ bs) rest h =
    elim (cases_Bool (eqb b p)) [
      | inl t ↦ let e : b ≡ p = eqb-true b p t in let k : after ps bs ≡ Some rest = rw t at h in λ i. e i ∷ after-takes ps bs rest k i
      | inr f ↦ absurd (let k : ◌≡◌ {A = Option (List ℕ)} None (Some rest) = rw f at h in cc)
    ]

-- Whether two texts differ before either ends.
abbrev pub apart : List ℕ → List ℕ → Bool
apart [] ms = false
apart (l ∷ ls) [] = false
apart (l ∷ ls) (m ∷ ms) = cond (eqb m l) (apart ls ms) true

pub after-apart : (ls ms rest : List ℕ) → apart ls ms ≡ true → after ls (ms ++ rest) ≡ None
after-apart [] ms rest h = cc
after-apart (l ∷ ls) [] rest h = cc
after-apart (l ∷ ls) (m ∷ ms) rest h =
    elim (cases_Bool (eqb m l)) [
      | inl t ↦ rw t (after-apart ls ms rest (let k : apart ls ms ≡ true = rw t at h in k))
      | inr f ↦ rw f refl
    ]

pub apart-more : (ls ms rest : List ℕ) → apart ls ms ≡ true → apart ls (ms ++ rest) ≡ true
apart-more [] ms rest h = cc
apart-more (l ∷ ls) [] rest h = cc
apart-more (l ∷ ls) (m ∷ ms) rest h =
    elim (cases_Bool (eqb m l)) [
      | inl t ↦ rw t (apart-more ls ms rest (let k : apart ls ms ≡ true = rw t at h in k))
      | inr f ↦ rw f refl
    ]

-- the octets of a class, up to one outside it
pub span-round_trip : (class : ScanClass) (front rest : List ℕ) → list_all (is_in class) front ≡ true → span (is_in class) rest ≡ ([], rest) → span (is_in class) (front ++ rest) ≡ (front, rest)
span-round_trip class [] rest a h = h
span-round_trip class (b ∷ front) rest a h =
    let p = and_parts (is_in class b) (list_all (is_in class) front) a in
    let e : is_in class b ≡ true = p.0 in
    rw e (λ k. let s = span-round_trip class front rest p.1 h k in (b ∷ s.0, s.1))

-- a number, whatever digits follow
NumberRead : ℕ → List ℕ → Type 0
NumberRead n ds = n < 2 ^ 64 → (rest : List ℕ) → number_from 0 (ds ++ rest) ≡ number_from n rest

digit_is : (d : ℕ) → d < 10 → is_digit (48 + d) ≡ true
digit_is d h = grind (arith, nat_tests)

digit_step : (v d m : ℕ) (rest : List ℕ) → d < 10 → min (min (v * 10) 18446744073709551615 + (48 + d - 48)) 18446744073709551615 ≡ m → number_from v ((48 + d) ∷ rest) ≡ number_from m rest
digit_step v d m rest h e = rw (digit_is d h) (ap (λ k. number_from k rest) e)

number_one : (n : ℕ) → n < 10 → NumberRead n ((48 + n) ∷ [])
unfolding NumberRead
number_one n h = λ l rest. digit_step 0 n n rest h (omega arith)

number_more : (n : ℕ) (ds : List ℕ) → 10 ≤ n → NumberRead (n / 10) ds → NumberRead n (ds ++ ((48 + n % 10) ∷ []))
unfolding NumberRead
number_more n ds h r = λ l rest.
    ap (number_from 0) (append_assoc ds ((48 + n % 10) ∷ []) rest)
    ∙ r (omega arith) ((48 + n % 10) ∷ rest)
    ∙ digit_step (n / 10) (n % 10) n rest (omega arith) (omega arith)

pub number-round_trip : (n : ℕ) (rest : List ℕ) → n < 2 ^ 64 → number_from 0 (decimal n ++ rest) ≡ number_from n rest
unfolding NumberRead
number-round_trip n rest h = decimal_by_steps NumberRead number_one number_more n h h rest

pub capped_at_32_bits-round_trip : (n : ℕ) → n < 2 ^ 32 → capped_at_32_bits n ≡ n
capped_at_32_bits-round_trip n h = omega arith

-- the first text of a list, and the others
pub spaced-front : (f : Bool) (t : List ℕ) (ts : List (List ℕ)) (end : List ℕ) → spaced f (t ∷ ts) ++ end ≡ lead f t ++ (spaced false ts ++ end)
spaced-front true t ts end = append_assoc t (flat_map (λ next. 32 ∷ next) ts) end
spaced-front false t ts end = ap (λ (xs : List ℕ). 32 ∷ xs) (append_assoc t (flat_map (λ next. 32 ∷ next) ts) end)

lead-apart : (f : Bool) (l t rest : List ℕ) → apart l t ≡ true → after (lead f l) (lead f t ++ rest) ≡ None
lead-apart true l t rest h = after-apart l t rest h
lead-apart false l t rest h = after-apart l t rest h

-- a text that isn't on a list isn't read from it
pub none_after_lead : (f : Bool) (l : List ℕ) (ts : List (List ℕ)) (end : List ℕ) → list_all (apart l) ts ≡ true → after (lead f l) end ≡ None → after (lead f l) (spaced f ts ++ end) ≡ None
none_after_lead true l [] end a h = h
none_after_lead false l [] end a h = h
none_after_lead f l (t ∷ ts) end a h = ap (after (lead f l)) (spaced-front f t ts end) ∙ lead-apart f l t (spaced false ts ++ end) (and_parts _ _ a).0

-- one step that succeeds
step : {A B : Type 0} (r : Option A) (x : A) (f : A → Option B) → r ≡ Some x → (r >>= f) ≡ f x
step r x f e = ap (λ o. o >>= f) e

-- a string after its opening quote
pub quoted-round_trip : (string rest : List ℕ) → quoted_from false (flat_map escaped_octet string ++ (34 ∷ rest)) ≡ Some (string, rest)
quoted-round_trip [] rest = refl
quoted-round_trip (b ∷ bs) rest =
    elim (cases_Bool (eqb b 34)) [
      | inl t ↦ let k : b ≡ 34 = eqb-true b 34 t in rw (t, k) (ap (with_octet 34) (quoted-round_trip bs rest))
      | inr f ↦ elim (cases_Bool (eqb b 92)) [
        | inl t ↦ let k : b ≡ 92 = eqb-true b 92 t in rw (f, t) (ap (with_octet b) (quoted-round_trip bs rest))
        | inr g ↦ rw (f, g) (rw (f, g) (ap (with_octet b) (quoted-round_trip bs rest)))
      ]
    ]

-- an octet of the class `Astring` differs from an octet outside the class
not_octet : (k c : ℕ) → is_astring_octet k ≡ false → is_astring_octet c ≡ true → eqb c k ≡ false
not_octet k c f t = elim (cases_Bool (eqb c k)) [
  | inl e ↦ absurd (false≢true (sym f ∙ ap is_astring_octet (sym (eqb-true c k e)) ∙ t))
  | inr g ↦ g
]

pub word_parts : (p : ℕ → Bool) (word : List ℕ) → (not (eqb (length word) 0) && list_all p word) ≡ true → (c : ℕ) × (cs : List ℕ) × (word ≡ c ∷ cs) × (p c ≡ true) × (list_all p word ≡ true)
word_parts p [] h = cc
word_parts p (c ∷ cs) h =
    let a : list_all p (c ∷ cs) ≡ true = (and_parts (not (eqb (length (c ∷ cs)) 0)) (list_all p (c ∷ cs)) h).1 in
    (c, cs, refl, (and_parts (p c) (list_all p cs) a).0, a)

plain_parts : (string : List ℕ) → is_plain string ≡ true → (c : ℕ) × (cs : List ℕ) × (string ≡ c ∷ cs) × (is_astring_octet c ≡ true) × (list_all is_astring_octet string ≡ true)
plain_parts string h = word_parts is_astring_octet string (and_parts _ _ h).0

unquoted : (c : ℕ) (cs rest : List ℕ) → is_astring_octet c ≡ true → list_all is_astring_octet (c ∷ cs) ≡ true → span (is_in Astring) rest ≡ ([], rest) → string_at ((c ∷ cs) ++ rest) ≡ Some (c ∷ cs, rest)
unquoted c cs rest o a h =
    ap (λ b. string_after_quote (cond b (Some (cs ++ rest)) None) (c ∷ (cs ++ rest))) (not_octet 34 c refl o)
    ∙ ap (λ x. Some x) (span-round_trip Astring (c ∷ cs) rest a h)

plain-round_trip : (string rest : List ℕ) → is_plain string ≡ true → span (is_in Astring) rest ≡ ([], rest) → string_at (string ++ rest) ≡ Some (string, rest)
plain-round_trip string rest h s =
    let p = plain_parts string h in
    subst (λ (x : List ℕ). string_at (x ++ rest) ≡ Some (x, rest)) (sym p.2) (unquoted p.0 p.1 rest p.3 (subst (λ (x : List ℕ). list_all is_astring_octet x ≡ true) p.2 p.4) s)

quotes-round_trip : (string rest : List ℕ) → string_at (quoted_string string ++ rest) ≡ Some (string, rest)
quotes-round_trip string rest = ap (quoted_from false) (append_assoc (flat_map escaped_octet string) (34 ∷ []) rest) ∙ quoted-round_trip string rest

plain_or_quoted : (b : Bool) (name rest : List ℕ) → is_plain name ≡ b → span (is_in Astring) rest ≡ ([], rest) → string_at (cond b name (quoted_string name) ++ rest) ≡ Some (name, rest)
plain_or_quoted true name rest e s = plain-round_trip name rest e s
plain_or_quoted false name rest e s = quotes-round_trip name rest

name_by : (b : Bool) (name rest : List ℕ) → is_inbox name ≡ b → cond b inbox name ≡ name → span (is_in Astring) rest ≡ ([], rest) → string_at (cond b inbox (cond (is_plain name) name (quoted_string name)) ++ rest) ≡ Some (name, rest)
name_by true name rest e f s = plain-round_trip inbox rest refl s ∙ ap (λ (n : List ℕ). Some (n, rest)) f
name_by false name rest e f s = plain_or_quoted (is_plain name) name rest refl s

-- a name, up to what ends it
pub name-round_trip : (name rest : List ℕ) → fold_inbox name ≡ name → span (is_in Astring) rest ≡ ([], rest) → string_at (name_text name ++ rest) ≡ Some (name, rest)
name-round_trip name rest f s = name_by (is_inbox name) name rest refl f s

-- a literal
pub octets_at-round_trip : (string rest : List ℕ) → octets_at (length string) (string ++ rest) ≡ Some (string, rest)
octets_at-round_trip string rest =
    let l : length string ≤ length (string ++ rest) = omega (arith, length-append string rest) in
    ap (λ b. cond b (Some (take (length string) (string ++ rest), drop (length string) (string ++ rest))) None) (le-leb _ _ l)
    ∙ (λ k. Some (take-append_seam string rest k, drop-append_seam string rest k))

pub literal-round_trip : (string rest : List ℕ) → length string < 2 ^ 64 → literal_at (literal_text string ++ rest) ≡ Some (string, rest)
unfolding literal_at
literal-round_trip string rest l =
    let whole : (decimal (length string) ++ (125 ∷ 13 ∷ 10 ∷ [])) ++ string ++ rest ≡ decimal (length string) ++ (125 ∷ 13 ∷ 10 ∷ (string ++ rest)) = simp append_assoc in
    ap (λ (d : List ℕ). after (codes "}\r\n") (number_from 0 d).1 >>= octets_at (number_from 0 d).0) whole
    ∙ ap (λ (x : ℕ × List ℕ). after (codes "}\r\n") x.1 >>= octets_at x.0) (number-round_trip (length string) (125 ∷ 13 ∷ 10 ∷ (string ++ rest)) l)
    ∙ octets_at-round_trip string rest

-- the name of a header field
field_or : (b d : Bool) (name rest : List ℕ) → is_plain name ≡ b → length name < 2 ^ 64 → span (is_in Astring) rest ≡ ([], rest) → field_at (cond b name (cond d (literal_text name) (quoted_string name)) ++ rest) ≡ Some (name, rest)
unfolding field_at literal_at
field_or true d name rest e l s =
    let p = plain_parts name e in
    let no : after (codes "{") (p.0 ∷ (p.1 ++ rest)) ≡ None = ap (λ b. cond b (Some (p.1 ++ rest)) None) (not_octet 123 p.0 refl p.3) in
    let none : literal_at (name ++ rest) ≡ None = ap (λ (x : List ℕ). literal_at (x ++ rest)) p.2 ∙ ap (λ o. o >>= λ digits. after (codes "}\r\n") (number_from 0 digits).1 >>= octets_at (number_from 0 digits).0) no in
    ap (λ o. or_else o (string_at (name ++ rest))) none ∙ plain-round_trip name rest e s
field_or false true name rest e l s = ap (λ o. or_else o (string_at (literal_text name ++ rest))) (literal-round_trip name rest l)
field_or false false name rest e l s = quotes-round_trip name rest

pub field-round_trip : (name rest : List ℕ) → length name < 2 ^ 64 → span (is_in Astring) rest ≡ ([], rest) → field_at (field_text name ++ rest) ≡ Some (name, rest)
field-round_trip name rest l s = field_or (is_plain name) (has_line_octet name) name rest refl l s

-- runs, up to what ends a set
pub record EndsSet (rest : List ℕ) : Type 0 where
  pub number : (n : ℕ) → number_from n rest ≡ (n, rest)
  pub colon : after (codes ":") rest ≡ None
  pub comma : after (codes ",") rest ≡ None

run_one : (r : Run) (rest : List ℕ) → r.first ≡ r.last → r.last < 2 ^ 32 → ((n : ℕ) → number_from n rest ≡ (n, rest)) → after (codes ":") rest ≡ None → run_at (decimal r.first ++ rest) ≡ (r, rest)
run_one r rest e l n c =
    let read : number_from 0 (decimal r.first ++ rest) ≡ (r.first, rest) = number-round_trip r.first rest (omega arith) ∙ n r.first in
    let value : capped_at_32_bits r.first ≡ r.first = omega arith in
    ap (λ (x : ℕ × List ℕ). run_after_first x.0 (after (codes ":") x.1) x.1) read
    ∙ ap (λ o. run_after_first r.first o rest) c
    ∙ (λ k. (record { first = value k; last = (value ∙ e) k }, rest))

run_two : (r : Run) (rest : List ℕ) → r.first ≤ r.last → r.last < 2 ^ 32 → ((n : ℕ) → number_from n rest ≡ (n, rest)) → run_at ((decimal r.first ++ codes ":" ++ decimal r.last) ++ rest) ≡ (r, rest)
run_two r rest o l n =
    let whole : (decimal r.first ++ codes ":" ++ decimal r.last) ++ rest ≡ decimal r.first ++ (58 ∷ (decimal r.last ++ rest)) = simp append_assoc in
    let read : number_from 0 (decimal r.first ++ (58 ∷ (decimal r.last ++ rest))) ≡ (r.first, 58 ∷ (decimal r.last ++ rest)) = number-round_trip r.first _ (omega arith) in
    let round_trip : number_from 0 (decimal r.last ++ rest) ≡ (r.last, rest) = number-round_trip r.last rest (omega arith) ∙ n r.last in
    let first : capped_at_32_bits r.first ≡ r.first = omega arith in
    let last : capped_at_32_bits r.last ≡ r.last = omega arith in
    ap run_at whole
    ∙ ap (λ (x : ℕ × List ℕ). run_after_first x.0 (after (codes ":") x.1) x.1) read
    ∙ (λ k. (record { first = first k; last = capped_at_32_bits (round_trip k).0 }, (round_trip k).1))
    ∙ (λ k. (record { first = r.first; last = last k }, rest))

run_by : (b : Bool) (r : Run) (rest : List ℕ) → eqb r.first r.last ≡ b → r.first ≤ r.last → r.last < 2 ^ 32 → ((n : ℕ) → number_from n rest ≡ (n, rest)) → after (codes ":") rest ≡ None → run_at (cond b (decimal r.first) (decimal r.first ++ codes ":" ++ decimal r.last) ++ rest) ≡ (r, rest)
run_by true r rest e o l n c = run_one r rest (eqb-true _ _ e) l n c
run_by false r rest e o l n c = run_two r rest o l n

run-round_trip : (r : Run) (rest : List ℕ) → r.first ≤ r.last → r.last < 2 ^ 32 → ((n : ℕ) → number_from n rest ≡ (n, rest)) → after (codes ":") rest ≡ None → run_at (run_text r ++ rest) ≡ (r, rest)
run-round_trip r rest o l n c = run_by (eqb r.first r.last) r rest refl o l n c

-- Runs whose numbers have 32 bits.
AreSmallRuns : List Run → Type 0
AreSmallRuns [] = Unit {0}
AreSmallRuns (r ∷ rs) = (r.first ≤ r.last) × (r.last < 2 ^ 32) × AreSmallRuns rs

runs-round_trip : (fuel : ℕ) (r : Run) (rs : List Run) (rest : List ℕ) → length (r ∷ rs) ≤ fuel → AreSmallRuns (r ∷ rs) → EndsSet rest → runs_at fuel (separated_by 44 (map run_text (r ∷ rs)) ++ rest) ≡ Some (r ∷ rs, rest)
unfolding AreSmallRuns
runs-round_trip zero r rs rest l a e = absurd (omega arith)
runs-round_trip (suc fuel) r [] rest l a e =
    let whole : (run_text r ++ []) ++ rest ≡ run_text r ++ rest = simp append_assoc in
    let read : run_at ((run_text r ++ []) ++ rest) ≡ (r, rest) = ap run_at whole ∙ run-round_trip r rest a.0 a.1 e.number e.colon in
    ap (λ (x : Run × List ℕ). runs_after x.0 (after (codes ",") x.1) x.1 (runs_at fuel)) read
    ∙ ap (λ o. runs_after r o rest (runs_at fuel)) e.comma
runs-round_trip (suc fuel) r (s ∷ rs) rest l a e =
    let more = separated_by 44 (map run_text (s ∷ rs)) ++ rest in
    let whole : (run_text r ++ (44 ∷ separated_by 44 (map run_text (s ∷ rs)))) ++ rest ≡ run_text r ++ (44 ∷ more) = append_assoc (run_text r) (44 ∷ separated_by 44 (map run_text (s ∷ rs))) rest in
    let read : run_at ((run_text r ++ (44 ∷ separated_by 44 (map run_text (s ∷ rs)))) ++ rest) ≡ (r, 44 ∷ more) = ap run_at whole ∙ run-round_trip r (44 ∷ more) a.0 a.1 (λ n. refl) refl in
    ap (λ (x : Run × List ℕ). runs_after x.0 (after (codes ",") x.1) x.1 (runs_at fuel)) read
    ∙ ap (with_prefix (r ∷ [])) (runs-round_trip fuel s rs rest (omega arith) a.2 e)

run_filled : (r : Run) → r.first < 2 ^ 32 → 0 < length (run_text r)
run_filled r l = elim (cases_Bool (eqb r.first r.last)) [
  | inl t ↦ rw t (decimal_nonempty r.first (omega arith))
  | inr f ↦ rw f (omega (arith, decimal_nonempty r.first (omega arith), length-append (decimal r.first ++ codes ":") (decimal r.last), length-append (decimal r.first) (codes ":")))
]

runs_fit : (r : Run) (rs : List Run) (rest : List ℕ) → AreSmallRuns (r ∷ rs) → length (r ∷ rs) ≤ length (separated_by 44 (map run_text (r ∷ rs)) ++ rest)
unfolding AreSmallRuns
runs_fit r [] rest a = omega (arith, run_filled r (omega (arith, a.0, a.1)), length-append (run_text r ++ []) rest, length-append (run_text r) [])
runs_fit r (s ∷ rs) rest a =
    omega (arith, runs_fit s rs rest a.2, run_filled r (omega (arith, a.0, a.1)), length-append (run_text r ++ (44 ∷ separated_by 44 (map run_text (s ∷ rs)))) rest, length-append (run_text r) (44 ∷ separated_by 44 (map run_text (s ∷ rs))), length-append (separated_by 44 (map run_text (s ∷ rs))) rest)

small_runs : (low : ℕ) (rs : List Run) → AreRunsFrom low rs → greatest (numbers_in rs) < 2 ^ 32 → AreSmallRuns rs
unfolding AreSmallRuns
small_runs low [] h g = tt
small_runs low (r ∷ rs) h g =
    let k : greatest (numbers_in (r ∷ rs)) ≡ max r.last (greatest (numbers_in rs)) = greatest-runs r rs h.1 in
    (h.1, omega arith, small_runs (r.last + 2) rs h.2 (omega arith))

set_by : (numbers : List ℕ) (rs : List Run) (rest : List ℕ) → AreRunsFrom 1 rs → numbers_in rs ≡ numbers → 0 < length numbers → greatest numbers < 2 ^ 32 → EndsSet rest → set_at (separated_by 44 (map run_text rs) ++ rest) ≡ Some (numbers, rest)
unfolding set_at
set_by numbers [] rest a n f g e = absurd (omega (arith, ap length n))
set_by numbers (r ∷ rs) rest a n f g e =
    let fits : AreSmallRuns (r ∷ rs) = small_runs 1 (r ∷ rs) a (subst (λ (x : List ℕ). greatest x < 2 ^ 32) (sym n) g) in
    let bytes = separated_by 44 (map run_text (r ∷ rs)) ++ rest in
    ap (λ o. o >>= λ runs. numbers_of_set (are_runs_from 1 runs.0) runs.0 runs.1) (runs-round_trip (length bytes) r rs rest (runs_fit r rs rest fits) fits e)
    ∙ ap (λ b. numbers_of_set b (r ∷ rs) rest) (test_from_runs 1 (r ∷ rs) a)
    ∙ ap (λ (x : List ℕ). Some (x, rest)) n

-- a set of numbers, up to what ends it
pub set-round_trip : (numbers rest : List ℕ) → IsSet numbers → EndsSet rest → set_at (set_text numbers ++ rest) ≡ Some (numbers, rest)
set-round_trip numbers rest s e = set_by numbers (runs_of numbers) rest (runs_of-are_runs 1 numbers s.rising) (numbers_in-runs_of 1 numbers s.rising) s.filled s.small e

-- the name of a header field doesn't begin with a parenthesis
field_apart_by : (b d : Bool) (name : List ℕ) → is_plain name ≡ b → apart (41 ∷ []) (cond b name (cond d (literal_text name) (quoted_string name))) ≡ true
field_apart_by true d name e =
    let p = plain_parts name e in
    ap (apart (41 ∷ [])) p.2 ∙ ap (λ b. cond b (apart [] p.1) true) (not_octet 41 p.0 refl p.3)
field_apart_by false true name e = refl
field_apart_by false false name e = refl

pub field_apart : (name : List ℕ) → apart (41 ∷ []) (field_text name) ≡ true
field_apart name = field_apart_by (is_plain name) (has_line_octet name) name refl

field_filled_by : (b d : Bool) (name : List ℕ) → is_plain name ≡ b → 0 < length (cond b name (cond d (literal_text name) (quoted_string name)))
field_filled_by true d name e =
    let p = plain_parts name e in
    let l : length name ≡ suc (length p.1) = ap length p.2 in
    omega arith
field_filled_by false true name e = omega arith
field_filled_by false false name e = omega arith

pub field-filled : (name : List ℕ) → 0 < length (field_text name)
field-filled name = field_filled_by (is_plain name) (has_line_octet name) name refl
