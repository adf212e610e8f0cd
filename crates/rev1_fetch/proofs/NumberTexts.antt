-- Numbers of parts, as they are written and read.
use Rattle.std.proofs.Common.{◌≡◌, ◌≢◌, inl, inr, ℕ, zero, suc, ◌+◌, ◌-◌, ◌*◌, ◌/◌, ◌%◌, ◌^◌, ◌<◌, ◌≤◌, Bool, true, false, cond, nat_lt, eqb, List, [], ◌∷◌, ◌++◌, codes, decimal, length, Option, Result, Ok, Err, refl, sym, ap, ◌∙◌, subst, append_assoc, append-nil, arith}
use Rattle.std.specs.Prelude.{◌==◌}
use Rattle.std.proofs.lemmas.Bool.{and_from, and_parts, le-ltb}
use Rattle.std.proofs.lemmas.Bool.Decides.{nat_tests}
use Rattle.std.proofs.lemmas.Fmt.{decimal_by_steps}
use Rattle.std.proofs.lemmas.List.{length-append}
use Rattle.std.specs.List.{list_all, list_any}
use Rattle.imap_types.specs.DateTimes.{is_digit}
use Rattle.imap_types.specs.declared.section.Section.{Section}
use Rattle.imap_syntax.specs.Faults.{begins_with_class}
use Rattle.imap_syntax.specs.Strings.{begins_with, is_in, number_of}
use Rattle.imap_syntax.specs.declared.fetch.Partial.{Partial}
use Rattle.imap_syntax.specs.declared.octet_class.OctetClass.TheVariants.{Digit}
use Rattle.imap_grammar.specs.Reading.{is_nil}
use Rattle.imap_grammar.proofs.Spans.{span_complete, span_none}
use Rattle.rev1_fetch.proofs.SpanLemmas.{before_bracket}
use Rattle.rev1_fetch.specs.PartNumbers.{ArePartNumbers, BeginsSection, FoundNumber, NumberParts, after_numbers, after_point, leading_number, number_before, number_of_digits, number_parts, numbers_from, part_number, with_number}
use Rattle.rev1_fetch.specs.ReadItems.{IsBracketed, IsNumbered, IsOfNumber, IsProfileSection, IsSectionItem}
use Rattle.rev1_fetch.specs.ShownItems.{joint, part_section, path_text}
use Rattle.rev1_fetch.specs.declared.item_fault.ItemFault.{ItemFault}
use Rattle.rev1_fetch.specs.declared.item_fault.ItemFault.TheVariants.{PartZero, Unknown}
use Rattle.rev1_fetch.specs.declared.text_item.PartSection.{PartSection}

-- the digits of a number
pub record IsDecimal (n : ℕ) (digits : List ℕ) : Type 0 where
  pub some : digits ≢ []
  pub all : list_all (is_in Digit) digits ≡ true
  pub value : number_of 0 digits ≡ n
  pub first : 0 < n → begins_with 48 digits ≡ false

digit_is : (d : ℕ) → d < 10 → is_digit (48 + d) ≡ true
digit_is d h = grind (arith, nat_tests)

digit_not_zero : (d : ℕ) → 0 < d → eqb (48 + d) 48 ≡ false
digit_not_zero d h = grind (arith, nat_tests)

decimal_one : (n : ℕ) → n < 10 → IsDecimal n ((48 + n) ∷ [])
decimal_one n h = record {
  some = λ e. cc;
  all = and_from _ _ (digit_is n h) refl;
  value = omega arith;
  first = λ p. digit_not_zero n p;
}

number_last : (from : ℕ) (digits : List ℕ) (d : ℕ) → number_of from (digits ++ (48 + d) ∷ []) ≡ number_of from digits * 10 + d
number_last from [] d = omega arith
number_last from (digit ∷ digits) d = number_last (from * 10 + (digit - 48)) digits d

all_last : (digits : List ℕ) (d : ℕ) → list_all (is_in Digit) digits ≡ true → is_digit d ≡ true → list_all (is_in Digit) (digits ++ d ∷ []) ≡ true
all_last [] d h k = and_from _ _ k refl
all_last (digit ∷ digits) d h k =
    let p = and_parts (is_digit digit) (list_all (is_in Digit) digits) h in
    and_from _ _ p.0 (all_last digits d p.1 k)

begins_same : (digits more : List ℕ) → digits ≢ [] → begins_with 48 (digits ++ more) ≡ begins_with 48 digits
begins_same [] more h = absurd (h refl)
begins_same (digit ∷ digits) more h = refl

some_longer : (digits : List ℕ) (d : ℕ) → digits ++ d ∷ [] ≢ []
some_longer [] d e = cc
some_longer (digit ∷ digits) d e = cc

decimal_more : (n : ℕ) (digits : List ℕ) → 10 ≤ n → IsDecimal (n / 10) digits → IsDecimal n (digits ++ ((48 + n % 10) ∷ []))
decimal_more n digits h i = record {
  some = some_longer digits (48 + n % 10);
  all = all_last digits (48 + n % 10) i.all (digit_is (n % 10) (omega arith));
  value = number_last 0 digits (n % 10) ∙ ap (λ m. m * 10 + n % 10) i.value ∙ whole;
  first = λ p. begins_same digits ((48 + n % 10) ∷ []) i.some ∙ i.first (omega arith);
}
  where
    whole : (n / 10) * 10 + n % 10 ≡ n
    whole = omega arith

is_decimal : (n : ℕ) → n < 2 ^ 64 → IsDecimal n (decimal n)
is_decimal n h = decimal_by_steps IsDecimal decimal_one decimal_more n h

-- one number
abbrev Reading : Type 0
Reading = Result (Option FoundNumber) ItemFault

module _ (n : ℕ) (p : 0 < n) (l : n < 4294967296) where
  digits_read : (digits rest : List ℕ) → IsDecimal n digits → number_of_digits digits rest ≡ number_before n rest
  digits_read [] rest i = absurd (i.some refl)
  digits_read (d ∷ digits) rest i =
      ap (λ b. cond {A = Reading} b (Err PartZero) (cond (nat_lt 4294967295 (number_of 0 (d ∷ digits))) (Err Unknown) (number_before (number_of 0 (d ∷ digits)) rest))) (i.first p)
      ∙ ap (λ v. cond {A = Reading} (nat_lt 4294967295 v) (Err Unknown) (number_before v rest)) i.value ∙ ap (λ b. cond {A = Reading} b (Err Unknown) (number_before n rest)) (le-ltb 4294967295 n (omega arith))

  leading_is : (octet : ℕ) (rest : List ℕ) → is_digit octet ≡ false → leading_number (decimal n ++ octet ∷ rest) ≡ number_before n (octet ∷ rest)
  leading_is octet rest stop =
      let i = is_decimal n (omega arith) in
      ap (λ (cut : List ℕ × List ℕ). number_of_digits cut.0 cut.1) (span_complete Digit (decimal n) (octet ∷ rest) i.all stop) ∙ digits_read (decimal n) (octet ∷ rest) i

  -- another number or a word follows
  number_more : (count : ℕ) (before rest : List ℕ) → numbers_from (suc count) before (decimal n ++ 46 ∷ rest) ≡ numbers_from count (before ++ n ∷ []) rest
  number_more count before rest = ap (with_number (numbers_from count) before (decimal n ++ 46 ∷ rest)) (leading_is 46 rest refl)

  -- the closing bracket follows
  number_end : (count : ℕ) (before back : List ℕ) → numbers_from (suc count) before (decimal n ++ 93 ∷ back) ≡ Ok (number_parts (before ++ n ∷ []) false (93 ∷ back))
  number_end count before back = ap (with_number (numbers_from count) before (decimal n ++ 93 ∷ back)) (leading_is 93 back refl)

-- no number
no_number : (count : ℕ) (before rest : List ℕ) → begins_with_class Digit rest ≡ false → numbers_from count before rest ≡ after_numbers before rest
no_number zero before rest h = refl
no_number (suc count) before rest h = ap (λ (cut : List ℕ × List ℕ). with_number (numbers_from count) before rest (number_of_digits cut.0 cut.1)) (span_none Digit rest h)

after_some : (before rest : List ℕ) (n : ℕ) → after_numbers (before ++ n ∷ []) rest ≡ after_point (before ++ n ∷ []) rest
after_some [] rest n = refl
after_some (m ∷ before) rest n = refl

-- all numbers, and what follows them
module _ (back : List ℕ) where
  path_end : (path before : List ℕ) (n count : ℕ) → ArePartNumbers (n ∷ path) → length path < count → numbers_from count before (path_text (n ∷ path) ++ 93 ∷ back) ≡ Ok (number_parts (before ++ n ∷ path) false (93 ∷ back))
  path_end path before n zero h l = absurd (omega arith)
  path_end [] before n (suc count) h l = ap (λ t. numbers_from (suc count) before (t ++ 93 ∷ back)) (append-nil (decimal n)) ∙ number_end n h.0 h.1 count before back
  path_end (m ∷ path) before n (suc count) h l =
      ap (numbers_from (suc count) before) (append_assoc (decimal n) (46 ∷ path_text (m ∷ path)) (93 ∷ back)) ∙ number_more n h.0 h.1 count before (path_text (m ∷ path) ++ 93 ∷ back)
      ∙ path_end path (before ++ n ∷ []) m count h.2 (omega arith) ∙ ap (λ (p : List ℕ). Ok (number_parts p false (93 ∷ back))) (append_assoc before (n ∷ []) (m ∷ path))

  path_point : (path before : List ℕ) (n count : ℕ) → begins_with_class Digit back ≡ false → ArePartNumbers (n ∷ path) → length path < count → numbers_from count before (path_text (n ∷ path) ++ 46 ∷ back) ≡ after_point (before ++ n ∷ path) back
  path_point path before n zero d h l = absurd (omega arith)
  path_point [] before n (suc count) d h l =
      ap (λ t. numbers_from (suc count) before (t ++ 46 ∷ back)) (append-nil (decimal n)) ∙ number_more n h.0 h.1 count before back ∙ no_number count (before ++ n ∷ []) back d ∙ after_some before back n
  path_point (m ∷ path) before n (suc count) d h l =
      ap (numbers_from (suc count) before) (append_assoc (decimal n) (46 ∷ path_text (m ∷ path)) (46 ∷ back)) ∙ number_more n h.0 h.1 count before (path_text (m ∷ path) ++ 46 ∷ back)
      ∙ path_point path (before ++ n ∷ []) m count d h.2 (omega arith) ∙ ap (λ (p : List ℕ). after_point p back) (append_assoc before (n ∷ []) (m ∷ path))

-- there are at least as many octets as numbers
digits_some : (digits : List ℕ) → digits ≢ [] → 1 ≤ length digits
digits_some [] h = absurd (h refl)
digits_some (d ∷ digits) h = omega arith

path_long : (path : List ℕ) (n : ℕ) → ArePartNumbers (n ∷ path) → length path < length (path_text (n ∷ path))
path_long [] n h =
    let one : 1 ≤ length (decimal n) = digits_some (decimal n) (is_decimal n (omega (arith, h.1))).some in
    let all : length (path_text (n ∷ [])) ≡ length (decimal n) = ap length (append-nil (decimal n)) in
    omega arith
path_long (m ∷ path) n h =
    let one : 1 ≤ length (decimal n) = digits_some (decimal n) (is_decimal n (omega (arith, h.1))).some in
    let more : length path < length (path_text (m ∷ path)) = path_long path m h.2 in
    let all : length (path_text (n ∷ m ∷ path)) ≡ length (decimal n) + length (46 ∷ path_text (m ∷ path)) = length-append (decimal n) (46 ∷ path_text (m ∷ path)) in
    omega arith

enough : (path tail : List ℕ) (n : ℕ) → ArePartNumbers (n ∷ path) → length path < length (path_text (n ∷ path) ++ tail)
enough path tail n h =
    let more : length path < length (path_text (n ∷ path)) = path_long path n h in
    let all : length (path_text (n ∷ path) ++ tail) ≡ length (path_text (n ∷ path)) + length tail = length-append (path_text (n ∷ path)) tail in
    omega arith

-- a word of a section isn't MIME, and no number
named_point : (path name back : List ℕ) → BeginsSection name → (name ≡ [] → ⊥) → after_point path (name ++ 93 ∷ back) ≡ Ok (number_parts path false (name ++ 93 ∷ back))
named_point path [] back h some = absurd (some refl)
named_point path (letter ∷ letters) back (inl e) some = subst (λ (o : ℕ). after_point path (o ∷ (letters ++ 93 ∷ back)) ≡ Ok (number_parts path false (o ∷ (letters ++ 93 ∷ back)))) (sym e) refl
named_point path (letter ∷ letters) back (inr (inl e)) some = subst (λ (o : ℕ). after_point path (o ∷ (letters ++ 93 ∷ back)) ≡ Ok (number_parts path false (o ∷ (letters ++ 93 ∷ back)))) (sym e) refl
named_point path (letter ∷ letters) back (inr (inr (inl e))) some = subst (λ (o : ℕ). after_point path (o ∷ (letters ++ 93 ∷ back)) ≡ Ok (number_parts path false (o ∷ (letters ++ 93 ∷ back)))) (sym e) refl
named_point path (letter ∷ letters) back (inr (inr (inr e))) some = subst (λ (o : ℕ). after_point path (o ∷ (letters ++ 93 ∷ back)) ≡ Ok (number_parts path false (o ∷ (letters ++ 93 ∷ back)))) (sym e) refl

named_no_digit : (name back : List ℕ) → BeginsSection name → begins_with_class Digit (name ++ 93 ∷ back) ≡ false
named_no_digit [] back h = refl
named_no_digit (letter ∷ letters) back (inl e) = subst (λ (o : ℕ). is_digit o ≡ false) (sym e) refl
named_no_digit (letter ∷ letters) back (inr (inl e)) = subst (λ (o : ℕ). is_digit o ≡ false) (sym e) refl
named_no_digit (letter ∷ letters) back (inr (inr (inl e))) = subst (λ (o : ℕ). is_digit o ≡ false) (sym e) refl
named_no_digit (letter ∷ letters) back (inr (inr (inr e))) = subst (λ (o : ℕ). is_digit o ≡ false) (sym e) refl

-- a whole section
pub number_read : (path name back : List ℕ) → ArePartNumbers path → BeginsSection name → part_number (path_text path ++ (joint false (is_nil path) name ++ (name ++ 93 ∷ back))) ≡ Ok (number_parts path false (name ++ 93 ∷ back))
number_read [] name back h w = no_number (length (name ++ 93 ∷ back)) [] (name ++ 93 ∷ back) (named_no_digit name back w)
number_read (n ∷ path) [] back h w = path_end back path [] n (length (path_text (n ∷ path) ++ 93 ∷ back)) h (enough path (93 ∷ back) n h)
number_read (n ∷ path) (letter ∷ letters) back h w =
    let word : List ℕ = letter ∷ (letters ++ 93 ∷ back) in
    path_point word path [] n (length (path_text (n ∷ path) ++ 46 ∷ word)) (named_no_digit (letter ∷ letters) back w) h (enough path (46 ∷ word) n h) ∙ named_point (n ∷ path) (letter ∷ letters) back w (λ e. cc)

pub mime_read : (path back : List ℕ) → ArePartNumbers path → path ≢ [] → part_number (path_text path ++ (codes ".MIME" ++ 93 ∷ back)) ≡ Ok (number_parts path true (93 ∷ back))
mime_read [] back h some = absurd (some refl)
mime_read (n ∷ path) back h some =
    let word : List ℕ = codes "MIME" ++ 93 ∷ back in
    path_point word path [] n (length (path_text (n ∷ path) ++ 46 ∷ word)) refl h (enough path (46 ∷ word) n h)

-- an item with brackets
bracketed : (front section : List ℕ) (read : Result (PartSection × Bool) ItemFault) (number : NumberParts) → list_any (λ octet. octet == 91) front ≡ false → part_number section ≡ Ok number → IsOfNumber (front ++ 91 ∷ []) number read
    → IsSectionItem (front ++ 91 ∷ section) read
bracketed front section read number f n h =
    subst (λ (cut : List ℕ × List ℕ). IsBracketed cut.0 cut.1 read) (sym (before_bracket front section f)) (subst (λ m. IsNumbered (front ++ 91 ∷ []) m read) (sym n) h)

module _ (front path name back : List ℕ) (section : Section) (partial : Option Partial) (peek : Bool) (f : list_any (λ octet. octet == 91) front ≡ false) (h : ArePartNumbers path) where
  pub section_read : BeginsSection name → IsProfileSection ((front ++ codes "[") ++ (name ++ (codes "]" ++ back))) section partial peek
      → IsSectionItem (front ++ (codes "[" ++ (path_text path ++ (joint false (is_nil path) name ++ (name ++ (codes "]" ++ back)))))) (Ok (part_section path false section partial, peek))
  section_read w k =
      bracketed front (path_text path ++ (joint false (is_nil path) name ++ (name ++ 93 ∷ back))) (Ok (part_section path false section partial, peek)) (number_parts path false (name ++ 93 ∷ back)) f (number_read path name back h w) (refl, refl, k)

  pub header_read : path ≢ [] → IsProfileSection ((front ++ codes "[") ++ (codes "]" ++ back)) section partial peek
      → IsSectionItem (front ++ (codes "[" ++ (path_text path ++ (codes ".MIME" ++ (codes "]" ++ back))))) (Ok (part_section path true section partial, peek))
  header_read some k =
      bracketed front (path_text path ++ (codes ".MIME" ++ 93 ∷ back)) (Ok (part_section path true section partial, peek)) (number_parts path true (93 ∷ back)) f (mime_read path back h some) (refl, refl, k)
