-- The words of keys, and their arguments, as tokens.
use Rattle.std.proofs.Common.{◌≡◌, inl, inr, ℕ, Bool, true, false, cond, ◌<◌, ◌≤◌, ◌||◌, not, List, [], ◌∷◌, ◌++◌, codes, length, Option, Some, None, eqb, refl, sym, ap, ◌∙◌, subst, append_assoc, append-nil, arith}
use Rattle.std.proofs.lemmas.Bool.{and_from, and_parts, cases_Bool, le-ltb}
use Rattle.std.proofs.lemmas.Bool.Decides.{nat_tests}
use Rattle.std.proofs.lemmas.Slice.Eq.{bytes_eq-Decides}
use Rattle.std.specs.Char.{to_ascii_lowercase}
use Rattle.std.specs.List.{list_all, list_any}
use Rattle.std.specs.Prelude.{◌==◌, nat_lt}
use Rattle.std.specs.Str.{bytes_eq}
use Rattle.imap_types.specs.DateTimes.{are_letters_of, is_digit, month_of}
use Rattle.imap_types.specs.Keywords.{is_atom_octet, to_lower_case}
use Rattle.imap_types.specs.declared.day.Day.{Day}
use Rattle.imap_types.specs.declared.sequence_set.SequenceBound.{SequenceBound}
use Rattle.imap_types.specs.declared.sequence_set.SequenceBound.TheVariants.{Number, Greatest}
use Rattle.imap_types.specs.declared.sequence_set.SequenceRange.{SequenceRange}
use Rattle.imap_syntax.specs.Dates.{date, date_text, digits_to}
use Rattle.imap_syntax.specs.Faults.{begins_with_class}
use Rattle.imap_syntax.specs.Languages.{each_after, exactly, word}
use Rattle.imap_syntax.specs.Sets.{bound, range, sequence_set}
use Rattle.imap_syntax.specs.Strings.{begins_with, is_in, is_quotable, number_of, number_to, quoted, quoted_escape, run, text_of}
use Rattle.imap_syntax.specs.declared.octet_class.OctetClass.{OctetClass}
use Rattle.imap_syntax.specs.declared.octet_class.OctetClass.TheVariants.{Atom, Digit, Pattern}
use Rattle.imap_syntax.specs.declared.search.DateRelation.{DateRelation}
use Rattle.imap_syntax.specs.declared.search.DateRelation.TheVariants as order
use Rattle.imap_grammar.specs.Reading.{after, before, both, date_at, date_parts_at, date_text_at, digits_at, hyphened, is_date, is_nil, month_name_at, octets_at, ◌>>=◌}
use Rattle.imap_grammar.proofs.DateTimeLaws.{date_to}
use Rattle.imap_grammar.proofs.KeyLaws.{set_first}
use Rattle.imap_grammar.proofs.ReaderLaws.{whole_to}
use Rattle.imap_grammar.proofs.Spans.{pattern_octet, run_complete}
use Rattle.imap_grammar.proofs.Texts.{octets_complete}
use Rattle.imap_grammar.proofs.WordLaws.{word_atoms}
use Rattle.rev1_front.specs.SearchReading.{entry_len, key_word, text_keys, texts_len, word_or_texts}
use Rattle.rev1_front.specs.declared.search_keys.KeyWord.{KeyWord}
use Rattle.rev1_front.specs.declared.search_keys.KeyWord.TheVariants as words

-- octets of a class are octets of words
pub all_pattern : (class : OctetClass) (bs : List ℕ) → list_all (is_in class) bs ≡ true → list_all (is_in Pattern) bs ≡ true
all_pattern class [] h = refl
all_pattern class (b ∷ bs) h =
    let p = and_parts (is_in class b) (list_all (is_in class) bs) h in
    and_from _ _ (pattern_octet class b p.0) (all_pattern class bs p.1)

pub run_text : (class : OctetClass) (value text : List ℕ) → run class value text → text_of Pattern value text
run_text class value text r = inl (r.0, all_pattern class value r.1, r.2)

pub class_text : (class : OctetClass) (value text : List ℕ) → text_of class value text → text_of Pattern value text
class_text class value text t = elim t [ inl r ↦ run_text class value text r | inr q ↦ inr q ]

-- a word of a key
abbrev pub IsKeyToken : List ℕ → Type 0
IsKeyToken letters = (list_all is_atom_octet (to_lower_case letters) ≡ true) × (is_nil (to_lower_case letters) ≡ false)

pub word_some : (letters text : List ℕ) → IsKeyToken letters → word letters text → text ≡ [] → ⊥
word_some letters [] k w e = let z : true ≡ false = ap is_nil w ∙ k.1 in cc
word_some letters (b ∷ bs) k w e = cc

pub word_text : (letters text : List ℕ) → IsKeyToken letters → word letters text → text_of Pattern text text
word_text letters text k w = inl (word_some letters text k w, all_pattern Atom text (word_atoms letters text k.0 w), refl)

-- what a token asks for, by its lower case
abbrev is_lower : List ℕ → List ℕ → Bool
is_lower letters lower = bytes_eq lower (to_lower_case letters)

abbrev lower_order : List ℕ → Option DateRelation
lower_order lower =
    cond (is_lower (codes "SENTBEFORE") lower) (Some order.Before)
    (cond (is_lower (codes "SENTON") lower) (Some order.On)
    (cond (is_lower (codes "SENTSINCE") lower) (Some order.Since) None))

abbrev lower_count : List ℕ → ℕ
lower_count lower =
    cond (is_lower (codes "HEADER") lower) 2 (cond (list_any (λ key. is_lower key lower) text_keys) 1 0)

abbrev order_or_texts : Option DateRelation → List ℕ → KeyWord
order_or_texts (Some relation) lower = words.Sent relation
order_or_texts None lower = words.Texts (lower_count lower)

abbrev pub lower_word : List ℕ → KeyWord
lower_word lower =
    cond (is_lower (codes "OLD") lower) words.Old
    (cond (is_lower (codes "NEW") lower || is_lower (codes "RECENT") lower) words.Recent
    (cond (is_lower (codes "MODSEQ") lower) words.ModSeq
    (order_or_texts (lower_order lower) lower)))

order_same : (o : Option DateRelation) (token : List ℕ) → word_or_texts o token ≡ order_or_texts o (to_lower_case token)
order_same None token = refl
order_same (Some relation) token = refl

by_lower : (token : List ℕ) → key_word token ≡ lower_word (to_lower_case token)
by_lower token =
    ap (λ k. cond (is_lower (codes "OLD") (to_lower_case token)) words.Old
    (cond (is_lower (codes "NEW") (to_lower_case token) || is_lower (codes "RECENT") (to_lower_case token)) words.Recent
    (cond (is_lower (codes "MODSEQ") (to_lower_case token)) words.ModSeq k))) (order_same (lower_order (to_lower_case token)) token)

pub word_kind : (letters text : List ℕ) → word letters text → key_word text ≡ key_word letters
word_kind letters text w = by_lower text ∙ ap lower_word w ∙ sym (by_lower letters)

-- no word begins with a digit or `*`
pub lower_digit : (b : ℕ) → (is_digit b || eqb b 42) ≡ true → (is_digit (to_ascii_lowercase b) || eqb (to_ascii_lowercase b) 42) ≡ true
lower_digit b h = grind (arith, nat_tests)

pub no_letter : (b c : ℕ) → (is_digit b || eqb b 42) ≡ true → 96 < c → eqb b c ≡ false
no_letter b c h l = grind (arith, nat_tests)

number_lower : (x : ℕ) (xs : List ℕ) → (is_digit x || eqb x 42) ≡ true → lower_word (x ∷ xs) ≡ words.Texts 0
number_lower x xs h =
    let b : eqb x 98 ≡ false = no_letter x 98 h (omega arith) in
    let c : eqb x 99 ≡ false = no_letter x 99 h (omega arith) in
    let f : eqb x 102 ≡ false = no_letter x 102 h (omega arith) in
    let g : eqb x 104 ≡ false = no_letter x 104 h (omega arith) in
    let k : eqb x 107 ≡ false = no_letter x 107 h (omega arith) in
    let l : eqb x 108 ≡ false = no_letter x 108 h (omega arith) in
    let m : eqb x 109 ≡ false = no_letter x 109 h (omega arith) in
    let n : eqb x 110 ≡ false = no_letter x 110 h (omega arith) in
    let o : eqb x 111 ≡ false = no_letter x 111 h (omega arith) in
    let r : eqb x 114 ≡ false = no_letter x 114 h (omega arith) in
    let s : eqb x 115 ≡ false = no_letter x 115 h (omega arith) in
    let t : eqb x 116 ≡ false = no_letter x 116 h (omega arith) in
    let u : eqb x 117 ≡ false = no_letter x 117 h (omega arith) in
    simp (b, c, f, g, k, l, m, n, o, r, s, t, u)

pub number_kind : (b : ℕ) (bs : List ℕ) → (is_digit b || eqb b 42) ≡ true → key_word (b ∷ bs) ≡ words.Texts 0
number_kind b bs h = by_lower (b ∷ bs) ∙ number_lower (to_ascii_lowercase b) (to_lower_case bs) (lower_digit b h)

-- ---- Arguments.

abbrev AllPattern : List ℕ → Type 0
AllPattern text = list_all (is_in Pattern) text ≡ true

both_pattern : (xs ys : List ℕ) → AllPattern xs → AllPattern ys → AllPattern (xs ++ ys)
both_pattern [] ys h k = k
both_pattern (x ∷ xs) ys h k =
    let p = and_parts (is_in Pattern x) (list_all (is_in Pattern) xs) h in
    and_from _ _ p.0 (both_pattern xs ys p.1 k)

joined_pattern : (xs ys text : List ℕ) → AllPattern xs → AllPattern ys → text ≡ xs ++ ys → AllPattern text
joined_pattern xs ys text h k e = ap (list_all (is_in Pattern)) e ∙ both_pattern xs ys h k

exactly_pattern : (this text : List ℕ) → text ≡ this → AllPattern this → AllPattern text
exactly_pattern this text e h = ap (list_all (is_in Pattern)) e ∙ h

digits_pattern : (digits text : List ℕ) → run Digit digits text → AllPattern text
digits_pattern digits text r = exactly_pattern digits text r.2 (all_pattern Digit digits r.1)

pub number_text : (limit value : ℕ) (text : List ℕ) → number_to limit value text → (digits : List ℕ) × text_of Pattern digits text
number_text limit value text n = (n.0.0, run_text Digit n.0.0 text n.0.1)

bound_pattern : (this : SequenceBound) (text : List ℕ) → bound this text → AllPattern text
bound_pattern (Number n) text h = digits_pattern h.0.0 text h.0.1
bound_pattern Greatest text h = exactly_pattern (42 ∷ []) text h refl

range_pattern : (this : SequenceRange) (text : List ℕ) → range this text → AllPattern text
range_pattern this text h = elim h [
  | inl two ↦
      let tail = two.3 in
      let after : AllPattern two.1 = joined_pattern tail.0 tail.1 two.1 (exactly_pattern (58 ∷ []) tail.0 tail.2 refl) (bound_pattern this.last tail.1 tail.3) tail.4 in
      joined_pattern two.0 two.1 text (bound_pattern this.first two.0 two.2) after two.4
  | inr one ↦ bound_pattern this.first text one.0
]

more_pattern : (ranges : List SequenceRange) (text : List ℕ) → each_after (exactly (codes ",")) range ranges text → AllPattern text
more_pattern [] text h = exactly_pattern [] text h refl
more_pattern (r ∷ rs) text h =
    let tail = h.3 in
    let after : AllPattern h.1 = joined_pattern tail.0 tail.1 h.1 (range_pattern r tail.0 tail.2) (more_pattern rs tail.1 tail.3) tail.4 in
    joined_pattern h.0 h.1 text (exactly_pattern (44 ∷ []) h.0 h.2 refl) after h.4

set_pattern : (ranges : List SequenceRange) (text : List ℕ) → sequence_set ranges text → AllPattern text
set_pattern [] text h = absurd h
set_pattern (r ∷ rs) text h = joined_pattern h.0 h.1 text (range_pattern r h.0 h.2) (more_pattern rs h.1 h.3) h.4

-- a set begins with a digit or `*`
pub set_begins : (ranges : List SequenceRange) (text : List ℕ) → sequence_set ranges text → (b : ℕ) × (bs : List ℕ) × (text ≡ b ∷ bs) × ((is_digit b || eqb b 42) ≡ true)
set_begins ranges text h = first_of_set text (set_first ranges text [] (whole_to (sequence_set ranges) text h)).1
  where
    first_of_set : (text : List ℕ) → (begins_with_class Digit text || begins_with 42 text) ≡ true → (b : ℕ) × (bs : List ℕ) × (text ≡ b ∷ bs) × ((is_digit b || eqb b 42) ≡ true)
    first_of_set [] e = absurd cc
    first_of_set (b ∷ bs) e = (b, bs, refl, e)

pub set_some : (ranges : List SequenceRange) (text : List ℕ) → sequence_set ranges text → text ≡ [] → ⊥
set_some ranges text h e = let f = set_begins ranges text h in let z : ◌≡◌ {A = List ℕ} (f.0 ∷ f.1) [] = sym f.2 ∙ e in cc

pub set_text : (ranges : List SequenceRange) (text : List ℕ) → sequence_set ranges text → text_of Pattern text text
set_text ranges text h =
    inl (set_some ranges text h, set_pattern ranges text h, refl)

pub set_kind : (ranges : List SequenceRange) (text : List ℕ) → sequence_set ranges text → key_word text ≡ words.Texts 0
set_kind ranges text h = let f = set_begins ranges text h in ap key_word f.2 ∙ number_kind f.0 f.1 f.3

-- ---- Dates.

-- three letters that name a month
named_month : (name text : List ℕ) (m rest : ℕ) → list_all is_atom_octet (to_lower_case name) ≡ true → ((rest ≡ 0 → ⊥) → AllPattern text) → (cond (are_letters_of name text) m rest ≡ 0 → ⊥) → AllPattern text
named_month name text m rest atoms other some = elim (cases_Bool (are_letters_of name text)) [
  | inl t ↦ all_pattern Atom text (word_atoms name text atoms ((bytes_eq-Decides (to_lower_case text) (to_lower_case name)).0 t))
  | inr f ↦ other (λ z. some (ap (λ b. cond b m rest) f ∙ z))
]

abbrev from_dec : List ℕ → ℕ
from_dec text = cond (are_letters_of (codes "dec") text) 12 0

abbrev from_nov : List ℕ → ℕ
from_nov text = cond (are_letters_of (codes "nov") text) 11 (from_dec text)

abbrev from_oct : List ℕ → ℕ
from_oct text = cond (are_letters_of (codes "oct") text) 10 (from_nov text)

abbrev from_sep : List ℕ → ℕ
from_sep text = cond (are_letters_of (codes "sep") text) 9 (from_oct text)

abbrev from_aug : List ℕ → ℕ
from_aug text = cond (are_letters_of (codes "aug") text) 8 (from_sep text)

abbrev from_jul : List ℕ → ℕ
from_jul text = cond (are_letters_of (codes "jul") text) 7 (from_aug text)

abbrev from_jun : List ℕ → ℕ
from_jun text = cond (are_letters_of (codes "jun") text) 6 (from_jul text)

abbrev from_may : List ℕ → ℕ
from_may text = cond (are_letters_of (codes "may") text) 5 (from_jun text)

abbrev from_apr : List ℕ → ℕ
from_apr text = cond (are_letters_of (codes "apr") text) 4 (from_may text)

abbrev from_mar : List ℕ → ℕ
from_mar text = cond (are_letters_of (codes "mar") text) 3 (from_apr text)

abbrev from_feb : List ℕ → ℕ
from_feb text = cond (are_letters_of (codes "feb") text) 2 (from_mar text)

month_pattern : (text : List ℕ) → (month_of text ≡ 0 → ⊥) → AllPattern text
month_pattern text =
    named_month (codes "jan") text 1 (from_feb text) refl (named_month (codes "feb") text 2 (from_mar text) refl (named_month (codes "mar") text 3 (from_apr text) refl
    (named_month (codes "apr") text 4 (from_may text) refl (named_month (codes "may") text 5 (from_jun text) refl (named_month (codes "jun") text 6 (from_jul text) refl
    (named_month (codes "jul") text 7 (from_aug text) refl (named_month (codes "aug") text 8 (from_sep text) refl (named_month (codes "sep") text 9 (from_oct text) refl
    (named_month (codes "oct") text 10 (from_nov text) refl (named_month (codes "nov") text 11 (from_dec text) refl (named_month (codes "dec") text 12 0 refl (λ z. absurd (z refl)))))))))))))

no_month_zero : (this : Day) (text : List ℕ) → date_text this text → this.month ≡ 0 → ⊥
no_month_zero this text h e =
    let p = and_parts _ _ (date_to this.year this.month this.day h.1) in
    let q = and_parts _ _ p.1 in
    let z : false ≡ true = sym (ap (λ m. not (nat_lt m 1)) e) ∙ q.0 in
    cc

nil_front : (xs ys : List ℕ) → xs ++ ys ≡ [] → xs ≡ []
nil_front [] ys e = refl
nil_front (x ∷ xs) ys e = cc

date_some : (this : Day) (text : List ℕ) → date_text this text → text ≡ [] → ⊥
date_some this text h e =
    let a = h.0 in
    let digits = a.2.0.0 in
    digits.1.0 (sym digits.1.2 ∙ nil_front a.0 a.1 (sym a.4 ∙ e))

date_text_pattern : (this : Day) (text : List ℕ) → date_text this text → AllPattern text
date_text_pattern this text h =
    let a = h.0 in
    let b = a.3 in
    let c = b.3 in
    let d = c.3 in
    let month : AllPattern c.0 = month_pattern c.0 (λ z. let k : this.month ≡ 0 = sym c.2.1 ∙ z in no_month_zero this text h k) in
    let year : AllPattern d.1 = digits_pattern d.3.0.0.0 d.1 d.3.0.0.1 in
    let from_year : AllPattern c.1 = joined_pattern d.0 d.1 c.1 (exactly_pattern (45 ∷ []) d.0 d.2 refl) year d.4 in
    let from_month : AllPattern b.1 = joined_pattern c.0 c.1 b.1 month from_year c.4 in
    let after_day : AllPattern a.1 = joined_pattern b.0 b.1 a.1 (exactly_pattern (45 ∷ []) b.0 b.2 refl) from_month b.4 in
    joined_pattern a.0 a.1 text (digits_pattern a.2.0.0.0 a.0 a.2.0.0.1) after_day a.4

no_escape : (b : ℕ) → is_in Pattern b ≡ true → ((b == 34) || (b == 92)) ≡ false
no_escape b h = grind (arith, nat_tests)

quotable : (b : ℕ) → is_in Pattern b ≡ true → is_quotable b ≡ true
quotable b h = grind (arith, nat_tests)

-- octets of words are the same between quotes
pub plain_escape : (text : List ℕ) → AllPattern text → quoted_escape text ≡ text
plain_escape [] h = refl
plain_escape (b ∷ bs) h =
    let p = and_parts (is_in Pattern b) (list_all (is_in Pattern) bs) h in
    let n : ((b == 34) || (b == 92)) ≡ false = no_escape b p.0 in
    ap (λ c. cond c (92 ∷ b ∷ quoted_escape bs) (b ∷ quoted_escape bs)) n ∙ ap (λ xs. b ∷ xs) (plain_escape bs p.1)

pattern_quotable : (text : List ℕ) → AllPattern text → list_all is_quotable text ≡ true
pattern_quotable [] h = refl
pattern_quotable (b ∷ bs) h =
    let p = and_parts (is_in Pattern b) (list_all (is_in Pattern) bs) h in
    and_from _ _ (quotable b p.0) (pattern_quotable bs p.1)

pub date_is_text : (this : Day) (text : List ℕ) → date this text → (value : List ℕ) × text_of Pattern value text
date_is_text this text h = elim h [
  | inl t ↦ (text, inl (date_some this text t, date_text_pattern this text t, refl))
  | inr q ↦
      let tail = q.3 in
      let inner : AllPattern tail.0 = date_text_pattern this tail.0 tail.2 in
      let whole : text ≡ 34 ∷ (quoted_escape tail.0 ++ 34 ∷ []) =
      q.4 ∙ ap (λ xs. xs ++ q.1) q.2 ∙ ap (λ xs. 34 ∷ xs) (tail.4 ∙ ap (λ xs. tail.0 ++ xs) tail.3 ∙ ap (λ xs. xs ++ 34 ∷ []) (sym (plain_escape tail.0 inner))) in
      (tail.0, inr (inl (pattern_quotable tail.0 inner, whole)))
]

-- ---- The day of a whole date.

digits_read : (least most limit value : ℕ) (text rest : List ℕ) → digits_to least most limit value text → begins_with_class Digit rest ≡ false → digits_at least most limit (text ++ rest) ≡ Some (value, rest)
digits_read least most limit value text rest h s =
    let digits : List ℕ = h.0.0.0 in
    let r = run_complete Digit (text ++ rest) rest digits (text, h.0.0.1, refl) s in
    let is : number_of 0 digits ≡ value = h.0.0.2 in
    let same : length text ≡ length digits = ap length h.0.0.1.2 in
    let low : nat_lt (length digits) least ≡ false = le-ltb _ _ (let k : least ≤ length text = h.1 in omega arith) in
    let high : nat_lt most (length digits) ≡ false = le-ltb _ _ (let k : length text ≤ most = h.2 in omega arith) in
    let le : nat_lt limit (number_of 0 digits) ≡ false = le-ltb _ _ (let k : value ≤ limit = h.0.1 in omega arith) in
    ap (λ r. r >>= λ digits. cond (nat_lt (length digits.0) least || (nat_lt most (length digits.0) || nat_lt limit (number_of 0 digits.0))) None (Some (number_of 0 digits.0, digits.1))) r
    ∙ ap (λ b. cond (b || (nat_lt most (length digits) || nat_lt limit (number_of 0 digits))) None (Some (number_of 0 digits, rest))) low
    ∙ ap (λ b. cond (b || nat_lt limit (number_of 0 digits)) None (Some (number_of 0 digits, rest))) high
    ∙ ap (λ b. cond b None (Some (number_of 0 digits, rest))) le ∙ ap (λ n. Some (n, rest)) is

-- a month, a hyphen and a year
abbrev month_and_year : List ℕ → Option ((ℕ × ℕ) × List ℕ)
month_and_year = both month_name_at (hyphened (digits_at 4 4 9999))

abbrev read_month : List ℕ × List ℕ → Option (ℕ × List ℕ)
read_month letters = Some (month_of letters.0, letters.1)

abbrev with_month : ℕ → ℕ × List ℕ → Option ((ℕ × ℕ) × List ℕ)
with_month month year = Some ((month, year.0), year.1)

abbrev year_after : ℕ × List ℕ → Option ((ℕ × ℕ) × List ℕ)
year_after month = hyphened (digits_at 4 4 9999) month.1 >>= with_month month.0

abbrev with_day : ℕ → (ℕ × ℕ) × List ℕ → Option ((ℕ × (ℕ × ℕ)) × List ℕ)
with_day day later = Some ((day, later.0), later.1)

abbrev later_after : ℕ × List ℕ → Option ((ℕ × (ℕ × ℕ)) × List ℕ)
later_after day = hyphened month_and_year day.1 >>= with_day day.0

date_text_read : (this : Day) (text rest : List ℕ) → date_text this text → begins_with_class Digit rest ≡ false → date_text_at (text ++ rest) ≡ Some (this, rest)
date_text_read this text rest h s =
    let a = h.0 in
    let b = a.3 in
    let c = b.3 in
    let d = c.3 in
    let year = digits_read 4 4 9999 this.year d.1 rest d.3 s in
    let month : octets_at 3 (c.0 ++ (45 ∷ (d.1 ++ rest))) ≡ Some (c.0, 45 ∷ (d.1 ++ rest)) = ap (λ n. octets_at n (c.0 ++ (45 ∷ (d.1 ++ rest)))) (sym c.2.0) ∙ octets_complete c.0 (45 ∷ (d.1 ++ rest)) in
    let day = digits_read 1 2 31 this.day a.0 (45 ∷ (c.0 ++ (45 ∷ (d.1 ++ rest)))) a.2 refl in
    let from_year : c.1 ++ rest ≡ 45 ∷ (d.1 ++ rest) = ap (λ xs. xs ++ rest) (d.4 ∙ ap (λ xs. xs ++ d.1) d.2) in
    let from_month : b.1 ++ rest ≡ c.0 ++ (45 ∷ (d.1 ++ rest)) = ap (λ xs. xs ++ rest) c.4 ∙ append_assoc c.0 c.1 rest ∙ ap (λ xs. c.0 ++ xs) from_year in
    let after_day : a.1 ++ rest ≡ 45 ∷ (c.0 ++ (45 ∷ (d.1 ++ rest))) = ap (λ xs. xs ++ rest) (b.4 ∙ ap (λ xs. xs ++ b.1) b.2) ∙ ap (λ xs. 45 ∷ xs) from_month in
    let whole : text ++ rest ≡ a.0 ++ (45 ∷ (c.0 ++ (45 ∷ (d.1 ++ rest)))) = ap (λ xs. xs ++ rest) a.4 ∙ append_assoc a.0 a.1 rest ∙ ap (λ xs. a.0 ++ xs) after_day in
    let later : month_and_year (c.0 ++ (45 ∷ (d.1 ++ rest))) ≡ Some ((month_of c.0, this.year), rest) =
    ap (λ (r : Option (List ℕ × List ℕ)). (r >>= read_month) >>= year_after) month
    ∙ ap (λ (r : Option (ℕ × List ℕ)). r >>= with_month (month_of c.0)) year in
    let parts : date_parts_at (text ++ rest) ≡ Some ((this.day, (month_of c.0, this.year)), rest) =
    ap date_parts_at whole ∙ ap (λ (r : Option (ℕ × List ℕ)). r >>= later_after) day
    ∙ ap (λ (r : Option ((ℕ × ℕ) × List ℕ)). r >>= with_day this.day) later in
    ap (λ r. r >>= λ parts. cond (is_date parts.0.1.1 parts.0.1.0 parts.0.0) (Some (record { year = parts.0.1.1; month = parts.0.1.0; day = parts.0.0 }, parts.1)) None) parts
    ∙ ap (λ m. cond (is_date this.year m this.day) (Some (record { year = this.year; month = m; day = this.day }, rest)) None) c.2.1
    ∙ ap (λ b. cond b (Some (this, rest)) None) (date_to this.year this.month this.day h.1)

unquoted_date : (octets : List ℕ) → begins_with 34 octets ≡ false → date_at octets ≡ date_text_at octets
unquoted_date [] h = refl
unquoted_date (b ∷ bs) h = ap (λ c. cond c (before date_text_at (after (34 ∷ [])) bs) (date_text_at (b ∷ bs))) h

pub digit_no_quote : (b : ℕ) → is_digit b ≡ true → eqb b 34 ≡ false
digit_no_quote b h = grind (arith, nat_tests)

begins_digit : (digits text more : List ℕ) → run Digit digits text → begins_with 34 (text ++ more) ≡ false
begins_digit [] text more r = absurd (r.0 refl)
begins_digit (b ∷ bs) text more r = ap (λ (xs : List ℕ). begins_with 34 (xs ++ more)) r.2 ∙ digit_no_quote b (and_parts (is_digit b) (list_all (is_in Digit) bs) r.1).0

pub date_whole : (this : Day) (text : List ℕ) → date this text → date_at text ≡ Some (this, [])
date_whole this text h = elim h [
  | inl t ↦
      let a = t.0 in
      unquoted_date text (ap (begins_with 34) a.4 ∙ begins_digit a.2.0.0.0 a.0 a.1 a.2.0.0.1)
      ∙ ap date_text_at (sym (append-nil text)) ∙ date_text_read this text [] t refl
  | inr q ↦
      let tail = q.3 in
      let whole : text ≡ 34 ∷ (tail.0 ++ 34 ∷ []) = q.4 ∙ ap (λ xs. xs ++ q.1) q.2 ∙ ap (λ xs. 34 ∷ xs) (tail.4 ∙ ap (λ xs. tail.0 ++ xs) tail.3) in
      ap date_at whole ∙ ap (λ r. r >>= λ first. after (34 ∷ []) first.1 >>= λ rest. Some (first.0, rest)) (date_text_read this tail.0 (34 ∷ []) tail.2 refl)
]

-- ---- An entry begins with a quote.
pub quoted_entry : (inner front back value rest : List ℕ) → quoted value front → inner ≡ front ++ back → entry_len ((32 ∷ inner) ++ rest) ≡ texts_len 2 ((32 ∷ inner) ++ rest)
quoted_entry inner front back value rest q e =
    let k : inner ≡ 34 ∷ ((quoted_escape value ++ 34 ∷ []) ++ back) = e ∙ ap (λ xs. xs ++ back) q.1 in
    subst (λ (i : List ℕ). entry_len ((32 ∷ i) ++ rest) ≡ texts_len 2 ((32 ∷ i) ++ rest)) (sym k) refl
