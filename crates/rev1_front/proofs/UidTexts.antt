-- UIDs in decimal digits, with commas between them, are a sequence set.
use Rattle.std.proofs.Common.{◌≡◌, ◌≢◌, inl, inr, ℕ, ◌+◌, ◌-◌, ◌*◌, ◌/◌, ◌%◌, ◌^◌, ◌<◌, ◌≤◌, Bool, true, false, cond, List, [], ◌∷◌, ◌++◌, codes, decimal, map, flat_map, eqb, refl, sym, ap, ◌∙◌, subst, arith}
use Rattle.std.proofs.lemmas.Bool.{and_from, and_parts, cases_Bool}
use Rattle.std.proofs.lemmas.Bool.Decides.{nat_tests}
use Rattle.std.proofs.lemmas.Fmt.{decimal_by_steps}
use Rattle.std.specs.List.{filter, list_all}
use Rattle.imap_types.specs.DateTimes.{is_digit}
use Rattle.imap_answers.specs.Strings.{separated_by}
use Rattle.imap_syntax.specs.Languages.{each_after, exactly}
use Rattle.imap_syntax.specs.Sets.{range, sequence_set}
use Rattle.imap_syntax.specs.Strings.{begins_with, is_in, number_of}
use Rattle.imap_syntax.specs.declared.octet_class.OctetClass.TheVariants.{Digit}
use Rattle.rev1_front.specs.Rev1Keys.{HaveUids, only_uid}
use Rattle.rev1_front.specs.declared.search_days.SentDay.{SentDay}

-- UIDs from 1 to 4,294,967,295
abbrev pub AreUids : List ℕ → Type 0
AreUids [] = Unit {0}
AreUids (uid ∷ uids) = ((0 < uid) × (uid < 4294967296)) × AreUids uids

pub related_uids : (test : SentDay → Bool) (days : List SentDay) → HaveUids days → AreUids (map (λ sent. sent.uid) (filter test days))
related_uids test [] h = tt
related_uids test (sent ∷ days) h = elim (cases_Bool (test sent)) [
  | inl t ↦ subst (λ b. AreUids (map (λ sent. sent.uid) (cond b (sent ∷ filter test days) (filter test days)))) (sym t) ((h.0, h.1), related_uids test days h.2)
  | inr f ↦ subst (λ b. AreUids (map (λ sent. sent.uid) (cond b (sent ∷ filter test days) (filter test days)))) (sym f) (related_uids test days h.2)
]

-- the digits of a number
pub record IsDecimal (n : ℕ) (digits : List ℕ) : Type 0 where
  pub some : digits ≢ []
  pub all : list_all (is_in Digit) digits ≡ true
  pub value : number_of 0 digits ≡ n
  pub first : 0 < n → begins_with 48 digits ≡ false

digit_is : (d : ℕ) → d < 10 → is_digit (48 + d) ≡ true
digit_is d h = grind (arith, nat_tests)

digit_not_zero : (d : ℕ) → 0 < d → eqb (48 + d) 48 ≡ false
digit_not_zero d h = grind (arith, nat_tests)

decimal_one : (n : ℕ) → n < 10 → IsDecimal n ((48 + n) ∷ [])
decimal_one n h = record {
  some = λ e. cc;
  all = and_from _ _ (digit_is n h) refl;
  value = omega arith;
  first = λ p. digit_not_zero n p;
}

number_last : (from : ℕ) (digits : List ℕ) (d : ℕ) → number_of from (digits ++ (48 + d) ∷ []) ≡ number_of from digits * 10 + d
number_last from [] d = omega arith
number_last from (digit ∷ digits) d = number_last (from * 10 + (digit - 48)) digits d

all_last : (digits : List ℕ) (d : ℕ) → list_all (is_in Digit) digits ≡ true → is_digit d ≡ true → list_all (is_in Digit) (digits ++ d ∷ []) ≡ true
all_last [] d h k = and_from _ _ k refl
all_last (digit ∷ digits) d h k =
    let p = and_parts (is_digit digit) (list_all (is_in Digit) digits) h in
    and_from _ _ p.0 (all_last digits d p.1 k)

begins_same : (digits more : List ℕ) → digits ≢ [] → begins_with 48 (digits ++ more) ≡ begins_with 48 digits
begins_same [] more h = absurd (h refl)
begins_same (digit ∷ digits) more h = refl

some_longer : (digits : List ℕ) (d : ℕ) → digits ++ d ∷ [] ≢ []
some_longer [] d e = cc
some_longer (digit ∷ digits) d e = cc

decimal_more : (n : ℕ) (digits : List ℕ) → 10 ≤ n → IsDecimal (n / 10) digits → IsDecimal n (digits ++ ((48 + n % 10) ∷ []))
decimal_more n digits h i = record {
  some = some_longer digits (48 + n % 10);
  all = all_last digits (48 + n % 10) i.all (digit_is (n % 10) (omega arith));
  value = number_last 0 digits (n % 10) ∙ ap (λ m. m * 10 + n % 10) i.value ∙ whole;
  first = λ p. begins_same digits ((48 + n % 10) ∷ []) i.some ∙ i.first (omega arith);
}
  where
    whole : (n / 10) * 10 + n % 10 ≡ n
    whole = omega arith

pub is_decimal : (n : ℕ) → n < 2 ^ 64 → IsDecimal n (decimal n)
is_decimal n h = decimal_by_steps IsDecimal decimal_one decimal_more n h

range_uid : (uid : ℕ) → (0 < uid) × (uid < 4294967296) → range (only_uid uid) (decimal uid)
range_uid uid h =
    let i = is_decimal uid (omega arith) in
    inr (((decimal uid, (i.some, i.all, refl), i.value), i.first h.0, omega arith), refl)

more_uids : (uids : List ℕ) → AreUids uids → each_after (exactly (codes ",")) range (map only_uid uids) (flat_map (λ next. 44 ∷ next) (map decimal uids))
more_uids [] h = refl
more_uids (uid ∷ uids) h =
    (44 ∷ [], decimal uid ++ flat_map (λ next. 44 ∷ next) (map decimal uids), refl, (decimal uid, flat_map (λ next. 44 ∷ next) (map decimal uids), range_uid uid h.0, more_uids uids h.1, refl), refl)

pub uids_set : (uid : ℕ) (uids : List ℕ) → AreUids (uid ∷ uids) → sequence_set (map only_uid (uid ∷ uids)) (separated_by 44 (map decimal (uid ∷ uids)))
uids_set uid uids h = (decimal uid, flat_map (λ next. 44 ∷ next) (map decimal uids), range_uid uid h.0, more_uids uids h.1, refl)
