use Rattle.std.proofs.Common.{◌≡◌, ◌≢◌, ◌≤◌, ◌<◌, ◌+◌, ◌*◌, ◌-◌, ◌∙◌, ℕ, zero, suc, true, false, List, [], ◌∷◌, Option, None, codes, refl, arith, length, length-drop, drop, get_or, ap, sym, subst, inl, inr}
use Rattle.std.specs.Str.{bytes_eq}
use Rattle.std.proofs.lemmas.Bool.{cases_Bool}
use Rattle.std.proofs.lemmas.List.{get_or-drop}
use Rattle.std.proofs.lemmas.Slice.Eq.{bytes_eq-Decides}
use Rattle.mail_bench.specs.Answers.{front_of, number_from}

-- further digits make a number no smaller
pub number_grows : (number : ℕ) (digits : List ℕ) → number ≤ number_from number digits
number_grows number [] = omega arith
number_grows number (digit ∷ digits) = let h = number_grows (number * 10 + (digit - 48)) digits in omega arith

-- one further digit
number_suc : (number : ℕ) (digits : List ℕ) (i : ℕ) → i < length digits
    → number_from number (drop i digits) ≡ number_from (number * 10 + (get_or digits i 0 - 48)) (drop (suc i) digits)
number_suc number [] i l = absurd (omega arith)
number_suc number (digit ∷ digits) zero l = refl
number_suc number (digit ∷ digits) (suc i) l = number_suc number digits i (omega arith)

pub number_next : (number : ℕ) (digits : List ℕ) (i : ℕ) → i < length digits
    → number_from number (drop i digits) ≡ number_from (number * 10 + (get_or digits i 0 - 48)) (drop (i + 1) digits)
number_next number digits i l =
    let k : suc i ≡ i + 1 = omega arith in
    subst (λ (m : ℕ). number_from number (drop i digits) ≡ number_from (number * 10 + (get_or digits i 0 - 48)) (drop m digits)) k (number_suc number digits i l)

-- ---- the end of an answer that reports the number of messages

ends : (text : List ℕ) → bytes_eq (drop (length text - 9) text) (codes " EXISTS\r\n") ≡ true → (9 ≤ length text) × (get_or text (length text - 9 + 6) 0 ≡ 83)
ends text e =
    let is : drop (length text - 9) text ≡ codes " EXISTS\r\n" = (bytes_eq-Decides (drop (length text - 9) text) (codes " EXISTS\r\n")).0 e in
    let long : length text - (length text - 9) ≡ 9 = sym (length-drop (length text - 9) text) ∙ ap length is in
    (omega arith, sym (get_or-drop (length text - 9) text 6 0) ∙ ap (λ (l : List ℕ). get_or l 6 0) is)

no_exists_end : (text : List ℕ) → ¬ (bytes_eq (drop (length text - 9) text) (codes " EXISTS\r\n") ≡ true) → front_of (codes " EXISTS\r\n") text ≡ None
no_exists_end text other =
    elim (cases_Bool (bytes_eq (drop (length text - 9) text) (codes " EXISTS\r\n"))) [
      | inl t ↦ absurd (other t)
      | inr f ↦ rw f refl
    ]

-- an answer without an S (83) before its line end doesn't report it
pub no_exists : (text : List ℕ) (place : ℕ) → place + 3 ≡ length text → get_or text place 0 ≢ 83 → front_of (codes " EXISTS\r\n") text ≡ None
no_exists text place at other =
    no_exists_end text (λ e. let so = ends text e in let same : length text - 9 + 6 ≡ place = omega arith in other (ap (λ (n : ℕ). get_or text n 0) (sym same) ∙ so.1))

pub too_short : (text : List ℕ) → length text < 3 → front_of (codes " EXISTS\r\n") text ≡ None
too_short text short = no_exists_end text (λ e. let so = ends text e in absurd (omega arith))
