-- Numbers that are capped, and short ones.
use Rattle.std.proofs.Common.{◌≡◌, ℕ, ◌^◌, ◌<◌, ◌≤◌, true, false, cond, nat_lt, List, [], ◌∷◌, length, take, drop, get_or, min, Some, None, inl, inr, sym, ap, ◌∙◌, arith}
use Rattle.std.proofs.lemmas.Bool.{cases_Bool, le-ltb, lt-ltb, ltb-false, ltb-true}
use Rattle.imap_syntax.specs.Strings.{number_of}
use Rattle.imap_grammar.specs.Reading.{octets_at}

-- a cap above a limit changes no test
pub capped_above : (limit n cap : ℕ) → limit < cap → nat_lt limit (min n cap) ≡ nat_lt limit n
capped_above limit n cap h = elim (cases_Bool (nat_lt limit n)) [
  | inl t ↦ let l : limit < n = ltb-true limit n t in let m : limit < min n cap = omega arith in lt-ltb limit (min n cap) m ∙ sym t
  | inr f ↦ let l : n ≤ limit = ltb-false limit n f in let m : min n cap ≤ limit = omega arith in le-ltb limit (min n cap) m ∙ sym f
]

pub capped_same : (limit n cap : ℕ) → limit < cap → nat_lt limit (min n cap) ≡ false → min n cap ≡ n
capped_same limit n cap h f = let l : min n cap ≤ limit = ltb-false limit (min n cap) f in omega arith

-- more octets than there are
pub capped_octets : (n cap : ℕ) (octets : List ℕ) → length octets < cap → octets_at (min n cap) octets ≡ octets_at n octets
capped_octets n cap octets h = elim (cases_Bool (nat_lt (length octets) n)) [
  | inl t ↦
      let c : nat_lt (length octets) (min n cap) ≡ true = capped_above (length octets) n cap h ∙ t in
      ap (λ b. cond b None (Some (take (min n cap) octets, drop (min n cap) octets))) c ∙ sym (ap (λ b. cond b None (Some (take n octets, drop n octets))) t)
  | inr f ↦
      let same : min n cap ≡ n = capped_same (length octets) n cap h (capped_above (length octets) n cap h ∙ f) in
      ap (λ k. octets_at k octets) same
]

-- at most four octets make no large number
pub short_number : (ds : List ℕ) → length ds ≤ 4 → ((k : ℕ) → get_or ds k 0 < 256) → number_of 0 ds < 2 ^ 63
short_number [] l b = omega arith
short_number (a ∷ []) l b = let h : a < 256 = b 0 in omega arith
short_number (a ∷ c ∷ []) l b =
    let h : a < 256 = b 0 in
    let i : c < 256 = b 1 in
    omega arith
short_number (a ∷ c ∷ d ∷ []) l b =
    let h : a < 256 = b 0 in
    let i : c < 256 = b 1 in
    let j : d < 256 = b 2 in
    omega arith
short_number (a ∷ c ∷ d ∷ e ∷ []) l b =
    let h : a < 256 = b 0 in
    let i : c < 256 = b 1 in
    let j : d < 256 = b 2 in
    let k : e < 256 = b 3 in
    omega arith
short_number (a ∷ c ∷ d ∷ e ∷ f ∷ ds) l b = absurd (omega arith)
