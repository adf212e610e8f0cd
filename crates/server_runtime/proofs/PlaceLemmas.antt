use Rattle.std.proofs.Common.{◌≡◌, ◌≢◌, ◌+◌, ◌==◌, ℕ, zero, suc, true, false, not, cond, List, [], ◌∷◌, ◌++◌, refl, ap, ◌∙◌, subst, arith, append-nil}
use Rattle.std.specs.List.{filter, range_with_len}
use Rattle.std.proofs.lemmas.Bool.Decides.{nat_tests}
use Rattle.std.proofs.lemmas.List.Elements.{filter-append}
use Rattle.server_runtime.specs.Places.{all_but}

range_suc : (a n : ℕ) → range_with_len a (suc n) ≡ range_with_len a n ++ (a + n) ∷ []
range_suc a zero = let e : a ≡ a + 0 = omega arith in ap (λ (x : ℕ). x ∷ []) e
range_suc a (suc n) =
    let e : a + 1 + n ≡ a + suc n = omega arith in
    ap (λ (xs : List ℕ). a ∷ xs) (range_suc (a + 1) n ∙ ap (λ (x : ℕ). range_with_len (a + 1) n ++ x ∷ []) e)

-- one further place is one of the others, unless it is the replica's own
all_but_suc : (own n : ℕ) → all_but own (suc n) ≡ all_but own n ++ cond (not (n == own)) (n ∷ []) []
all_but_suc own n =
    let e : 0 + n ≡ n = omega arith in
    ap (filter (λ place. not (place == own))) (range_suc 0 n ∙ ap (λ (x : ℕ). range_with_len 0 n ++ x ∷ []) e) ∙ filter-append (λ place. not (place == own)) (range_with_len 0 n) (n ∷ [])

pub all_but_own : (own n : ℕ) → n ≡ own → all_but own (n + 1) ≡ all_but own n
all_but_own own n e =
    let t : (n == own) ≡ true = grind (arith, nat_tests) in
    let k : suc n ≡ n + 1 = omega arith in
    let more : all_but own (suc n) ≡ all_but own n = rw t at (all_but_suc own n) ∙ append-nil (all_but own n) in
    subst (λ (m : ℕ). all_but own m ≡ all_but own n) k more

pub all_but_other : (own n : ℕ) → n ≢ own → all_but own (n + 1) ≡ all_but own n ++ n ∷ []
all_but_other own n e =
    let f : (n == own) ≡ false = grind (arith, nat_tests) in
    let k : suc n ≡ n + 1 = omega arith in
    let more : all_but own (suc n) ≡ all_but own n ++ n ∷ [] = rw f at (all_but_suc own n) in
    subst (λ (m : ℕ). all_but own m ≡ all_but own n ++ n ∷ []) k more
