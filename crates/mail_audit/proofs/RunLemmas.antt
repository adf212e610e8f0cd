use Rattle.std.proofs.Common.{◌≡◌, ℕ, zero, suc, ◌+◌, ◌-◌, ◌<◌, ◌≤◌, List, [], ◌∷◌, ◌++◌, length, get_or, take, drop, refl, ap, ◌∙◌, arith, append_assoc}
use Rattle.std.proofs.Math.Seq.{drop-append-add, take-append-add}
use Rattle.mail_audit.specs.Explanations.{without}
use Rattle.mail_audit.specs.EventPasses.{numbers_upward}

pub length_upward : (from m : ℕ) → length (numbers_upward from m) ≡ m
length_upward from zero = refl
length_upward from (suc m) = ap suc (length_upward (suc from) m)

-- parts of a run of numbers
pub take_upward : (from n m : ℕ) (ys : List ℕ) → n ≤ m → take n (numbers_upward from m ++ ys) ≡ numbers_upward from n
take_upward from zero m ys l = refl
take_upward from (suc n) zero ys l = absurd (omega (arith, l))
take_upward from (suc n) (suc m) ys l = ap (λ zs. from ∷ zs) (take_upward (suc from) n m ys (omega (arith, l)))

pub drop_upward : (from n m : ℕ) (ys : List ℕ) → n ≤ m → drop n (numbers_upward from m ++ ys) ≡ numbers_upward (from + n) (m - n) ++ ys
drop_upward from zero m ys l =
    let e : from ≡ from + zero = omega arith in
    let f : m ≡ m - zero = omega arith in
    λ i. numbers_upward (e i) (f i) ++ ys
drop_upward from (suc n) zero ys l = absurd (omega (arith, l))
drop_upward from (suc n) (suc m) ys l =
    let e : suc from + n ≡ from + suc n = omega arith in
    let f : m - n ≡ suc m - suc n = omega arith in
    drop_upward (suc from) n m ys (omega (arith, l)) ∙ (λ i. numbers_upward (e i) (f i) ++ ys)

pub get_upward : (from n m : ℕ) (ys : List ℕ) → n < m → get_or (numbers_upward from m ++ ys) n 0 ≡ from + n
get_upward from n zero ys l = absurd (omega (arith, l))
get_upward from zero (suc m) ys l = let e : from ≡ from + zero = omega arith in e
get_upward from (suc n) (suc m) ys l = get_upward (suc from) n m ys (omega (arith, l)) ∙ (let e : suc from + n ≡ from + suc n = omega arith in e)

pub get_after : (n : ℕ) (xs ys : List ℕ) → length xs ≤ n → get_or (xs ++ ys) n 0 ≡ get_or ys (n - length xs) 0
get_after n [] ys l = ap (λ (i : ℕ). get_or ys i 0) (let e : n ≡ n - zero = omega arith in e)
get_after zero (x ∷ xs) ys l = absurd (omega (arith, l))
get_after (suc n) (x ∷ xs) ys l = get_after n xs ys (omega (arith, l)) ∙ ap (λ (i : ℕ). get_or ys i 0) (let e : n - length xs ≡ suc n - suc (length xs) = omega arith in e)

-- removing an element after the first part
pub without_after : (k : ℕ) (xs ys : List ℕ) → length xs < k → without k (xs ++ ys) ≡ xs ++ without (k - length xs) ys
without_after k xs ys l =
    let n = k - length xs in
    let e : k - 1 ≡ length xs + (n - 1) = omega (arith, l) in
    let f : k ≡ length xs + n = omega (arith, l) in
    let one = ap (λ (i : ℕ). take i (xs ++ ys)) e ∙ take-append-add xs ys (n - 1) in
    let two = ap (λ (i : ℕ). drop i (xs ++ ys)) f ∙ drop-append-add xs ys n in
    (λ i. one i ++ two i) ∙ append_assoc xs (take (n - 1) ys) (drop n ys)

pub without_upward : (k from m : ℕ) (ys : List ℕ) → 0 < k → k ≤ m → without k (numbers_upward from m ++ ys) ≡ numbers_upward from (k - 1) ++ (numbers_upward (from + k) (m - k) ++ ys)
without_upward k from m ys p l =
    let one = take_upward from (k - 1) m ys (omega (arith, p, l)) in
    let two = drop_upward from k m ys l in
    λ i. one i ++ two i
