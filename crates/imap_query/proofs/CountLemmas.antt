use Rattle.std.proofs.Common.{◌≡◌, ◌∙◌, ap, refl, arith, ℕ, zero, suc, ◌+◌, ◌≤◌, Bool, List, [], ◌∷◌, ◌++◌, length, drop}
use Rattle.std.proofs.lemmas.List.{length-append}
use Rattle.std.proofs.lemmas.List.Elements.{filter-append}
use Rattle.std.proofs.lemmas.List.Sums.{sum_by-append}
use Rattle.std.specs.List.{filter, slice_get, sum_by}
use Rattle.std.specs.Option.{option_to_list}
use Rattle.std.specs.Prelude.{min}

-- the item at a place is the first of the items from that place on
pub from_place : {A : Type 0} (xs : List A) (k : ℕ) → drop k xs ≡ option_to_list (slice_get xs k) ++ drop (k + 1) xs
from_place [] zero = refl
from_place [] (suc k) = let e : suc k + 1 ≡ suc (k + 1) = omega arith in rw e refl
from_place (x ∷ xs) zero = refl
from_place (x ∷ xs) (suc k) = let e : suc k + 1 ≡ suc (k + 1) = omega arith in rw e (from_place xs k)

pub counted_from : {A : Type 0} (test : A → Bool) (xs : List A) (k : ℕ) → length (filter test (drop k xs)) ≡ length (filter test (option_to_list (slice_get xs k))) + length (filter test (drop (k + 1) xs))
counted_from test xs k =
    ap (λ ys. length (filter test ys)) (from_place xs k)
    ∙ ap length (filter-append test (option_to_list (slice_get xs k)) (drop (k + 1) xs))
    ∙ length-append (filter test (option_to_list (slice_get xs k))) (filter test (drop (k + 1) xs))

pub summed_from : {A : Type 0} (f : A → ℕ) (xs : List A) (k : ℕ) → sum_by f (drop k xs) ≡ sum_by f (option_to_list (slice_get xs k)) + sum_by f (drop (k + 1) xs)
summed_from f xs k = ap (sum_by f) (from_place xs k) ∙ sum_by-append f (option_to_list (slice_get xs k)) (drop (k + 1) xs)

pub drop_past : {A : Type 0} (xs : List A) (n : ℕ) → length xs ≤ n → drop n xs ≡ []
drop_past [] zero l = refl
drop_past [] (suc n) l = refl
drop_past (x ∷ xs) zero l = absurd (omega arith)
drop_past (x ∷ xs) (suc n) l = drop_past xs n (omega arith)

pub min_step : (size octets rest all new total top : ℕ) → new ≡ min (size + octets) top → all ≡ octets + rest → min (size + all) top ≡ total → min (new + rest) top ≡ total
min_step size octets rest all new total top n a t = omega (arith, n, a, t)

pub min_end : (size rest total top : ℕ) → rest ≡ 0 → size ≤ top → min (size + rest) top ≡ total → size ≡ total
min_end size rest total top r l t = omega (arith, r, l, t)

pub min_below : (n top new : ℕ) → new ≡ min n top → new ≤ top
min_below n top new e = omega (arith, e)
