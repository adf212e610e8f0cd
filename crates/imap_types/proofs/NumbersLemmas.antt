use Rattle.std.proofs.Common.{◌≡◌, ℕ, zero, suc, ◌+◌, ◌-◌, ◌<◌, ◌≤◌, ◌↔◌, Bool, true, eqb, max, List, [], ◌∷◌, ◌++◌, length, get_or, set, refl, ap, sym, subst, ◌∙◌, arith, append_assoc, ◌≢◌, inl, inr}
use Rattle.std.proofs.lemmas.Bool.{and_parts, and_from, cases_Bool, eqb-false, eqb-true, leb-true, le-leb}
use Rattle.std.specs.List.{range_with_len}
use Rattle.std.proofs.lemmas.Bool.Decides.{nat_tests}
use Rattle.imap_types.specs.declared.number_set.Run.{Run}
use Rattle.imap_types.specs.Numbers.{AreRisingFrom, AreRunsFrom, are_runs_from, greatest, numbers_in, numbers_of, runs_of, with_number}

append_none : {X : Type 0} (xs : List X) → xs ++ [] ≡ xs
append_none [] = refl
append_none (x ∷ xs) = ap (λ ys. x ∷ ys) (append_none xs)

-- the greatest of a range is its last
greatest-range : (a k : ℕ) → greatest (range_with_len a (suc k)) ≡ a + k
greatest-range a zero = omega arith
greatest-range a (suc k) = omega (arith, greatest-range (a + 1) k)

greatest-append : (xs ys : List ℕ) → greatest (xs ++ ys) ≡ max (greatest xs) (greatest ys)
greatest-append [] ys = omega arith
greatest-append (x ∷ xs) ys = omega (arith, greatest-append xs ys)

-- two ranges that touch are one range
range-append : (a k m b : ℕ) → b ≡ a + k → range_with_len a k ++ range_with_len b m ≡ range_with_len a (k + m)
range-append a zero m b e =
    let f : b ≡ a = omega arith in
    let g : m ≡ 0 + m = omega arith in
    ap (λ x. range_with_len x m) f ∙ ap (range_with_len a) g
range-append a (suc k) m b e =
    let g : suc (k + m) ≡ suc k + m = omega arith in
    ap (λ xs. a ∷ xs) (range-append (a + 1) k m b (omega arith)) ∙ ap (range_with_len a) g

-- the numbers of two runs without a gap are those of one run
numbers_of-joined : (a b : Run) → a.first ≤ a.last → a.last + 1 ≡ b.first → b.first ≤ b.last → range_with_len a.first (suc (b.last - a.first)) ≡ numbers_of a ++ numbers_of b
numbers_of-joined a b h e k =
    let g : suc (b.last - a.first) ≡ suc (a.last - a.first) + suc (b.last - b.first) = omega arith in
    ap (range_with_len a.first) g ∙ sym (range-append a.first (suc (a.last - a.first)) (suc (b.last - b.first)) b.first (omega arith))

greatest-run : (r : Run) → r.first ≤ r.last → greatest (numbers_of r) ≡ r.last
greatest-run r h = greatest-range r.first (r.last - r.first) ∙ omega arith

pub greatest-runs : (r : Run) (rs : List Run) → r.first ≤ r.last → greatest (numbers_in (r ∷ rs)) ≡ max r.last (greatest (numbers_in rs))
greatest-runs r rs h = greatest-append (numbers_of r) (numbers_in rs) ∙ ap (λ n. max n (greatest (numbers_in rs))) (greatest-run r h)

low_greatest : (low : ℕ) (r : Run) (rs : List Run) → AreRunsFrom low (r ∷ rs) → low ≤ greatest (numbers_in (r ∷ rs))
low_greatest low r rs h = omega (arith, greatest-runs r rs h.1)

-- the last run ends with the greatest number
pub greatest-last : (low i : ℕ) (rs : List Run) (d : Run) → suc i ≡ length rs → AreRunsFrom low rs → greatest (numbers_in rs) ≡ (get_or rs i d).last
greatest-last low i [] d e h = absurd (omega arith)
greatest-last low zero (r ∷ []) d e h = omega (arith, greatest-runs r [] h.1)
greatest-last low zero (r ∷ s ∷ rs) d e h = absurd (omega arith)
greatest-last low (suc i) (r ∷ []) d e h = absurd (omega arith)
greatest-last low (suc i) (r ∷ s ∷ rs) d e h =
    let k : greatest (numbers_in (s ∷ rs)) ≡ (get_or (s ∷ rs) i d).last = greatest-last (r.last + 2) i (s ∷ rs) d (omega arith) h.2 in
    let l : r.last + 2 ≤ greatest (numbers_in (s ∷ rs)) = low_greatest (r.last + 2) s rs h.2 in
    let m : greatest (numbers_in (r ∷ s ∷ rs)) ≡ max r.last (greatest (numbers_in (s ∷ rs))) = greatest-runs r (s ∷ rs) h.1 in
    m ∙ omega arith

-- the last run and the next one as one run
pub runs_joined : (low i : ℕ) (rs : List Run) (d next : Run) → suc i ≡ length rs → AreRunsFrom low rs → (get_or rs i d).last + 1 ≡ next.first → next.first ≤ next.last → AreRunsFrom low (set rs i (record { first = (get_or rs i d).first; last = next.last })) × (numbers_in (set rs i (record { first = (get_or rs i d).first; last = next.last })) ≡ numbers_in rs ++ numbers_of next)
runs_joined low i [] d next e h t o = absurd (omega arith)
runs_joined low zero (r ∷ []) d next e h t o =
    ((h.0, omega arith, tt), append_none _ ∙ numbers_of-joined r next h.1 t o ∙ ap (λ ns. ns ++ numbers_of next) (sym (append_none (numbers_of r))))
runs_joined low zero (r ∷ s ∷ rs) d next e h t o = absurd (omega arith)
runs_joined low (suc i) (r ∷ []) d next e h t o = absurd (omega arith)
runs_joined low (suc i) (r ∷ s ∷ rs) d next e h t o =
    let k = runs_joined (r.last + 2) i (s ∷ rs) d next (omega arith) h.2 t o in
    ((h.0, h.1, k.0), ap (λ ns. numbers_of r ++ ns) k.1 ∙ sym (append_assoc (numbers_of r) (numbers_in (s ∷ rs)) (numbers_of next)))

-- a run after a gap
runs_apart : (low : ℕ) (rs : List Run) (next : Run) → AreRunsFrom low rs → low ≤ next.first → greatest (numbers_in rs) + 1 < next.first → next.first ≤ next.last → AreRunsFrom low (rs ++ next ∷ [])
runs_apart low [] next h l g o = (l, o, tt)
runs_apart low (r ∷ rs) next h l g o =
    let m : greatest (numbers_in (r ∷ rs)) ≡ max r.last (greatest (numbers_in rs)) = greatest-runs r rs h.1 in
    (h.0, h.1, runs_apart (r.last + 2) rs next h.2 (omega arith) (omega arith) o)

pub runs_apart_last : (i : ℕ) (rs : List Run) (d next : Run) → suc i ≡ length rs → AreRunsFrom 1 rs → greatest (numbers_in rs) < next.first → (((get_or rs i d).last + 1 ≡ next.first) → ⊥) → next.first ≤ next.last → AreRunsFrom 1 (rs ++ next ∷ [])
runs_apart_last i rs d next e h g n o =
    let k : greatest (numbers_in rs) ≡ (get_or rs i d).last = greatest-last 1 i rs d e h in
    let m : ((get_or rs i d).last + 1 ≡ next.first) → ⊥ = n in
    runs_apart 1 rs next h (omega arith) (omega (arith, m)) o

-- one number before runs that begin at least two above it
alone : (n : ℕ) (rs : List Run) → AreRunsFrom (n + 2) rs → with_number n rs ≡ record { first = n; last = n } ∷ rs
alone n [] h = refl
alone n (r ∷ rs) h = grind (arith, nat_tests)

joins : (n last : ℕ) (rs : List Run) → with_number n (record { first = n + 1; last = last } ∷ rs) ≡ record { first = n; last = last } ∷ rs
joins n last rs = grind (arith, nat_tests)

runs_of-range : (a k : ℕ) (ns : List ℕ) (rs : List Run) → runs_of ns ≡ rs → AreRunsFrom (a + k + 2) rs → runs_of (range_with_len a (suc k) ++ ns) ≡ record { first = a; last = a + k } ∷ rs
runs_of-range a zero ns rs e h =
    let f : a + 0 ≡ a = omega arith in
    let h' : AreRunsFrom (a + 2) rs = subst (λ (n : ℕ). AreRunsFrom (n + 2) rs) f h in
    let g : (record { first = a; last = a } ∷ rs) ≡ (record { first = a; last = a + 0 } ∷ rs) = ap (λ (n : ℕ). record { first = a; last = n } ∷ rs) (sym f) in
    ap (with_number a) e ∙ alone a rs h' ∙ g
runs_of-range a (suc k) ns rs e h =
    let f : a + suc k ≡ a + 1 + k = omega arith in
    let h' : AreRunsFrom (a + 1 + k + 2) rs = subst (λ (n : ℕ). AreRunsFrom (n + 2) rs) f h in
    let g : (record { first = a; last = a + 1 + k } ∷ rs) ≡ (record { first = a; last = a + suc k } ∷ rs) = ap (λ (n : ℕ). record { first = a; last = n } ∷ rs) (sym f) in
    ap (with_number a) (runs_of-range (a + 1) k ns rs e h') ∙ joins a (a + 1 + k) rs ∙ g

-- the runs of the numbers of runs are these runs
pub runs_of-numbers : (low : ℕ) (rs : List Run) → AreRunsFrom low rs → runs_of (numbers_in rs) ≡ rs
runs_of-numbers low [] h = refl
runs_of-numbers low (r ∷ rs) h =
    let f : r.first + (r.last - r.first) ≡ r.last = omega (arith, h.1) in
    let h' : AreRunsFrom (r.first + (r.last - r.first) + 2) rs = subst (λ (n : ℕ). AreRunsFrom (n + 2) rs) (sym f) h.2 in
    runs_of-range r.first (r.last - r.first) (numbers_in rs) rs (runs_of-numbers (r.last + 2) rs h.2) h'
    ∙ ap (λ (n : ℕ). record { first = r.first; last = n } ∷ rs) f

rising_from : (low high : ℕ) (ns : List ℕ) → low ≤ high → AreRisingFrom high ns → AreRisingFrom low ns
rising_from low high [] l h = tt
rising_from low high (n ∷ ns) l h = (omega (arith, h.0), h.1)

rising-range : (low a k : ℕ) (ns : List ℕ) → low ≤ a → AreRisingFrom (a + k) ns → AreRisingFrom low (range_with_len a k ++ ns)
rising-range low a zero ns l h = rising_from low (a + 0) ns (omega arith) h
rising-range low a (suc k) ns l h =
    let f : a + suc k ≡ a + 1 + k = omega arith in
    (l, rising-range (a + 1) (a + 1) k ns (omega arith) (subst (λ (n : ℕ). AreRisingFrom n ns) f h))

-- the numbers of runs rise
pub rising-numbers : (low : ℕ) (rs : List Run) → AreRunsFrom low rs → AreRisingFrom low (numbers_in rs)
rising-numbers low [] h = tt
rising-numbers low (r ∷ rs) h =
    rising-range low r.first (suc (r.last - r.first)) (numbers_in rs) h.0
    (rising_from (r.first + suc (r.last - r.first)) (r.last + 2) (numbers_in rs) (omega (arith, h.1)) (rising-numbers (r.last + 2) rs h.2))

pub no_numbers : (rs : List Run) (b : Bool) → b ≡ eqb (length rs) 0 → (b ≡ true) ↔ (numbers_in rs ≡ [])
no_numbers [] b e = (λ _. refl, λ _. e)
no_numbers (r ∷ rs) b e = (λ t. absurd (grind (arith, nat_tests)), λ t. cc)

pub runs_from_test : (low : ℕ) (rs : List Run) → are_runs_from low rs ≡ true → AreRunsFrom low rs
runs_from_test low [] h = tt
runs_from_test low (r ∷ rs) h =
    let p = and_parts _ _ h in
    let q = and_parts _ _ p.0 in
    (leb-true _ _ q.0, leb-true _ _ q.1, runs_from_test (r.last + 2) rs p.1)

pub test_from_runs : (low : ℕ) (rs : List Run) → AreRunsFrom low rs → are_runs_from low rs ≡ true
test_from_runs low [] h = refl
test_from_runs low (r ∷ rs) h = and_from _ _ (and_from _ _ (le-leb _ _ h.0) (le-leb _ _ h.1)) (test_from_runs (r.last + 2) rs h.2)

-- the runs of rising numbers have these numbers, and gaps between them
RunsBack : ℕ → List ℕ → List Run → Type 0
RunsBack low ns rs = AreRunsFrom low rs × (numbers_in rs ≡ ns)

with_number_back : (low n : ℕ) (ns : List ℕ) (rs : List Run) → low ≤ n → RunsBack (n + 1) ns rs → RunsBack low (n ∷ ns) (with_number n rs)
unfolding RunsBack
with_number_back low n ns [] l h = ((l, omega arith, tt), grind (arith, h.1))
with_number_back low n ns (r ∷ rs) l h = elim (cases_Bool (eqb (n + 1) r.first)) [
  | inl t ↦
      let e : n + 1 ≡ r.first = eqb-true _ _ t in
      let o : r.first ≤ r.last = h.0.1 in
      let g : suc (r.last - n) ≡ suc (suc (r.last - r.first)) = omega arith in
      let numbers : range_with_len n (suc (r.last - n)) ≡ n ∷ numbers_of r = ap (range_with_len n) g ∙ ap (λ (k : ℕ). n ∷ range_with_len k (suc (r.last - r.first))) e in
      rw t ((l, omega arith, h.0.2), ap (λ (xs : List ℕ). xs ++ numbers_in rs) numbers ∙ ap (λ (xs : List ℕ). n ∷ xs) h.1)
  | inr f ↦
      let e : n + 1 ≢ r.first = eqb-false _ _ f in
      let one : numbers_of (record { first = n; last = n }) ≡ n ∷ [] = ap (λ (k : ℕ). n ∷ range_with_len (n + 1) k) (let z : n - n ≡ 0 = omega arith in z) in
      rw f ((l, omega arith, (omega (arith, h.0.0), h.0.1, h.0.2)), ap (λ (xs : List ℕ). xs ++ numbers_in (r ∷ rs)) one ∙ ap (λ (xs : List ℕ). n ∷ xs) h.1)
]

runs_back : (low : ℕ) (ns : List ℕ) → AreRisingFrom low ns → RunsBack low ns (runs_of ns)
unfolding RunsBack
runs_back low [] h = (tt, refl)
runs_back low (n ∷ ns) h = with_number_back low n ns (runs_of ns) h.0 (runs_back (n + 1) ns h.1)

pub runs_of-are_runs : (low : ℕ) (ns : List ℕ) → AreRisingFrom low ns → AreRunsFrom low (runs_of ns)
unfolding RunsBack
runs_of-are_runs low ns h = (runs_back low ns h).0

pub numbers_in-runs_of : (low : ℕ) (ns : List ℕ) → AreRisingFrom low ns → numbers_in (runs_of ns) ≡ ns
unfolding RunsBack
numbers_in-runs_of low ns h = (runs_back low ns h).1
