use Rattle.std.proofs.Common.{◌≡◌, ◌↔◌, ℕ, Bool, true, false, IsTrue, leb, rules, zero, suc, ◌+◌, ◌-◌, ◌<◌, ◌≤◌, List, [], ◌∷◌, ◌++◌, length, get_or, sym, ap, ◌∙◌, arith, append_assoc, append-nil, subst}
use Rattle.std.specs.List.{insert}
use Rattle.std.proofs.lemmas.List.{length-append}
use Rattle.std.proofs.lemmas.Bool.Decides.{nat_tests}
use Rattle.std.proofs.lemmas.Grind.{get_or_default_zero}
use Rattle.mail_audit.specs.Explanations.{without}
use Rattle.mail_audit.specs.KnownUids.{AreExpunged, places_from}
use Rattle.mail_audit.specs.EventPasses.{numbers_upward}
use Rattle.mail_audit.proofs.RunLemmas.{get_after, get_upward, length_upward, without_after, without_upward}

pub length_expunged : (from : ℕ) (expunged : List ℕ) (total : ℕ) → AreExpunged from expunged total → from + length expunged ≤ total
length_expunged from [] total a = let e : from ≤ total = a in omega (arith, e)
length_expunged from (g ∷ expunged) total a = let r = length_expunged (g + 1) expunged total a.1 in let l : from ≤ g = a.0 in omega (arith, r, l)

-- the numbers of existing messages and of expunged ones add up to that of all messages
pub length_places : (from : ℕ) (expunged : List ℕ) (total : ℕ) → AreExpunged from expunged total → length (places_from from expunged total) + length expunged ≡ total - from
length_places from [] total a = let l = length_upward from (total - from) in omega (arith, l)
length_places from (g ∷ expunged) total a =
    let l = length-append (numbers_upward from (g - from)) (places_from (g + 1) expunged total) in
    let u = length_upward from (g - from) in
    let r = length_places (g + 1) expunged total a.1 in
    let b = length_expunged (g + 1) expunged total a.1 in
    let f : from ≤ g = a.0 in
    omega (arith, l, u, r, b, f)

-- the `j`th expunged place is at least `j` after the first place
expunged_at_least : (from : ℕ) (expunged : List ℕ) (total j : ℕ) → AreExpunged from expunged total → j < length expunged → from + j ≤ get_or expunged j 0
expunged_at_least from [] total j a l = absurd (omega (arith, l))
expunged_at_least from (g ∷ expunged) total zero a l = let f : from ≤ g = a.0 in omega (arith, f)
expunged_at_least from (g ∷ expunged) total (suc j) a l =
    let r = expunged_at_least (g + 1) expunged total j a.1 (omega (arith, l)) in
    let f : from ≤ g = a.0 in
    omega (arith, r, f)

pub expunged_rising : (from : ℕ) (expunged : List ℕ) (total i j : ℕ) → AreExpunged from expunged total → i ≤ j → j < length expunged → get_or expunged i 0 + (j - i) ≤ get_or expunged j 0
expunged_rising from [] total i j a k l = absurd (omega (arith, l))
expunged_rising from (g ∷ expunged) total zero zero a k l = omega arith
expunged_rising from (g ∷ expunged) total zero (suc j) a k l = let r = expunged_at_least (g + 1) expunged total j a.1 (omega (arith, l)) in omega (arith, r)
expunged_rising from (g ∷ expunged) total (suc i) zero a k l = absurd (omega (arith, k))
expunged_rising from (g ∷ expunged) total (suc i) (suc j) a k l = let r = expunged_rising (g + 1) expunged total i j a.1 (omega (arith, k)) (omega (arith, l)) in omega (arith, r)

-- exactly `at` expunged messages come before the existing one that follows the first `k`
abbrev pub AreBefore : ℕ → ℕ → ℕ → List ℕ → Type 0
AreBefore from k at expunged =
    ((i : ℕ) → i < at → get_or expunged i 0 ≤ from + k + i)
    × ((i : ℕ) → at ≤ i → i < length expunged → from + k + i < get_or expunged i 0)

-- this is true of the places after the first expunged one
before_rest : (from k at g : ℕ) (expunged : List ℕ) → from ≤ g → AreBefore from k (suc at) (g ∷ expunged) → AreBefore (g + 1) (k - (g - from)) at expunged
before_rest from k at g expunged f h =
    let z : g ≤ from + k + 0 = h.0 0 (omega arith) in (
      λ i l. let r : get_or expunged i 0 ≤ from + k + suc i = h.0 (suc i) (omega (arith, l)) in omega (arith, r, z, f),
      λ i l m. let r : from + k + suc i < get_or expunged i 0 = h.1 (suc i) (omega (arith, l)) (omega (arith, m)) in omega (arith, r, z, f),
    )

first_before : (from k at g : ℕ) (expunged : List ℕ) → AreBefore from k (suc at) (g ∷ expunged) → g ≤ from + k
first_before from k at g expunged h = let z : g ≤ from + k + 0 = h.0 0 (omega arith) in omega (arith, z)

-- the place of the existing message that follows the first `k`
pub place_after : (from k at : ℕ) (expunged : List ℕ) (total : ℕ) → AreExpunged from expunged total → at ≤ length expunged → AreBefore from k at expunged → k < length (places_from from expunged total) → get_or (places_from from expunged total) k 0 ≡ from + k + at
place_after from k zero [] total a b h l =
    let u = length_upward from (total - from) in
    let e : from + k ≡ from + k + zero = omega arith in
    ap (λ (ps : List ℕ). get_or ps k 0) (sym (append-nil (numbers_upward from (total - from)))) ∙ get_upward from k (total - from) [] (omega (arith, l, u)) ∙ e
place_after from k (suc at) [] total a b h l = absurd (omega (arith, b))
place_after from k zero (g ∷ expunged) total a b h l =
    let z : from + k + 0 < g = h.1 0 (omega arith) (omega arith) in
    let e : from + k ≡ from + k + zero = omega arith in
    get_upward from k (g - from) (places_from (g + 1) expunged total) (omega (arith, z)) ∙ e
place_after from k (suc at) (g ∷ expunged) total a b h l =
    let f : from ≤ g = a.0 in
    let z = first_before from k at g expunged h in
    let u = length_upward from (g - from) in
    let s = length-append (numbers_upward from (g - from)) (places_from (g + 1) expunged total) in
    let one = get_after k (numbers_upward from (g - from)) (places_from (g + 1) expunged total) (omega (arith, u, z, f)) in
    let e : k - length (numbers_upward from (g - from)) ≡ k - (g - from) = omega (arith, u) in
    let r = place_after (g + 1) (k - (g - from)) at expunged total a.1 (omega (arith, b)) (before_rest from k at g expunged f h) (omega (arith, l, u, s, z, f)) in
    let d : g + 1 + (k - (g - from)) + at ≡ from + k + suc at = omega (arith, z, f) in
    one ∙ ap (λ (i : ℕ). get_or (places_from (g + 1) expunged total) i 0) e ∙ r ∙ d

-- the places of existing messages without that one
pub places_without : (from n at place : ℕ) (expunged : List ℕ) (total : ℕ) → place ≡ from + (n - 1) + at → 0 < n → AreExpunged from expunged total → at ≤ length expunged → AreBefore from (n - 1) at expunged → n ≤ length (places_from from expunged total) → places_from from (insert expunged at place) total ≡ without n (places_from from expunged total)
places_without from n zero place [] total w p a b h l =
    let u = length_upward from (total - from) in
    let e : place - from ≡ n - 1 = omega (arith, w) in
    let f : place + 1 ≡ from + n = omega (arith, w, p) in
    let g : total - (from + n) ≡ total - from - n = omega arith in
    (λ i. numbers_upward from (e i) ++ numbers_upward (f i) (total - f i))
    ∙ (λ i. numbers_upward from (n - 1) ++ numbers_upward (from + n) (g i))
    ∙ ap (λ (ps : List ℕ). numbers_upward from (n - 1) ++ ps) (sym (append-nil (numbers_upward (from + n) (total - from - n))))
    ∙ sym (without_upward n from (total - from) [] p (omega (arith, l, u)))
    ∙ ap (without n) (append-nil (numbers_upward from (total - from)))
places_without from n (suc at) place [] total w p a b h l = absurd (omega (arith, b))
places_without from n zero place (g ∷ expunged) total w p a b h l =
    let z : from + (n - 1) + 0 < g = h.1 0 (omega arith) (omega arith) in
    let e : place - from ≡ n - 1 = omega (arith, w) in
    let f : place + 1 ≡ from + n = omega (arith, w, p) in
    let k : g - (from + n) ≡ g - from - n = omega arith in
    (λ i. numbers_upward from (e i) ++ (numbers_upward (f i) (g - f i) ++ places_from (g + 1) expunged total))
    ∙ (λ i. numbers_upward from (n - 1) ++ (numbers_upward (from + n) (k i) ++ places_from (g + 1) expunged total))
    ∙ sym (without_upward n from (g - from) (places_from (g + 1) expunged total) p (omega (arith, z, p)))
places_without from n (suc at) place (g ∷ expunged) total w p a b h l =
    let f : from ≤ g = a.0 in
    let z = first_before from (n - 1) at g expunged h in
    let u = length_upward from (g - from) in
    let s = length-append (numbers_upward from (g - from)) (places_from (g + 1) expunged total) in
    let d : place ≡ g + 1 + (n - (g - from) - 1) + at = omega (arith, w, z, f, p) in
    let q = before_rest from (n - 1) at g expunged f h in
    let q' : AreBefore (g + 1) (n - (g - from) - 1) at expunged = subst (λ (k : ℕ). AreBefore (g + 1) k at expunged) (let e : n - 1 - (g - from) ≡ n - (g - from) - 1 = omega arith in e) q in
    let r = places_without (g + 1) (n - (g - from)) at place expunged total d (omega (arith, z, f, p)) a.1 (omega (arith, b)) q' (omega (arith, l, u, s, z, f)) in
    ap (λ (ps : List ℕ). numbers_upward from (g - from) ++ ps) r
    ∙ ap (λ (m : ℕ). numbers_upward from (g - from) ++ without (n - m) (places_from (g + 1) expunged total)) (sym u)
    ∙ sym (without_after n (numbers_upward from (g - from)) (places_from (g + 1) expunged total) (omega (arith, u, z, f, p)))

-- with that place the expunged places still ascend
pub expunged_with : (from k at place : ℕ) (expunged : List ℕ) (total : ℕ) → place ≡ from + k + at → AreExpunged from expunged total → at ≤ length expunged → AreBefore from k at expunged → k < length (places_from from expunged total) → AreExpunged from (insert expunged at place) total
expunged_with from k zero place [] total w a b h l =
    let u = length_upward from (total - from) in
    (omega (arith, w), omega (arith, w, l, u))
expunged_with from k (suc at) place [] total w a b h l = absurd (omega (arith, b))
expunged_with from k zero place (g ∷ expunged) total w a b h l =
    let z : from + k + 0 < g = h.1 0 (omega arith) (omega arith) in
    (omega (arith, w), (omega (arith, w, z), a.1))
expunged_with from k (suc at) place (g ∷ expunged) total w a b h l =
    let f : from ≤ g = a.0 in
    let z = first_before from k at g expunged h in
    let u = length_upward from (g - from) in
    let s = length-append (numbers_upward from (g - from)) (places_from (g + 1) expunged total) in
    (f, expunged_with (g + 1) (k - (g - from)) at place expunged total (omega (arith, w, z, f)) a.1 (omega (arith, b)) (before_rest from k at g expunged f h) (omega (arith, l, u, s, z, f)))

-- the place of that message is below the total
pub place_below_total : (from k at : ℕ) (expunged : List ℕ) (total : ℕ) → AreExpunged from expunged total → at ≤ length expunged → AreBefore from k at expunged → k < length (places_from from expunged total) → from + k + at < total
place_below_total from k zero [] total a b h l = let u = length_upward from (total - from) in omega (arith, l, u)
place_below_total from k (suc at) [] total a b h l = absurd (omega (arith, b))
place_below_total from k zero (g ∷ expunged) total a b h l =
    let z : from + k + 0 < g = h.1 0 (omega arith) (omega arith) in
    let c = length_expunged (g + 1) expunged total a.1 in
    omega (arith, z, c)
place_below_total from k (suc at) (g ∷ expunged) total a b h l =
    let f : from ≤ g = a.0 in
    let z = first_before from k at g expunged h in
    let u = length_upward from (g - from) in
    let s = length-append (numbers_upward from (g - from)) (places_from (g + 1) expunged total) in
    let r = place_below_total (g + 1) (k - (g - from)) at expunged total a.1 (omega (arith, b)) (before_rest from k at g expunged f h) (omega (arith, l, u, s, z, f)) in
    omega (arith, r, z, f)

-- the places of further messages
upward_append : (from n m : ℕ) → numbers_upward from n ++ numbers_upward (from + n) m ≡ numbers_upward from (n + m)
upward_append from zero m = let e : from + zero ≡ from = omega arith in let f : m ≡ zero + m = omega arith in λ i. numbers_upward (e i) (f i)
upward_append from (suc n) m =
    let e : from + suc n ≡ suc from + n = omega arith in
    let f : suc (n + m) ≡ suc n + m = omega arith in
    ap (λ (k : ℕ). from ∷ (numbers_upward (suc from) n ++ numbers_upward k m)) e ∙ ap (λ ps. from ∷ ps) (upward_append (suc from) n m) ∙ ap (numbers_upward from) f

pub places_append : (from : ℕ) (expunged : List ℕ) (total m : ℕ) → AreExpunged from expunged total → places_from from expunged total ++ numbers_upward total m ≡ places_from from expunged (total + m)
places_append from [] total m a =
    let l : from ≤ total = a in
    let e : total ≡ from + (total - from) = omega (arith, l) in
    let f : total - from + m ≡ total + m - from = omega (arith, l) in
    ap (λ (k : ℕ). numbers_upward from (total - from) ++ numbers_upward k m) e ∙ upward_append from (total - from) m ∙ ap (numbers_upward from) f
places_append from (g ∷ expunged) total m a = append_assoc (numbers_upward from (g - from)) (places_from (g + 1) expunged total) (numbers_upward total m) ∙ ap (λ ps. numbers_upward from (g - from) ++ ps) (places_append (g + 1) expunged total m a.1)

pub expunged_add : (from : ℕ) (expunged : List ℕ) (total m : ℕ) → AreExpunged from expunged total → AreExpunged from expunged (total + m)
expunged_add from [] total m a = let l : from ≤ total = a in omega (arith, l)
expunged_add from (g ∷ expunged) total m a = (a.0, expunged_add (g + 1) expunged total m a.1)

-- ---- a search

-- the expunged messages before an existing one are the first of all expunged ones
pub first_in_front : (expunged : List ℕ) (total skipped : ℕ) → AreExpunged 0 expunged total → (i j d : ℕ) → i ≤ j → j < length expunged → leb (get_or expunged j d) (skipped + j) ≡ true → leb (get_or expunged i d) (skipped + i) ≡ true
first_in_front expunged total skipped a i j d order inside front =
    let later : get_or expunged j 0 ≤ skipped + j = grind (arith, nat_tests, get_or_default_zero expunged j d inside) in
    let apart = expunged_rising 0 expunged total i j a order inside in
    let first : get_or expunged i 0 ≤ skipped + i = omega (arith, apart, later, order) in
    let within : i < length expunged = omega (arith, order, inside) in
    grind (arith, nat_tests, get_or_default_zero expunged i d within)

-- a test's result is that of `leb`
pub is_leb : (b : Bool) (n m : ℕ) → (IsTrue b ↔ (n ≤ m)) → b ≡ leb n m
is_leb true n m e = let l : n ≤ m = e.0 (search rules) in grind (arith, nat_tests)
is_leb false n m e = let l : n ≤ m → ⊥ = λ k. (let f : IsTrue false = e.1 k in search rules) in let g : m < n = omega (arith, l) in grind (arith, nat_tests)

pub leb_true : (n m : ℕ) → leb n m ≡ true → n ≤ m
leb_true n m e = grind (arith, nat_tests)

pub leb_false : (n m : ℕ) → leb n m ≡ false → m < n
leb_false n m e = grind (arith, nat_tests)
