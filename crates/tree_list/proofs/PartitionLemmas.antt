-- The place at which a list's items stop passing a test, from those on both sides of one item.
use Rattle.std.proofs.Common.{◌≡◌, ℕ, suc, ◌+◌, ◌-◌, ◌<◌, ◌≤◌, Bool, true, false, List, [], ◌∷◌, ◌++◌, length, get_or, refl, ap, sym, subst, ◌∙◌, arith, length-append, inl, inr}
use Rattle.std.proofs.Math.Seq.{get_or-append_seam}
use Rattle.std.proofs.lemmas.List.{get_or_append_left, get_or-append-add}
use Rattle.std.proofs.lemmas.Bool.{cases_order}
use Rattle.std.specs.Fn.{AlwaysReturns, Called, Mut}
use Rattle.tree_list.specs.Searches.{IsPartitioned, IsPoint}

-- The test's result for a place and its item.
abbrev at : {X : Type 0} → (ℕ → X → Bool) → List X → ℕ → X → Bool
at p xs i d = p i (get_or xs i d)

-- The test's results for the left side's items don't depend on what follows them.
pub test_left : {X : Type 0} (p : ℕ → X → Bool) (left right : List X) (x d : X) (i : ℕ) → i < length left → at p (left ++ x ∷ right) i d ≡ at p left i d
test_left p left right x d i inside = ap (p i) (get_or_append_left left (x ∷ right) d i inside)

pub test_middle : {X : Type 0} (p : ℕ → X → Bool) (left right : List X) (x d : X) → at p (left ++ x ∷ right) (length left) d ≡ p (length left) x
test_middle p left right x d = ap (p (length left)) (get_or-append_seam left x right d)

pub test_right : {X : Type 0} (p : ℕ → X → Bool) (left right : List X) (x d : X) (i : ℕ) → at p (left ++ x ∷ right) (length left + suc i) d ≡ p (length left + suc i) (get_or right i d)
test_right p left right x d i = ap (p (length left + suc i)) (get_or-append-add left (x ∷ right) (suc i) d)

-- The sides of a partitioned list are partitioned.
pub left_partitioned : {X : Type 0} (p : ℕ → X → Bool) (left right : List X) (x : X) → IsPartitioned p (left ++ x ∷ right) → IsPartitioned p left
left_partitioned p left right x parts_around i j d order inside passes =
    sym (test_left p left right x d i (omega (arith, order, inside))) ∙ parts_around i j d order (omega (arith, inside, length-append left (x ∷ right))) (test_left p left right x d j inside ∙ passes)

pub right_partitioned : {X : Type 0} (p : ℕ → X → Bool) (left right : List X) (x : X) → IsPartitioned p (left ++ x ∷ right) → IsPartitioned (λ i. p (length left + suc i)) right
right_partitioned p left right x parts_around i j d order inside passes =
    sym (test_right p left right x d i) ∙ parts_around (length left + suc i) (length left + suc j) d (omega (arith, order)) (omega (arith, inside, length-append left (x ∷ right))) (test_right p left right x d j ∙ passes)

-- If an item fails, all items after it fail.
fails_after : {X : Type 0} (p : ℕ → X → Bool) (xs : List X) (d : X) → IsPartitioned p xs → (i j : ℕ) → i ≤ j → j < length xs → at p xs i d ≡ false → (b : Bool) → at p xs j d ≡ b → at p xs j d ≡ false
fails_after p xs d parts_around i j order inside fails false is = is
fails_after p xs d parts_around i j order inside fails true is = absurd (cc (fails, parts_around i j d order inside is))

-- If an item passes, all items before it pass.
passes_before : {X : Type 0} (p : ℕ → X → Bool) (left right : List X) (x d : X) → IsPartitioned p (left ++ x ∷ right) → p (length left) x ≡ true → (i : ℕ) → i ≤ length left → at p (left ++ x ∷ right) i d ≡ true
passes_before p left right x d parts_around passes i order =
    parts_around i (length left) d order (omega (arith, length-append left (x ∷ right))) (test_middle p left right x d ∙ passes)

-- The test's results for places to the right of an item.
test_after : {X : Type 0} (p : ℕ → X → Bool) (left right : List X) (x d : X) (b : Bool) (i : ℕ) → length left < i → p (length left + suc (i - length left - 1)) (get_or right (i - length left - 1) d) ≡ b → at p (left ++ x ∷ right) i d ≡ b
test_after p left right x d b i order is =
    let k = i - length left - 1 in
    let e : length left + suc k ≡ i = omega (arith, order) in
    subst (λ j. at p (left ++ x ∷ right) j d ≡ b) e (test_right p left right x d k ∙ is)

-- The item fails: those that pass are on its left.
pub point_left : {X : Type 0} (p : ℕ → X → Bool) (left right : List X) (x : X) (n : ℕ) → IsPartitioned p (left ++ x ∷ right) → p (length left) x ≡ false → n ≤ length left → IsPoint p left n → IsPoint p (left ++ x ∷ right) n
point_left {X = X} p left right x n parts_around fails within point = record {
  pass = λ i d below. test_left p left right x d i (omega (arith, below, within)) ∙ point.pass i d below;
  fail = λ i d from inside. elim (cases_order i (length left)) [
    | inl e ↦ beyond i d inside (omega (arith, e))
    | inr (inl below) ↦ test_left p left right x d i below ∙ point.fail i d from below
    | inr (inr above) ↦ beyond i d inside (omega (arith, above))
  ];
}
  where
    beyond : (i : ℕ) (d : X) → i < length (left ++ x ∷ right) → length left ≤ i → at p (left ++ x ∷ right) i d ≡ false
    beyond i d inside order = fails_after p (left ++ x ∷ right) d parts_around (length left) i order inside (test_middle p left right x d ∙ fails) (at p (left ++ x ∷ right) i d) refl

-- The item passes: so do all on its left, and the others that pass are the first on its right.
pub point_right : {X : Type 0} (p : ℕ → X → Bool) (left right : List X) (x : X) (n : ℕ) → IsPartitioned p (left ++ x ∷ right) → p (length left) x ≡ true → IsPoint (λ i. p (length left + suc i)) right n → IsPoint p (left ++ x ∷ right) (length left + 1 + n)
point_right p left right x n parts_around passes point = record {
  pass = λ i d below. elim (cases_order i (length left)) [
    | inl e ↦ passes_before p left right x d parts_around passes i (omega (arith, e))
    | inr (inl front) ↦ passes_before p left right x d parts_around passes i (omega (arith, front))
    | inr (inr above) ↦ test_after p left right x d true i above (point.pass (i - length left - 1) d (omega (arith, below, above)))
  ];
  fail = λ i d from inside.
      let above : length left < i = omega (arith, from) in
      test_after p left right x d false i above (point.fail (i - length left - 1) d (omega (arith, from)) (omega (arith, inside, above, length-append left (x ∷ right))));
}

-- What holds of a test holds of one that gives the same results.
pub partitioned_alike : {X : Type 0} (p q : ℕ → X → Bool) (xs : List X) → ((i : ℕ) (x : X) → p i x ≡ q i x) → IsPartitioned p xs → IsPartitioned q xs
partitioned_alike p q xs same parts_around i j d order inside passes = sym (same i _) ∙ parts_around i j d order inside (same j _ ∙ passes)

pub point_alike : {X : Type 0} (p q : ℕ → X → Bool) (xs : List X) (n : ℕ) → ((i : ℕ) (x : X) → p i x ≡ q i x) → IsPoint p xs n → IsPoint q xs n
point_alike p q xs n same point = record {
  pass = λ i d below. sym (same i _) ∙ point.pass i d below;
  fail = λ i d from inside. sym (same i _) ∙ point.fail i d from inside;
}

-- The result of one call.
pub answer : {F X R : Type 0} (g : Mut F X R) (P : X → R → Type 0) (f f' : F) (a : X) (r : R) → Called g f a r f' → AlwaysReturns g P f → P a r
answer g P f f' a r called always = (always.at (a ∷ []) r f' called).0

-- The number of a tree's items that pass, from place `from`, if its own item fails.
pub on_left : {X : Type 0} (p : ℕ → X → Bool) (xs left right : List X) (x : X) (from before n : ℕ) → xs ≡ left ++ x ∷ right → before ≡ length left → IsPartitioned (λ i. p (from + i)) xs → p (from + before) x ≡ false → n ≤ length left → (IsPartitioned (λ i. p (from + i)) left → IsPoint (λ i. p (from + i)) left n) → IsPoint (λ i. p (from + i)) xs n
on_left p xs left right x from before n is count_is parts_around fails within rest =
    let parts = subst (IsPartitioned (λ i. p (from + i))) is parts_around in
    rw is (point_left (λ i. p (from + i)) left right x n parts (rw count_is at fails) within (rest (left_partitioned (λ i. p (from + i)) left right x parts)))

-- The number of a tree's items that pass, from place `from`, if its own item passes.
pub on_right : {X : Type 0} (p : ℕ → X → Bool) (xs left right : List X) (x : X) (from before n : ℕ) → xs ≡ left ++ x ∷ right → before ≡ length left → IsPartitioned (λ i. p (from + i)) xs → p (from + before) x ≡ true → (IsPartitioned (λ i. p (from + before + 1 + i)) right → IsPoint (λ i. p (from + before + 1 + i)) right n) → IsPoint (λ i. p (from + i)) xs (before + 1 + n)
on_right p xs left right x from before n is count_is parts_around passes rest =
    let parts = subst (IsPartitioned (λ i. p (from + i))) is parts_around in
    let same : (i : ℕ) (y : _) → p (from + (length left + suc i)) y ≡ p (from + before + 1 + i) y = λ i y. ap (λ k. p k y) (omega (arith, count_is)) in
    let beyond = rest (partitioned_alike _ _ right same (right_partitioned (λ i. p (from + i)) left right x parts)) in
    let point = point_right (λ i. p (from + i)) left right x n parts (rw count_is at passes) (point_alike _ _ right n (λ i y. sym (same i y)) beyond) in
    rw (is, count_is) point
