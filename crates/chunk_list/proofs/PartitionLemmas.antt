-- The place at which the items of chunks stop passing a test.
use Rattle.std.proofs.Common.{◌≡◌, ℕ, ◌+◌, ◌-◌, ◌<◌, ◌≤◌, Bool, true, false, List, [], ◌∷◌, length, get_or, refl, ap, sym, subst, ◌∙◌, arith, inl, inr}
use Rattle.std.proofs.lemmas.Bool.{cases_order}
use Rattle.std.proofs.lemmas.List.Concat.{get_or-flat_map}
use Rattle.std.specs.Fn.{AlwaysReturns, Called, Mut}
use Rattle.chunk_list.specs.Searches.{IsEdge, IsPartitioned, IsPoint}
use Rattle.chunk_list.specs.Chunks.{AreChunks, first_of, items_of}
use Rattle.chunk_list.specs.declared.chunks.Chunk.{Chunk}
use Rattle.chunk_list.proofs.SplitLemmas.{chunk_end, chunk_is, last_end, next_start}

-- The result of one call.
pub answer : {F X R : Type 0} (g : Mut F X R) (P : X → R → Type 0) (f f' : F) (a : X) (r : R) → Called g f a r f' → AlwaysReturns g P f → P a r
answer g P f f' a r called always = (always.at (a ∷ []) r f' called).0

-- If an item fails, all items after it fail.
fails_after : {X : Type 0} (p : ℕ → X → Bool) (xs : List X) (d : X) → IsPartitioned p xs → (i j : ℕ) → i ≤ j → j < length xs → p i (get_or xs i d) ≡ false → (b : Bool) → p j (get_or xs j d) ≡ b → p j (get_or xs j d) ≡ false
fails_after p xs d parts_around i j order inside fails false is = is
fails_after p xs d parts_around i j order inside fails true is = absurd (cc (fails, parts_around i j d order inside is))

-- The item before a place passes and the one at it fails, so it is the first that fails.
pub point_at : {X : Type 0} (p : ℕ → X → Bool) (xs : List X) (n : ℕ) → IsPartitioned p xs → n ≤ length xs → ((e : X) → 0 < n → p (n - 1) (get_or xs (n - 1) e) ≡ true) → ((e : X) → n < length xs → p n (get_or xs n e) ≡ false) → IsPoint p xs n
point_at p xs n parts_around within pass fail = record {
  pass = λ i e below. parts_around i (n - 1) e (omega (arith, below)) (omega (arith, below, within)) (pass e (omega (arith, below)));
  fail = λ i e from inside. fails_after p xs e parts_around n i from inside (fail e (omega (arith, from, inside))) (p i (get_or xs i e)) refl;
}

module _ {T : Type 0} (p : ℕ → T → Bool) (cs : List (Chunk T)) (d : Chunk T) (h : AreChunks 0 cs) where
  -- An item of a chunk.
  pub item_of : (i j : ℕ) (e : T) → i < length cs → j < length (get_or cs i d).items.items → get_or (items_of cs) ((get_or cs i d).start + j) e ≡ get_or (get_or cs i d).items.items j e
  item_of i j e inside within = ap (λ k. get_or (items_of cs) (k + j) e) (chunk_is cs i d inside h).start ∙ get_or-flat_map (λ c. c.items.items) cs i j d e inside within

  -- The first item of a chunk passes if it passes in the chunk.
  pub first_at : (i : ℕ) (e : T) (b : Bool) → i < length cs → p (get_or cs i d).start (first_of (get_or cs i d) e) ≡ b → p (get_or cs i d).start (get_or (items_of cs) (get_or cs i d).start e) ≡ b
  first_at i e b inside is =
      let start = (get_or cs i d).start in
      let none : start ≡ start + 0 = omega arith in
      ap (λ k. p start (get_or (items_of cs) k e)) none ∙ ap (p start) (item_of i 0 e inside (chunk_is cs i d inside h).some) ∙ is

  -- The chunk's first item passes, the next chunk's doesn't, and `k` items of the chunk pass.
  pub point_in : (i k : ℕ) → i < length cs → k ≤ length (get_or cs i d).items.items → IsPartitioned p (items_of cs) → ((e : T) → p (get_or cs i d).start (first_of (get_or cs i d) e) ≡ true) → ((e : T) → i + 1 < length cs → p (get_or cs (i + 1) d).start (first_of (get_or cs (i + 1) d) e) ≡ false) → ((e : T) → 0 < k → p ((get_or cs i d).start + (k - 1)) (get_or (get_or cs i d).items.items (k - 1) e) ≡ true) → ((e : T) → k < length (get_or cs i d).items.items → p ((get_or cs i d).start + k) (get_or (get_or cs i d).items.items k e) ≡ false) → (get_or cs i d).start + k ≤ length (items_of cs) → IsPoint p (items_of cs) ((get_or cs i d).start + k)
  point_in i k inside within parts_around begins next pass fail total = point_at p (items_of cs) (start + k) parts_around total passes fails
    where
      start : ℕ
      start = (get_or cs i d).start

      passes : (e : T) → 0 < start + k → p (start + k - 1) (get_or (items_of cs) (start + k - 1) e) ≡ true
      passes e some = elim (cases_order k 0) [
        | inl none ↦ absurd (cc (begins e, subst (λ j. p (get_or cs i d).start (first_of (get_or cs i d) e) ≡ false) none (from_start e none)))
        | inr (inl below) ↦ absurd (omega (arith, below))
        | inr (inr above) ↦ at_last e above
      ]
        where
          from_start : (e : T) → k ≡ 0 → p (get_or cs i d).start (first_of (get_or cs i d) e) ≡ false
          from_start e none =
              let here : start + k ≡ start = omega (arith, none) in
              let first = fail e (omega (arith, none, (chunk_is cs i d inside h).some)) in
              subst (λ j. p (get_or cs i d).start (get_or (get_or cs i d).items.items j e) ≡ false) none (subst (λ j. p j (get_or (get_or cs i d).items.items k e) ≡ false) here first)

          at_last : (e : T) → 0 < k → p (start + k - 1) (get_or (items_of cs) (start + k - 1) e) ≡ true
          at_last e above =
              let same : start + (k - 1) ≡ start + k - 1 = omega (arith, above) in
              subst (λ j. p j (get_or (items_of cs) j e) ≡ true) same (ap (p (start + (k - 1))) (item_of i (k - 1) e inside (omega (arith, above, within))) ∙ pass e above)

      fails : (e : T) → start + k < length (items_of cs) → p (start + k) (get_or (items_of cs) (start + k) e) ≡ false
      fails e below = elim (cases_order k (length (get_or cs i d).items.items)) [
        | inl whole ↦ at_next e whole below
        | inr (inl part) ↦ ap (p (start + k)) (item_of i k e inside part) ∙ fail e part
        | inr (inr above) ↦ absurd (omega (arith, above, within))
      ]
        where
          at_next : (e : T) → k ≡ length (get_or cs i d).items.items → start + k < length (items_of cs) → p (start + k) (get_or (items_of cs) (start + k) e) ≡ false
          at_next e whole below = elim (cases_order (i + 1) (length cs)) [
            | inl last ↦ absurd (omega (arith, whole, below, last_end cs i d last h))
            | inr (inl more) ↦ (let same : (get_or cs (i + 1) d).start ≡ start + k = omega (arith, whole, next_start cs i d more h) in
                subst (λ j. p j (get_or (items_of cs) j e) ≡ false) same (first_at (i + 1) e false more (next e more)))
            | inr (inr above) ↦ absurd (omega (arith, above, inside))
          ]

-- No chunk's first item passes.
pub point_none : {T : Type 0} (p : ℕ → T → Bool) (cs : List (Chunk T)) → AreChunks 0 cs → IsPartitioned p (items_of cs) → ((d : Chunk T) (e : T) → 0 < length cs → p (get_or cs 0 d).start (first_of (get_or cs 0 d) e) ≡ false) → IsPoint p (items_of cs) 0
point_none p [] h parts_around fail = record { pass = λ i e below. absurd (omega (arith, below)); fail = λ i e from inside. absurd (omega (arith, inside)) }
point_none p (c ∷ cs) h parts_around fail = point_at p (items_of (c ∷ cs)) 0 parts_around (omega arith) (λ e some. absurd (omega (arith, some))) (λ e some. subst (λ k. p k (get_or (items_of (c ∷ cs)) k e) ≡ false) h.0.start (first_at p (c ∷ cs) c h 0 e false (omega arith) (fail c e (omega arith))))

-- The first items of `passing` chunks pass, and `n` items of the last of these chunks.
pub point_some : {T : Type 0} (p : ℕ → T → Bool) (cs : List (Chunk T)) (i passing n : ℕ) (k : Chunk T) (xs : List T) → AreChunks 0 cs → passing ≡ i + 1 → passing ≤ length cs → k ≡ get_or cs i k → xs ≡ k.items.items → IsPartitioned p (items_of cs) → ((d : Chunk T) (e : T) → IsEdge (λ j. p (get_or cs j d).start (first_of (get_or cs j d) e)) (length cs) passing) → n ≤ length xs → ((e : T) → IsEdge (λ j. p (k.start + j) (get_or xs j e)) (length xs) n) → IsPoint p (items_of cs) (k.start + n)
point_some p cs i passing n k xs h one inside is items parts_around outer within edge = subst (λ c. IsPoint p (items_of cs) (c.start + n)) (sym is) (point_in p cs k h i n here many parts_around begins next (λ e. (inner e).pass) (λ e. (inner e).fail) total)
  where
    here : i < length cs
    here = omega (arith, one, inside)

    many : n ≤ length (get_or cs i k).items.items
    many = subst (λ (c : Chunk _). n ≤ length c.items.items) is (subst (λ (ys : List _). n ≤ length ys) items within)

    total : (get_or cs i k).start + n ≤ length (items_of cs)
    total = let end = subst (λ (c : Chunk _). c.start + length c.items.items ≤ length (items_of cs)) is (chunk_end cs i k h here is) in omega (arith, end, many)

    inner : (e : _) → IsEdge (λ j. p ((get_or cs i k).start + j) (get_or (get_or cs i k).items.items j e)) (length (get_or cs i k).items.items) n
    inner e = subst (λ (c : Chunk _). IsEdge (λ j. p (c.start + j) (get_or c.items.items j e)) (length c.items.items) n) is (subst (λ (ys : List _). IsEdge (λ j. p (k.start + j) (get_or ys j e)) (length ys) n) items (edge e))

    begins : (e : _) → p (get_or cs i k).start (first_of (get_or cs i k) e) ≡ true
    begins e =
        let last : passing - 1 ≡ i = omega (arith, one) in
        subst (λ m. p (get_or cs m k).start (first_of (get_or cs m k) e) ≡ true) last ((outer k e).pass (omega (arith, one)))

    next : (e : _) → i + 1 < length cs → p (get_or cs (i + 1) k).start (first_of (get_or cs (i + 1) k) e) ≡ false
    next e more = subst (λ m. p (get_or cs m k).start (first_of (get_or cs m k) e) ≡ false) one ((outer k e).fail (omega (arith, one, more)))
