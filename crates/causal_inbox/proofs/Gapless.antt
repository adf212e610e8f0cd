use Rattle.std.proofs.Common.{◌≡◌, inl, inr, ℕ, ◌+◌, ◌-◌, ◌<◌, ◌≤◌, min, Bool, true, false, not, cond, List, [], ◌∷◌, ◌++◌, Some, get_or, length, map, position, slice_get, take, drop, sym, refl, ap, ◌∙◌, subst, arith}
use Rattle.std.specs.List.{list_any}
use Rattle.std.proofs.lemmas.Bool.{and_from, cases_lt, le-leb, lt-ltb}
use Rattle.std.proofs.lemmas.Bool.Decides.{eqb_tells}
use Rattle.std.proofs.lemmas.List.{take-append-drop, take-map, take-take, take_rest}
use Rattle.std.proofs.lemmas.List.Elements.{filter-append}
use Rattle.std.proofs.lemmas.List.Quantifiers.{position-Some}
use Rattle.std.proofs.lemmas.Option.{get_or_from_slice_get}
use Rattle.tags_clocks.specs.declared.id.OpId.{OpId}
use Rattle.tags_clocks.specs.Clock.{IsCause, count_of}
use Rattle.merge_laws.specs.Orders.{IsIn, HasId, AreSound, IsCausal}
use Rattle.merge_laws.proofs.Causal.{causal_front}
use Rattle.merge_laws.proofs.Lists.{id_in_front, id_of_element, in_front, split_at}
use Rattle.causal_inbox.specs.InboxState.{IsNextId, LacksNextId, id_numbers}
use Rattle.causal_inbox.specs.Inbox.{IsClockOf, is_cause, uncovered_ops}
use Rattle.causal_inbox.proofs.IdNumberLemmas.{any_in, is_pair, number_in, pair_is, pairs_equal}
use Rattle.causal_inbox.proofs.Ordered.{in_take_at}
use Rattle.causal_inbox.proofs.Places.{all_take_next}

-- ---- the first elements of a list

pub in_take : {X : Type 0} (x : X) (n : ℕ) (xs : List X) → IsIn x (take n xs) → IsIn x xs
in_take x n xs h = subst (IsIn x) (take-append-drop n xs) (in_front x (take n xs) (drop n xs) h)

in_longer : {X : Type 0} (x : X) (m n : ℕ) (xs : List X) → m ≤ n → IsIn x (take m xs) → IsIn x (take n xs)
in_longer x m n xs l h = in_take x m (take n xs) (subst (IsIn x) (sym (take-take m n xs l)) h)

-- ---- the result of looking up a number

pub not_in_keys : (n m : ℕ × ℕ) (keys : List (ℕ × ℕ)) → n ≡ m → list_any (is_pair n) keys ≡ false → IsIn m keys → ⊥
not_in_keys n m keys e none h =
    let a = any_in (is_pair n) m keys (pair_is n m e) h in
    absurd (cc (a, none))

pub not_in_front : (n m : ℕ × ℕ) (keys : List (ℕ × ℕ)) (at : ℕ) → n ≡ m → position (is_pair n) keys ≡ Some at → IsIn m (take at keys) → ⊥
not_in_front n m keys at e member h =
    let p = position-Some (is_pair n) keys at m member in
    let w = in_take_at keys at m h in
    let fails : is_pair n (get_or keys w.0 m) ≡ false = p.2 w.0 w.1 in
    let passes : is_pair n (get_or keys w.0 m) ≡ true = pair_is n (get_or keys w.0 m) (e ∙ w.3) in
    absurd (cc (fails, passes))

-- the id at the place of a replica's next number
pub next_of_position : (clock keys : List (ℕ × ℕ)) (at : ℕ) (n id : ℕ × ℕ) → position (is_pair n) keys ≡ Some at → slice_get keys at ≡ Some id → IsNextId clock n → IsNextId clock id
next_of_position clock keys at n id e member next =
    let p = position-Some (is_pair n) keys at id e in
    let q : get_or keys at id ≡ id = get_or_from_slice_get keys at id id member in
    let same : n ≡ id = pairs_equal n id (subst (λ k. is_pair n k ≡ true) q p.1) in
    subst (IsNextId clock) same next

-- ---- the least of several places

pub next_of_less : (clock keys : List (ℕ × ℕ)) (first next new : ℕ) → new ≡ min first next → ((id : ℕ × ℕ) → slice_get keys first ≡ Some id → IsNextId clock id) → ((id : ℕ × ℕ) → slice_get keys next ≡ Some id → IsNextId clock id) → (id : ℕ × ℕ) → slice_get keys new ≡ Some id → IsNextId clock id
next_of_less clock keys first next new least before here id member = elim (cases_lt first next) [
  | inl l ↦ let e : new ≡ first = omega (arith, least, l) in before id (subst (λ (n : ℕ). slice_get keys n ≡ Some id) e member)
  | inr m ↦ let e : new ≡ next = omega (arith, least, m) in here id (subst (λ (n : ℕ). slice_get keys n ≡ Some id) e member)
]

lacks_shorter : (clock keys : List (ℕ × ℕ)) (m n : ℕ) (e : ℕ × ℕ) → m ≤ n → LacksNextId clock (take n keys) e → LacksNextId clock (take m keys) e
lacks_shorter clock keys m n e l h = elim h [
  | inl few ↦ inl few
  | inr none ↦ inr (λ t. none (in_longer (e.0, count_of clock e.0 + 1) m n keys l t))
]

pub lacks_take_next : (clock keys entries : List (ℕ × ℕ)) (i first next new : ℕ) (e : ℕ × ℕ) → i < length entries → e ≡ get_or entries i e → new ≡ min first next → ((x : ℕ × ℕ) → IsIn x (take i entries) → LacksNextId clock (take first keys) x) → LacksNextId clock (take next keys) e → (x : ℕ × ℕ) → IsIn x (take (i + 1) entries) → LacksNextId clock (take new keys) x
lacks_take_next clock keys entries i first next new e l is least before here =
    let low : new ≤ first = omega arith in
    let below : new ≤ next = omega arith in
    all_take_next (LacksNextId clock (take new keys)) entries i e l is (λ x t. lacks_shorter clock keys new first x low (before x t)) (lacks_shorter clock keys new next e below here)

-- ---- the operations that a clock covers

-- if a clock counts operations of a replica, it has an entry for the replica
entry_of_count : (clock : List (ℕ × ℕ)) (r : ℕ) → 0 < count_of clock r → (e : ℕ × ℕ) × IsIn e clock × (e.0 ≡ r) × (e.1 ≡ count_of clock r)
entry_of_count [] r h = absurd (omega (arith, h))
entry_of_count (x ∷ clock) r h =
    elim (eqb_tells x.0 r) [
      | inl t ↦ let here : count_of (x ∷ clock) r ≡ x.1 = rw t.0 refl in (x, inl refl, t.1, sym here)
      | inr n ↦
          let is_same : count_of (x ∷ clock) r ≡ count_of clock r = rw n.0 refl in
          let w = entry_of_count clock r (subst (λ (k : ℕ). 0 < k) is_same h) in
          (w.0, inr w.1, w.2, w.3 ∙ sym is_same)
    ]

pub cause_test : (clock : List (ℕ × ℕ)) (i : OpId) → IsCause clock i → is_cause clock i ≡ true
cause_test clock i h = and_from _ _ (lt-ltb 0 i.number h.0) (le-leb i.number (count_of clock i.replica) h.1)

pub same_ids : (i j : OpId) → i.replica ≡ j.replica → i.number ≡ j.number → i ≡ j
same_ids i j p q = λ k. record { replica = p k; number = q k }

pub left_out : {X : Type 0} (b : Bool) (x : X) (xs : List X) → b ≡ true → cond (not b) (x ∷ xs) xs ≡ xs
left_out true x xs e = refl
left_out false x xs e = absurd cc

module _ {O : Type 0} (id : O → OpId) where
  pub none_uncovered : (clock : List (ℕ × ℕ)) (os : List O) → ((o : O) → IsIn o os → IsCause clock (id o)) → uncovered_ops id clock os ≡ []
  none_uncovered clock [] h = refl
  none_uncovered clock (o ∷ os) h =
      left_out (is_cause clock (id o)) o (uncovered_ops id clock os) (cause_test clock (id o) (h o (inl refl)))
      ∙ none_uncovered clock os (λ p t. h p (inr t))

module _ {O : Type 0} (id : O → OpId) (clock : O → List (ℕ × ℕ)) where
  -- a causal list has a replica's numbers without a gap: with an operation it has all earlier ones
  -- of that replica
  pub has_up_to : (os : List O) (o : O) (i : OpId) → IsCausal id clock os → count_of (clock o) (id o).replica + 1 ≡ (id o).number → IsIn o os → i.replica ≡ (id o).replica → 0 < i.number → i.number ≤ (id o).number → HasId id os i
  has_up_to os o i causal number h same positive most =
      elim (cases_lt i.number (id o).number) [
        | inl l ↦
            let s = split_at o os h in
            let counts : count_of (clock o) i.replica ≡ count_of (clock o) (id o).replica = ap (count_of (clock o)) same in
            let counted : i.number ≤ count_of (clock o) i.replica = omega arith in
            subst (λ (xs : List O). HasId id xs i) (sym s.2) (id_in_front id i s.0 (o ∷ s.1) ((causal s.0 o s.1 s.2).0 i (positive, counted)))
        | inr m ↦
            let last : (id o).number ≡ i.number = omega arith in
            subst (HasId id os) (same_ids (id o) i (sym same) last) (id_of_element id o os h)
      ]

module _ {O : Type 0} (id : O → OpId) (clock : O → List (ℕ × ℕ)) (is_sound : O → Type 0) (next : (o : O) → is_sound o → count_of (clock o) (id o).replica + 1 ≡ (id o).number) where
  one_covered : (os : List O) (keys now other : List (ℕ × ℕ)) (first : ℕ) (o : O) → IsCausal id clock os → AreSound is_sound os → IsClockOf id os now → keys ≡ map (id_numbers id) os → ((e : ℕ × ℕ) → IsIn e now → LacksNextId other (take first keys) e) → IsIn o (take first os) → IsCause other (id o)
  one_covered os keys now other first o causal sound counts is lacks h =
      let whole : IsIn o os = in_take o first os h in
      let number : count_of (clock o) (id o).replica + 1 ≡ (id o).number = next o (sound o whole) in
      let positive : 0 < (id o).number = omega arith in
      let high : (id o).number ≤ count_of now (id o).replica = ((counts (id o)).1 (id_of_element id o os whole)).1 in
      elim (cases_lt (count_of other (id o).replica) (id o).number) [
        | inl l ↦
            let more : 0 < count_of now (id o).replica = omega arith in
            let w = entry_of_count now (id o).replica more in
            let same : count_of other w.0.0 ≡ count_of other (id o).replica = ap (count_of other) w.2 in
            let last : w.0.1 ≡ count_of now (id o).replica = w.3 in
            absurd (elim (lacks w.0 w.1) [
              | inl few ↦ omega (arith, few, same, last, high, l)
              | inr none ↦
                  let one : 0 < count_of other w.0.0 + 1 = omega arith in
                  let most : count_of other w.0.0 + 1 ≤ (id o).number = omega (arith, same, l) in
                  let front : IsCausal id clock (take first os) = causal_front id clock (take first os) (drop first os) (subst (IsCausal id clock) (sym (take-append-drop first os)) causal) in
                  let i : OpId = record { replica = w.0.0; number = count_of other w.0.0 + 1 } in
                  let is_same : HasId id (take first os) i = has_up_to id clock (take first os) o i front number h w.2 one most in
                  none (subst (IsIn (w.0.0, count_of other w.0.0 + 1)) (sym (ap (take first) is ∙ take-map (id_numbers id) first os)) (number_in id (take first os) i is_same))
            ])
        | inr m ↦ (positive, m)
      ]

  -- if no replica's first uncovered operation is among the first ones of the list, the clock covers
  -- these
  pub front_covered : (os : List O) (keys now other : List (ℕ × ℕ)) (first : ℕ) → IsCausal id clock os → AreSound is_sound os → IsClockOf id os now → keys ≡ map (id_numbers id) os → ((e : ℕ × ℕ) → IsIn e now → LacksNextId other (take first keys) e) → uncovered_ops id other (take first os) ≡ []
  front_covered os keys now other first causal sound counts is lacks = none_uncovered id other (take first os) (λ o h. one_covered os keys now other first o causal sound counts is lacks h)
