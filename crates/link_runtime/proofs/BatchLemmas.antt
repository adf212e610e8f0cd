use Rattle.std.proofs.Common.{◌≡◌, ◌≢◌, ◌⊎◌, inl, inr, ℕ, zero, suc, ◌+◌, ◌<◌, ◌≤◌, ◌-◌, min, Bool, true, false, not, cond, List, [], ◌∷◌, ◌++◌, length, take, drop, get_or, sym, refl, ap, ◌∙◌, subst, arith, add-one, append_assoc, length-append}
use Rattle.std.proofs.lemmas.Bool.{and_parts, and_from, cases_Bool, cases_lt, le-leb, leb-true, lt-ltb, ltb-true}
use Rattle.std.proofs.lemmas.List.{drop_more}
use Rattle.std.proofs.lemmas.List.Sums.{sum_by-append}
use Rattle.tags_clocks.specs.declared.id.OpId.{OpId}
use Rattle.tags_clocks.specs.Clock.{IsCause, count_of}
use Rattle.causal_inbox.specs.Inbox.{is_cause, uncovered_ops}
use Rattle.crdt_ops.specs.declared.op.Op.{Op}
use Rattle.crdt_ops.specs.Ops.{id_of}
use Rattle.op_log.specs.LineBounds.{line_bound, lines_bound}
use Rattle.link_runtime.specs.Batches.{IsFrameLimit}

-- ---- operations that a clock doesn't cover

test_of_cause : (clock : List (ℕ × ℕ)) (i : OpId) → IsCause clock i → is_cause clock i ≡ true
test_of_cause clock i h = and_from _ _ (lt-ltb 0 i.number h.0) (le-leb i.number (count_of clock i.replica) h.1)

cause_of_test : (clock : List (ℕ × ℕ)) (i : OpId) → is_cause clock i ≡ true → IsCause clock i
cause_of_test clock i t =
    let parts = and_parts _ _ t in
    (ltb-true 0 i.number parts.0, leb-true i.number (count_of clock i.replica) parts.1)

left_out : (b : Bool) (op : Op) (ops : List Op) → b ≡ true → cond (not b) (op ∷ ops) ops ≡ ops
left_out true op ops e = refl
left_out false op ops e = absurd cc

kept : (b : Bool) (op : Op) (ops : List Op) → b ≡ false → cond (not b) (op ∷ ops) ops ≡ op ∷ ops
kept true op ops e = absurd cc
kept false op ops e = refl

uncovered_at : (clock : List (ℕ × ℕ)) (ops : List Op) (i : ℕ) (op : Op) → i < length ops → op ≡ get_or ops i op → uncovered_ops id_of clock (drop i ops) ≡ uncovered_ops id_of clock (op ∷ drop (i + 1) ops)
uncovered_at clock ops i op l e = ap (uncovered_ops id_of clock) (drop_more ops i op l ∙ ap (λ (o : Op). o ∷ drop (i + 1) ops) (sym e))

-- an operation that the clock covers is left out
pub uncovered_past : (clock : List (ℕ × ℕ)) (ops : List Op) (i : ℕ) (op : Op) → i < length ops → op ≡ get_or ops i op → IsCause clock op.id → uncovered_ops id_of clock (drop i ops) ≡ uncovered_ops id_of clock (drop (i + 1) ops)
uncovered_past clock ops i op l e h = uncovered_at clock ops i op l e ∙ left_out (is_cause clock op.id) op (uncovered_ops id_of clock (drop (i + 1) ops)) (test_of_cause clock op.id h)

-- another one comes first
pub uncovered_here : (clock : List (ℕ × ℕ)) (ops : List Op) (i : ℕ) (op : Op) → i < length ops → op ≡ get_or ops i op → (IsCause clock op.id → ⊥) → uncovered_ops id_of clock (drop i ops) ≡ op ∷ uncovered_ops id_of clock (drop (i + 1) ops)
uncovered_here clock ops i op l e h =
    uncovered_at clock ops i op l e
    ∙ kept (is_cause clock op.id) op (uncovered_ops id_of clock (drop (i + 1) ops))
    (elim (cases_Bool (is_cause clock op.id)) [ inl t ↦ absurd (h (cause_of_test clock op.id t)) | inr f ↦ f ])

-- ---- a list's next element

pub next_of : (all : List Op) (count : ℕ) (op : Op) (rest : List Op) → drop count all ≡ op ∷ rest → (count < length all) × (take (suc count) all ≡ take count all ++ op ∷ []) × (drop (suc count) all ≡ rest)
next_of [] zero op rest e = absurd cc
next_of [] (suc n) op rest e = absurd cc
next_of (x ∷ xs) zero op rest e =
    let first : x ≡ op = cc in
    let more : xs ≡ rest = cc in
    (omega arith, ap (λ (z : Op). z ∷ []) first, more)
next_of (x ∷ xs) (suc n) op rest e = let h = next_of xs n op rest e in (let l = h.0 in omega (arith, l), ap (λ (ys : List Op). x ∷ ys) h.1, h.2)

pub none_left : (all : List Op) (count : ℕ) → drop count all ≡ [] → length all ≤ count
none_left [] count e = omega arith
none_left (x ∷ xs) zero e = absurd cc
none_left (x ∷ xs) (suc n) e = let h = none_left xs n e in omega (arith, h)

-- ---- the operations of a frame so far

pub record FrameSoFar (all rest : List Op) (count octets : ℕ) : Type 0 where
  pub within : count ≤ length all
  pub rest_is : drop count all ≡ rest
  pub few : count ≤ 256
  pub octets_are : octets ≡ min (lines_bound (take count all)) 18446744073709551615
  pub small : 1 < count → lines_bound (take count all) ≤ 1048576

pub frame_begins : (all : List Op) → FrameSoFar all all 0 0
frame_begins all = record { within = omega arith; rest_is = refl; few = omega arith; octets_are = refl; small = λ l. absurd (omega (arith, l)) }

module _ (all rest : List Op) (op : Op) (count octets more : ℕ) (so : FrameSoFar all (op ∷ rest) count octets) (added : more ≡ min (octets + min (line_bound op) 18446744073709551615) 18446744073709551615) where
  bound_more : lines_bound (take (count + 1) all) ≡ lines_bound (take count all) + line_bound op
  bound_more =
      let next = next_of all count op rest so.rest_is in
      let taken : take (count + 1) all ≡ take count all ++ op ∷ [] = ap (λ (n : ℕ). take n all) (add-one count) ∙ next.1 in
      let sum = sum_by-append line_bound (take count all) (op ∷ []) in
      let total : lines_bound (take (count + 1) all) ≡ lines_bound (take count all) + lines_bound (op ∷ []) = ap lines_bound taken ∙ sum in
      let one : lines_bound (op ∷ []) ≡ line_bound op = omega arith in
      omega (arith, total, one)

  octets_more : more ≡ min (lines_bound (take (count + 1) all)) 18446744073709551615
  octets_more = let b = bound_more in let o = so.octets_are in omega (arith, b, o, added)

  pub frame_more : (256 ≤ count → ⊥) → (0 < count → more ≤ 1048576) → FrameSoFar all rest (count + 1) more
  frame_more few small =
      let next = next_of all count op rest so.rest_is in
      let l = next.0 in
      record {
        within = omega (arith, l);
        rest_is = ap (λ (n : ℕ). drop n all) (add-one count) ∙ next.2;
        few = elim (cases_lt count 256) [ inl k ↦ omega (arith, k) | inr k ↦ absurd (few k) ];
        octets_are = octets_more;
        small = λ k. let o = octets_more in let s = small (omega (arith, k)) in omega (arith, o, s);
      }

  pub frame_full : (256 ≤ count) ⊎ ((0 < count) × (1048576 < more)) → IsFrameLimit all count
  frame_full full = record {
    within = so.within;
    few = so.few;
    small = so.small;
    most = λ l. elim full [
      | inl k ↦ let f = so.few in inl (omega (arith, k, f))
      | inr k ↦ let o = octets_more in let h = k.1 in inr (k.0, omega (arith, o, h))
    ];
  }

pub frame_ends : (all : List Op) (count octets : ℕ) → FrameSoFar all [] count octets → IsFrameLimit all count
frame_ends all count octets so = record {
  within = so.within;
  few = so.few;
  small = so.small;
  most = λ l. let e = none_left all count so.rest_is in absurd (omega (arith, l, e));
}

-- ---- copies

-- one more copy
pub copies_more : (limit : ℕ) (copies all rest more : List Op) (op : Op) → length copies < limit → copies ++ take (limit - length copies) (op ∷ rest) ≡ take limit all → more ≡ copies ++ op ∷ [] → (length more ≤ limit) × (more ++ take (limit - length more) rest ≡ take limit all)
copies_more limit copies all rest more op l h e =
    let long : length more ≡ length copies + 1 = ap length e ∙ length-append copies (op ∷ []) in
    let next : limit - length copies ≡ suc (limit - length more) = omega (arith, l, long) in (
      omega (arith, l, long),
      ap (λ (ops : List Op). ops ++ take (limit - length more) rest) e
          ∙ append_assoc copies (op ∷ []) (take (limit - length more) rest)
          ∙ sym (ap (λ (n : ℕ). copies ++ take n (op ∷ rest)) next)
          ∙ h,
    )
