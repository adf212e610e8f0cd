-- The order of entries, and the search for those above a mod-sequence.
use Rattle.std.proofs.Common.{◌≡◌, ℕ, Bool, zero, suc, ◌+◌, ◌-◌, ◌<◌, ◌≤◌, true, false, nat_lt, leb, max, List, [], ◌∷◌, ◌++◌, length, drop, get_or, refl, sym, ap, subst, ◌∙◌, arith}
use Rattle.std.specs.Prelude.{slice_index_or}
use Rattle.std.specs.List.{filter}
use Rattle.std.specs.List.Sorted.{IsNonDecreasingBy}
use Rattle.std.proofs.lemmas.Bool.Decides.{nat_tests}
use Rattle.modseq_index.specs.declared.index.ModSeqEntry.{ModSeqEntry}
use Rattle.modseq_index.specs.Edges.{IsEdge}
use Rattle.modseq_index.specs.ModSeqIndex.{AreInOrder, latest}

leb_true : (a b : ℕ) → leb a b ≡ true → a ≤ b
leb_true a b h = grind (arith, nat_tests)

leb_false : (a b : ℕ) → leb a b ≡ false → b < a
leb_false a b h = grind (arith, nat_tests)

pub in_order_from : (low : ℕ) (cs : List ModSeqEntry) → ((d : ModSeqEntry) → 0 < length cs → low ≤ (slice_index_or cs 0 d).modseq) → IsNonDecreasingBy (λ (c : ModSeqEntry). c.modseq) cs → AreInOrder low cs
in_order_from low [] b h = tt
in_order_from low (c ∷ cs) b h = (
  b c (omega arith),
  in_order_from c.modseq cs (λ d k. h 0 1 d (omega arith) (omega arith)) (λ i j d l k. h (suc i) (suc j) d (omega arith) (omega arith)),
)

pub order_put : (low : ℕ) (cs : List ModSeqEntry) (c : ModSeqEntry) → low ≤ c.modseq → latest cs ≤ c.modseq → AreInOrder low cs → AreInOrder low (cs ++ c ∷ [])
order_put low [] c l k h = (l, tt)
order_put low (x ∷ cs) c l k h = (h.0, order_put x.modseq cs c (omega (arith, k)) (omega (arith, k)) h.1)

order_from : (low : ℕ) (cs : List ModSeqEntry) → AreInOrder low cs → (j : ℕ) (d : ModSeqEntry) → j < length cs → low ≤ (get_or cs j d).modseq
order_from low [] h j d k = absurd (omega (arith, k))
order_from low (c ∷ cs) h zero d k = h.0
order_from low (c ∷ cs) h (suc j) d k =
    let first : low ≤ c.modseq = h.0 in
    let rest : c.modseq ≤ (get_or cs j d).modseq = order_from c.modseq cs h.1 j d (omega (arith, k)) in
    omega arith

above_all : (m low : ℕ) (cs : List ModSeqEntry) → m < low → AreInOrder low cs → filter (λ (c : ModSeqEntry). nat_lt m c.modseq) cs ≡ cs
above_all m low [] k h = refl
above_all m low (c ∷ cs) k h =
    let first : low ≤ c.modseq = h.0 in
    let is : nat_lt m c.modseq ≡ true = grind (arith, nat_tests) in
    rw is (ap (λ x. c ∷ x) (above_all m c.modseq cs (omega (arith, k, first)) h.1))

-- The entries above a mod-sequence come after an edge.
pub above_edge : (m low : ℕ) (cs : List ModSeqEntry) (n : ℕ) → AreInOrder low cs → n ≤ length cs → ((d : ModSeqEntry) → IsEdge (λ i. leb (get_or cs i d).modseq m) (length cs) n) → drop n cs ≡ filter (λ (c : ModSeqEntry). nat_lt m c.modseq) cs
above_edge m low [] zero h w e = refl
above_edge m low [] (suc n) h w e = absurd (omega (arith, w))
above_edge m low (c ∷ cs) zero h w e =
    let first : m < c.modseq = leb_false _ _ ((e c).fail (omega arith)) in
    let is : nat_lt m c.modseq ≡ true = grind (arith, nat_tests) in
    rw is (ap (λ x. c ∷ x) (sym (above_all m c.modseq cs first h.1)))
above_edge m low (c ∷ cs) (suc n) h w e =
    let last : (get_or (c ∷ cs) (suc n - 1) c).modseq ≤ m = leb_true _ _ ((e c).pass (omega arith)) in
    let own : AreInOrder c.modseq (c ∷ cs) = (omega arith, h.1) in
    let first : c.modseq ≤ (get_or (c ∷ cs) (suc n - 1) c).modseq = order_from c.modseq (c ∷ cs) own (suc n - 1) c (omega (arith, w)) in
    let is : nat_lt m c.modseq ≡ false = grind (arith, nat_tests) in
    rw is (above_edge m c.modseq cs n h.1 (omega (arith, w)) (λ d. record {
      pass = λ k. let q : suc n - 1 ≡ suc (n - 1) = omega (arith, k) in subst (λ i. leb (get_or (c ∷ cs) i d).modseq m ≡ true) q ((e d).pass (omega arith));
      fail = λ k. (e d).fail (omega (arith, k));
    }))
